-- The checks of a core table and a round table that are judged: refusal 2 of their rows, then refusal 5 of their words. The verdict makes
-- the one after the other (proofs/Passed.antt: `verdict-checked`); a job checks its counts and its report between them.
use Rattle.std.specs.Prelude.{List, ℕ, length}
use Rattle.std.proofs.Math.Option.{Option}
use Rattle.field.specs.Elements.{first_not_element}
use Rattle.answer.specs.Refusal.{refuse_if, refuse_at}
use Rattle.answer.specs.declared.Refusal.{Refusal}
use Rattle.answer.specs.declared.Refusal.TheVariants.{NotWhole, NotElement}
use Rattle.verdict.specs.Verdict.{ragged}
use Rattle.verdict.specs.CoreAndRound.{core_layout, round_layout}

-- 2: "a table to be read .. that is not whole rows .., detail 0 core, 1 round"
abbrev pub not_rows : List ℕ → List ℕ → Option Refusal → Option Refusal
not_rows core round later =
    refuse_if (ragged core_layout core) (NotWhole 0) (refuse_if (ragged round_layout round) (NotWhole 1) later)

-- 5: "any word of a judged table .. is p or more, detail its place in that slice from 0, core before round"
abbrev pub not_words : List ℕ → List ℕ → Option Refusal → Option Refusal
not_words core round later =
    refuse_at (first_not_element core (length core)) NotElement
    (refuse_at (first_not_element round (length round)) NotElement later)
