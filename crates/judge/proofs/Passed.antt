-- What the checks of two tables say, and that the verdict makes them first.
--     rows-still, words-still     a refusal by the check stands, whatever is checked later
--     rows-passed, words-passed   what is known where a check passes
--     rows-later, words-later     a check that passes leaves the answer to the later ones
--     verdict-checked             the verdict is the refusal of the two checks, else that from the core values on
--     verdict-passed              so it is the latter where nothing is refused
use mathlib.Core.Path.{◌≡◌, refl, sym, ap, ◌∙◌}
use mathlib.Core.Bool.{Bool, true, false}
use mathlib.Core.Option.{Option, none, some}
use mathlib.Core.List.{List}
use Prim.Native.Nat.{ℕ}
use lib.ListN.{length}
use Rattle.lists.specs.Tab.{pick}
use Rattle.field.specs.Elements.{first_not_element}
use Rattle.field.proofs.NotElement.{all-elements, none_found}
use Rattle.answer.specs.Refusal.{accepted, refuse_if, refuse_at}
use Rattle.answer.specs.declared.Refusal.{Refusal}
use Rattle.answer.specs.declared.Refusal.TheVariants.{NotWhole, NotElement}
use Rattle.answer.proofs.Laws.{still-if, still-at, passed-if, passed-at, none_told_lem, refuse-no, at-no}
use Rattle.verdict.specs.Kind.{Whole, Elements}
use Rattle.verdict.specs.Verdict.{ragged, stage, judged, from_core_words, from_round_words, from_core_value}
use Rattle.verdict.specs.CoreAndRound.{core_layout, round_layout, core_kind, round_kind, verdict_at}
use Rattle.verdict.specs.declared.Verdict.{Verdict}
use Rattle.verdict.specs.declared.Verdict.TheVariants.{Refused}
use Rattle.verdict.proofs.Stages.{passes, whole-separates}
use Rattle.judge.specs.Checks.{not_rows, not_words}

module _ (core round : List ℕ) where
  pub rows-still : {r : Refusal} (later : Option Refusal) → not_rows core round accepted ≡ some r → not_rows core round later ≡ some r
  rows-still later = still-if _ _ (still-if _ _ (λ e. absurd (none_told_lem e)))

  pub words-still : {r : Refusal} (later : Option Refusal) → not_words core round accepted ≡ some r → not_words core round later ≡ some r
  words-still later = still-at _ _ (still-at _ _ (λ e. absurd (none_told_lem e)))

  pub rows-passed : (later : Option Refusal) → not_rows core round later ≡ none → Whole core_layout core × Whole round_layout round × (later ≡ none)
  rows-passed later e =
      let a = passed-if _ _ _ e in
      let b = passed-if _ _ _ a.1 in
      ((whole-separates core_layout core).holds a.0, (whole-separates round_layout round).holds b.0, b.1)

  pub words-passed : (later : Option Refusal) → not_words core round later ≡ none → Elements core × Elements round × (later ≡ none)
  words-passed later e =
      let a = passed-at _ _ _ e in
      let b = passed-at _ _ _ a.1 in
      (all-elements core (length core) a.0, all-elements round (length round) b.0, b.1)

  pub rows-later : (later : Option Refusal) → Whole core_layout core → Whole round_layout round → not_rows core round later ≡ later
  rows-later later c r = refuse-no _ ((whole-separates core_layout core).is_false c) (refuse-no _ ((whole-separates round_layout round).is_false r) refl)

  pub words-later : (later : Option Refusal) → Elements core → Elements round → not_words core round later ≡ later
  words-later later c r = at-no NotElement (none_found core (length core) c) (at-no NotElement (none_found round (length round) r) refl)

-- ---- a check as a stage of the verdict
if-stage : (b : Bool) (r : Refusal) (later : Option Refusal) (v : Verdict) → pick b (Refused r) (stage later Refused v) ≡ stage (refuse_if b r later) Refused v
unfolding refuse_if stage
if-stage true r later v = refl
if-stage false r later v = refl

at_stage : (o : Option ℕ) (f : ℕ → Refusal) (later : Option Refusal) (v : Verdict) → stage o (λ k. Refused (f k)) (stage later Refused v) ≡ stage (refuse_at o f later) Refused v
unfolding refuse_at stage
at_stage none f later v = refl
at_stage (some k) f later v = refl

module _ (nr : ℕ) (core round : List ℕ) where
  abbrev judged_rows : Verdict
  judged_rows = from_core_value (core_kind nr) round_kind core round

  words-stage : from_core_words (core_kind nr) round_kind core round ≡ stage (not_words core round accepted) Refused judged_rows
  unfolding from_core_words from_round_words
  words-stage =
      let o : Option ℕ = first_not_element core (length core) in
      let o' : Option ℕ = first_not_element round (length round) in
      ap (λ (v : Verdict). stage o (λ k. Refused (NotElement k)) (stage o' (λ k. Refused (NotElement k)) v)) (sym (passes none Refused judged_rows refl))
      ∙ ap (stage o (λ k. Refused (NotElement k))) (at_stage o' NotElement accepted judged_rows)
      ∙ at_stage o NotElement (refuse_at o' NotElement accepted) judged_rows

  pub verdict-checked : verdict_at nr core round ≡ stage (not_rows core round (not_words core round accepted)) Refused judged_rows
  unfolding judged
  verdict-checked =
      let b : Bool = ragged core_layout core in
      let b' : Bool = ragged round_layout round in
      ap (λ (v : Verdict). pick b (Refused (NotWhole 0)) (pick b' (Refused (NotWhole 1)) v)) words-stage
      ∙ ap (pick b (Refused (NotWhole 0))) (if-stage b' (NotWhole 1) (not_words core round accepted) judged_rows)
      ∙ if-stage b (NotWhole 0) (refuse_if b' (NotWhole 1) (not_words core round accepted)) judged_rows

  pub verdict-passed : Whole core_layout core → Whole round_layout round → Elements core → Elements round → verdict_at nr core round ≡ judged_rows
  verdict-passed c r c' r' = verdict-checked ∙ passes _ Refused judged_rows (rows-later core round _ c r ∙ words-later core round accepted c' r')
