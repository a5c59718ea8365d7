-- What the functions of this crate say to one another: the checks of `charge` and `look` as one, the larger of two words, and the words
-- of a look. No call's promise uses them.
use Rattle.std.specs.Prelude.{ℕ, ◌/◌, ◌%◌, List, eqb, ltb}
use Rattle.std.proofs.Math.Option.{Option}
use Rattle.lists.specs.Tab.{pick, word}
use Rattle.answer.specs.Refusal.{too_short, not_rounds, not_floor}
use Rattle.answer.specs.declared.Refusal.{Refusal}
use Rattle.segment_counts.specs.Segment.{segment_refusal}

-- the checks, with a slice of `room` words of which `needed` are needed
unfoldable pub counts_refusal : ℕ → ℕ → ℕ → ℕ → List ℕ → List ℕ → Option Refusal
counts_refusal nr floor room needed ops counters =
    not_rounds nr (not_floor floor (segment_refusal (too_short room needed) ops counters))

-- the larger of two
unfoldable pub larger : ℕ → ℕ → ℕ
larger a b = pick (ltb a b) b a

-- word j of a look: the sum of kind j / 2, or the largest
abbrev pub look_word : List ℕ → List ℕ → ℕ → ℕ
look_word sums most j = pick (eqb (j % 2) 0) (word sums (j / 2)) (word most (j / 2))
