-- The counters of the lookups, ten to a row: `bump` and `bump_n`, which add to one of them, and `merge`.
use Rattle.std.specs.Prelude.{ℕ, ◌+◌, ◌*◌, Bool, ◌&&◌, List, leb, ltb, length, get_or, set}
use Rattle.std.proofs.Math.Option.{Option}
use Rattle.lists.specs.Tab.{pick, tab, word}
use Rattle.field.specs.Field.{p, fadd}
use Rattle.field.specs.Elements.{first_not_element}
use Rattle.answer.specs.Refusal.{refuse_if, refuse_at, accepted, overwrite, afterwards, past_end, too_short}
use Rattle.answer.specs.declared.Refusal.{Refusal}
use Rattle.answer.specs.declared.Refusal.TheVariants.{NotElement}
use Rattle.bitwise.specs.Columns.{NUM-LOOKUP-TYPES, NUM-COUNTERS, Z-END}
use Rattle.bitwise.specs.Row.{row-index}

-- Where the counter of a kind stands for X, Y and Z: "Counters are 10,485,760 words, at row × 10 + kind, kinds 0 to 9
-- as in `lookup_type_index`." (The Rust keeps kind · 2^20 + row.)
abbrev pub counter_at : ℕ → ℕ → ℕ → ℕ → ℕ
counter_at kind x y z = row-index x y z * NUM-LOOKUP-TYPES + kind

-- n more on one word, mod p. Every other is as it was.
unfoldable pub charge : List ℕ → ℕ → ℕ → List ℕ
charge words at n = set words at (fadd (get_or words at 0) n)

-- What `bump` and `bump_n` refuse: 1 the kind, then Z; 3 too few counters; 5 the counter charged is p or more.
unfoldable pub bump_refusal : List ℕ → ℕ → ℕ → ℕ → ℕ → Option Refusal
bump_refusal counters kind x y z =
    past_end NUM-LOOKUP-TYPES kind
    (past_end Z-END z
    (too_short (length counters) NUM-COUNTERS
    (refuse_if (leb p (word counters (counter_at kind x y z))) (NotElement (counter_at kind x y z))
    accepted)))

-- What `bump_n` leaves: "Add `n` occurrences of one lookup in a single step", or the old counters where it is refused.
abbrev pub bump_n_after : List ℕ → ℕ → ℕ → ℕ → ℕ → ℕ → List ℕ
bump_n_after counters kind x y z n =
    afterwards (bump_refusal counters kind x y z) (charge counters (counter_at kind x y z) n) counters

-- What `bump` leaves: "One call adds one to one counter mod p."
abbrev pub bump_after : List ℕ → ℕ → ℕ → ℕ → ℕ → List ℕ
bump_after counters kind x y z = bump_n_after counters kind x y z 1

-- "the counter charged is p or more", where several are: counter c, whose word is `words c`, if anything is added to it
unfoldable pub large_charged : (ℕ → ℕ) → (ℕ → ℕ) → ℕ → Bool
large_charged added words c = ltb 0 (added c) && leb p (words c)

-- the lower of `least` and counter c, if its word w is p or more: how the first such counter is found while a list is gone through
unfoldable pub lower_large : ℕ → ℕ → ℕ → ℕ
lower_large w c least = pick (leb p w && ltb c least) c least

-- "Merge another histogram into this one": each of the counters is the sum of the two, mod p.
unfoldable pub merged : List ℕ → List ℕ → List ℕ
merged counters other = overwrite (tab NUM-COUNTERS (λ k. fadd (word counters k) (word other k))) counters

-- What `merge` refuses: 3 too few counters, in the first slice, then in the other; 5 the first of the counters that is p
-- or more, then the first of the other's.
unfoldable pub merge_refusal : List ℕ → List ℕ → Option Refusal
merge_refusal counters other =
    too_short (length counters) NUM-COUNTERS
    (too_short (length other) NUM-COUNTERS
    (refuse_at (first_not_element counters NUM-COUNTERS) NotElement
    (refuse_at (first_not_element other NUM-COUNTERS) NotElement
    accepted)))

-- What it leaves: the sums, or the old counters where it is refused.
abbrev pub merge_after : List ℕ → List ℕ → List ℕ
merge_after counters other = afterwards (merge_refusal counters other) (merged counters other) counters
