-- What is charged does not depend on segment numbers: of two lists that differ in them only the same is charged to every counter, and
-- where every number fits a charge and a look refuse both alike and leave the same.
use mathlib.Core.Path.{◌≡◌, refl}
use mathlib.Core.Bool.{Bool}
use mathlib.Core.List.{List}
use mathlib.Core.Option.{Option}
use Prim.Native.Nat.{ℕ}
use lib.ListN.{length}
use Rattle.field.specs.Elements.{first_not_element}
use Rattle.answer.specs.Refusal.{refuse_at, accepted, over_limit, too_short, not_rounds, not_floor, overwrite, afterwards}
use Rattle.answer.specs.declared.Refusal.{Refusal}
use Rattle.answer.specs.declared.Refusal.TheVariants.{NotElement}
use Rattle.bitwise.specs.Columns.{NUM-COUNTERS}
use Rattle.bitwise.specs.Charge.{charged_words, charged_counters}
use Rattle.keccak.specs.Row.{core_groups, core_row, core_row_at}
use Rattle.keccak.specs.Refusals.{too_many, not_whole, bad_operation}
use Rattle.keccak.specs.SegmentNumbers.{ButSegments, ShortSegments}
use Rattle.keccak.proofs.SegmentNumbers.{free, list-free}
use Rattle.keccak_rnd.specs.Row.{op_row, round_row_at}
use Rattle.segment_counts.specs.Segment.{segment_charged, list_charged, charge_refusal, charge_after, LOOK-WORDS, look_words, look_refusal, look_copy_after, look_out_after}

module _ (a b : List ℕ) (but : ButSegments a b) (nr floor : ℕ) where
  pub charged-free : (shipped : Bool) → list_charged nr floor shipped a ≡ list_charged nr floor shipped b
  unfolding segment_charged core_row_at core_row core_groups round_row_at op_row
  charged-free shipped = free a b but (segment_charged nr floor shipped) (λ n op. refl)

  module _ (short-a : ShortSegments a) (short-b : ShortSegments b) where
    -- 8, 9 and 1 before the list's length, and then the slices and the operations
    checks-free : (rooms : Option Refusal → Option Refusal) (later : Option Refusal)
        → not_rounds nr (not_floor floor (too_many a (not_whole a (rooms (bad_operation a later)))))
        ≡ not_rounds nr (not_floor floor (too_many b (not_whole b (rooms (bad_operation b later)))))
    checks-free rooms = list-free a b but short-a short-b (λ n later. not_rounds nr (not_floor floor (over_limit n later))) (λ n. rooms)

    pub charge-call-free : (shipped : Bool) (counters : List ℕ)
        → (charge_refusal nr floor a counters ≡ charge_refusal nr floor b counters) × (charge_after nr floor shipped a counters ≡ charge_after nr floor shipped b counters)
    unfolding charge_refusal
    charge-call-free shipped counters =
        let c = checks-free (too_short (length counters) NUM-COUNTERS) (refuse_at (first_not_element counters NUM-COUNTERS) NotElement accepted) in
        (c, λ t. afterwards (c t) (charged_counters counters (charged-free shipped t)) counters)

    look-checks-free : (counters : List ℕ) (copy out : ℕ) → look_refusal nr floor a counters copy out ≡ look_refusal nr floor b counters copy out
    unfolding look_refusal
    look-checks-free counters copy out =
        checks-free (λ later. too_short (length counters) NUM-COUNTERS (too_short copy NUM-COUNTERS (too_short out LOOK-WORDS later)))
        (refuse_at (first_not_element counters NUM-COUNTERS) NotElement accepted)

    pub look-call-free : (shipped : Bool) (counters copy out : List ℕ)
        → (look_refusal nr floor a counters (length copy) (length out) ≡ look_refusal nr floor b counters (length copy) (length out))
        × (look_copy_after nr floor shipped a counters copy (length out) ≡ look_copy_after nr floor shipped b counters copy (length out))
        × (look_out_after nr floor shipped a counters (length copy) out ≡ look_out_after nr floor shipped b counters (length copy) out)
    look-call-free shipped counters copy out =
        let c = look-checks-free counters (length copy) (length out) in (
          c,
          (λ t. afterwards (c t) (overwrite (charged_words counters (charged-free shipped t)) copy) copy),
          λ t. afterwards (c t) (overwrite (look_words counters (charged-free shipped t)) out) out,
        )
