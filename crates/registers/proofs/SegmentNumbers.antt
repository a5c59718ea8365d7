-- A charge and a look through a register do not depend on segment numbers: of two lists that differ in them only, where every number fits,
-- both are refused alike and leave the same.
use mathlib.Core.Path.{◌≡◌}
use mathlib.Core.Bool.{Bool}
use mathlib.Core.List.{List}
use mathlib.Core.Option.{Option, or_else}
use Prim.Native.Nat.{ℕ}
use lib.ListN.{length}
use Rattle.field.specs.Elements.{first_not_element}
use Rattle.answer.specs.Refusal.{refuse_at, accepted, over_limit, too_short, not_rounds, not_floor, overwrite, afterwards}
use Rattle.answer.specs.declared.Refusal.{Refusal}
use Rattle.answer.specs.declared.Refusal.TheVariants.{NotElement}
use Rattle.bitwise.specs.Columns.{NUM-COUNTERS}
use Rattle.bitwise.specs.Charge.{charged_words, charged_counters}
use Rattle.keccak.specs.SegmentNumbers.{ButSegments, ShortSegments}
use Rattle.keccak.proofs.SegmentNumbers.{list-free}
use Rattle.segment_counts.specs.Segment.{segment_refusal, look_short}
use Rattle.segment_counts.proofs.SegmentNumbers.{charged-free}
use Rattle.registers.specs.Registers.{not_register, own_refusal, charged_ledgers, through_refusal, register_refusal, register_counters_after, register_ledgers_after, register_look_words, REGISTER-LOOK-WORDS, register_look_refusal, register_look_copy_after, register_look_out_after}

module _ (a b : List ℕ) (but : ButSegments a b) (short-a : ShortSegments a) (short-b : ShortSegments b) (nr floor register : ℕ) (counters ledgers : List ℕ) where
  -- what is refused for the list and the counters, and so all that is refused
  through-free : (rooms : Option Refusal → Option Refusal) → through_refusal rooms nr floor register a counters ledgers ≡ through_refusal rooms nr floor register b counters ledgers
  unfolding through_refusal
  through-free rooms =
      let list : segment_refusal rooms a counters ≡ segment_refusal rooms b counters =
      list-free a b but short-a short-b over_limit (λ n. rooms) (refuse_at (first_not_element counters NUM-COUNTERS) NotElement accepted) in
      λ t. not_rounds nr (not_floor floor (not_register register (length ledgers) (or_else (list t) (own_refusal register ledgers))))

  module _ (shipped : Bool) where
    pub register-call-free :
        (register_refusal nr floor register a counters ledgers ≡ register_refusal nr floor register b counters ledgers)
        × (register_counters_after nr floor shipped register a counters ledgers ≡ register_counters_after nr floor shipped register b counters ledgers)
        × (register_ledgers_after nr floor shipped register a counters ledgers ≡ register_ledgers_after nr floor shipped register b counters ledgers)
    register-call-free =
        let e = through-free (too_short (length counters) NUM-COUNTERS) in
        let f = charged-free a b but nr floor shipped in (
          e,
          (λ t. afterwards (e t) (charged_counters counters (f t)) counters),
          λ t. afterwards (e t) (charged_ledgers register ledgers (f t)) ledgers,
        )

    pub register-look-free : (copy out : List ℕ) →
        (register_look_refusal nr floor register a counters ledgers (length copy) (length out) ≡ register_look_refusal nr floor register b counters ledgers (length copy) (length out))
        × (register_look_copy_after nr floor shipped register a counters ledgers copy (length out) ≡ register_look_copy_after nr floor shipped register b counters ledgers copy (length out))
        × (register_look_out_after nr floor shipped register a counters ledgers (length copy) out ≡ register_look_out_after nr floor shipped register b counters ledgers (length copy) out)
    register-look-free copy out =
        let e = through-free (look_short REGISTER-LOOK-WORDS (length counters) (length copy) (length out)) in
        let f = charged-free a b but nr floor shipped in (
          e,
          (λ t. afterwards (e t) (overwrite (charged_words counters (f t)) copy) copy),
          λ t. afterwards (e t) (overwrite (register_look_words register counters ledgers (f t)) out) out,
        )
