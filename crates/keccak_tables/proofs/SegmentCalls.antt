-- What the calls that charge a segment promise (src/segment_calls.rt), as Kept.antt says.
use mathlib.Core.Path.{◌≡◌}
use lib.ListN.{length}
use Rattle.answer.specs.Refusal.{answer_of}
use Rattle.segment_counts.specs.Segment.{charge_refusal, charge_after, look_refusal, look_copy_after, look_out_after}
use Rattle.flat.specs.Flat.{flat_answer}
use Rattle.keccak_tables.proofs.Kept.{Kept}
use Rattle.keccak_tables.proofs.segment_calls.keccak_tables_charge.Kinds as charge-kinds
use Rattle.keccak_tables.proofs.segment_calls.keccak_tables_charge.Reads as charge-reads
use Rattle.keccak_tables.proofs.segment_calls.keccak_tables_look.Kinds as look-kinds
use Rattle.keccak_tables.proofs.segment_calls.keccak_tables_look.Reads as look-reads

pub record SegmentCalls : Type 0 where
  -- charge(nr, floor, shipped, ops, counters) → FlatAnswer
  pub charge : Kept _ charge-kinds.ps charge-kinds.r charge-reads.Asked charge-reads.Learnt (λ _ lent answer ended.
      let nr = lent.0 in
      let floor = lent.1.0 in
      let shipped = lent.1.1.0 in
      let ops = lent.1.1.1.0.now in
      let counters = lent.1.1.1.1.0.now in
      let counters' = ended.1.1.1.1.0.now in
      (answer ≡ flat_answer (answer_of (charge_refusal nr floor ops counters)))
      × (counters' ≡ charge_after nr floor shipped ops counters))
  -- look(nr, floor, shipped, ops, counters, copy, out) → FlatAnswer
  pub look : Kept _ look-kinds.ps look-kinds.r look-reads.Asked look-reads.Learnt (λ _ lent answer ended.
      let nr = lent.0 in
      let floor = lent.1.0 in
      let shipped = lent.1.1.0 in
      let ops = lent.1.1.1.0.now in
      let counters = lent.1.1.1.1.0.now in
      let copy = lent.1.1.1.1.1.0.now in
      let out = lent.1.1.1.1.1.1.0.now in
      let copy' = ended.1.1.1.1.1.0.now in
      let out' = ended.1.1.1.1.1.1.0.now in
      (answer ≡ flat_answer (answer_of (look_refusal nr floor ops counters (length copy) (length out))))
      × ((copy' ≡ look_copy_after nr floor shipped ops counters copy (length out))
      × (out' ≡ look_out_after nr floor shipped ops counters (length copy) out)))

pub segment-calls : SegmentCalls
segment-calls =
    record {
      charge = record { wants-nothing = λ _ _. tt; tells = λ _ _ _ _ e. e };
      look = record { wants-nothing = λ _ _. tt; tells = λ _ _ _ _ e. e };
    }
