-- `segment_counts::charge_segment` meets its contract: core rows, round rows, padding rows (Segments.antt).
use mathlib.Core.List.{List}
use mathlib.Core.Path.{◌≡◌, sym, subst}
use Prim.Native.Nat.{ℕ}
use native.Mathlib.Omega.{arith}
use Rattle.field.specs.Elements.{ElementRow}
use Rattle.bitwise.specs.Columns.{NUM-COUNTERS}
use Rattle.bitwise.specs.Charge.{charged_counters}
use Rattle.bitwise.proofs.Charge.{may_add, charged-elements}
use Rattle.keccak.specs.Refusals.{op_count}
use Rattle.keccak_rnd.proofs.Rows.{few-rows}
use Rattle.segment_counts.proofs.Segments.{rounds-sent, sent-most, segment-all}
use Rattle.segment_counts.proofs.charge_segment.Goals as goal

-- the counters after a charge
still : {old C : List ℕ} (f : ℕ → ℕ) → ElementRow NUM-COUNTERS old → C ≡ charged_counters old f → ElementRow NUM-COUNTERS C
still f r e = subst (ElementRow NUM-COUNTERS) (sym e) (charged-elements _ _ r.long)

pub charge_op_rounds-requires : goal.charge_op_rounds-requires
charge_op_rounds-requires c = (c.requires.0, omega arith, still _ c.requires.3 (c.charge_core_rows.ensures 0))

pub sent_rows-requires : goal.sent_rows-requires
sent_rows-requires c = (c.requires.0, c.requires.2)

pub overflow_mul-padding : goal.overflow_mul-padding
overflow_mul-padding c = omega (arith, few-rows c.args.nr (op_count c.args.ops.now) c.requires.0 c.requires.2)

pub overflow_sub-padding : goal.overflow_sub-padding
overflow_sub-padding c =
    omega (arith, c.sent_rows.ensures, rounds-sent c.args.nr c.args.floor c.args.shipped (op_count c.args.ops.now))

pub overflow_mul-padding-2 : goal.overflow_mul-padding-2
overflow_mul-padding-2 c =
    omega (arith, c.sent_rows.ensures, sent-most c.args.nr c.args.floor c.args.shipped (op_count c.args.ops.now) c.requires.0 c.requires.1 c.requires.2)

pub charge_word-requires : goal.charge_word-requires
charge_word-requires c =
    may_add 3 (still _ (still _ c.requires.3 (c.charge_core_rows.ensures 0)) c.charge_op_rounds.ensures) (omega arith)

pub returns : goal.returns
returns c =
    segment-all c.args.nr c.args.floor c.args.shipped c.args.ops.now _ _ _ _ _ c.requires.3.long (c.charge_core_rows.ensures c.args.nr) c.charge_op_rounds.ensures c.sent_rows.ensures c.charge_word.ensures
