use mathlib.Core.Path.{sym, ap, ◌∙◌, subst}
use Prim.Native.Nat.{◌+◌, ◌*◌, ◌<◌, ◌^◌}
use native.Mathlib.Omega.{arith}
use native.Mathlib.Nat.{zero-add}
use lib.Seq.{sets}
use Rattle.keccak.specs.declared.KeccakOperation.{KeccakOperation}
use Rattle.keccak.specs.Row.{core_row, op_at}
use Rattle.lists.proofs.Laws.{filled_none, filled_row_lem, filled-rows}
use Rattle.keccak.proofs.Cells.{length-core}
use Rattle.keccak.proofs.Checks.{address-fits, segment-fits}
use Rattle.keccak_trace.proofs.put_op_rows.Goals as goal

pub loop-i-init : goal.loop-i-init
loop-i-init c = (omega arith, filled_none _ _ _ _)

pub operation_at-op-requires : goal.operation_at-op-requires
operation_at-op-requires c =
    (omega arith, segment-fits c.args.ops.now c.args.n c.loop-i.i c.requires.3 c.loop-i-test.true)

pub put_core_row-requires : goal.put_core_row-requires
put_core_row-requires c =
    let i = c.loop-i.i in
    (omega arith, subst (λ (o : KeccakOperation). o.state_addr + 192 < 2 ^ 64) (sym c.operation_at-op.ensures) (address-fits c.args.ops.now c.args.n i c.requires.2 c.loop-i-test.true))

pub loop-i-preserved : goal.loop-i-preserved
loop-i-preserved c =
    let ops = c.args.ops.now in
    let i = c.loop-i.i in (
      omega arith,
      filled_row_lem _ 486 (λ j. core_row (op_at ops j)) i c.loop-i.invariant.1 c.loop-i-test.true (length-core (op_at ops i)) (sym (zero-add (i * 486)))
          (c.put_core_row.ensures ∙ ap (λ (o : KeccakOperation). sets c.loop-i.table (i * 486) (core_row o)) c.operation_at-op.ensures),
    )

pub returns : goal.returns
returns c = filled-rows _ 486 _ c.loop-i.i c.loop-i.invariant.1 c.loop-i-test.false
