use mathlib.Core.Path.{refl, sym, ◌∙◌}
use native.Mathlib.Omega.{arith}
use borrow.Author.Tests.{not-true, not-false}
use Rattle.sha3.specs.Sha3.{absorbed}
use Rattle.message.proofs.Message.{turn-op, turn-state, part_same, part-differs, all_same}
use Rattle.message.proofs.blocks.is_list.Goals as goal

pub loop-i-init : goal.loop-i-init
unfolding absorbed
loop-i-init c = (c.block_count-n.ensures, omega arith, refl, λ k l. absurd (omega arith))

pub block_operation-op-requires : goal.block_operation-op-requires
block_operation-op-requires c = (omega arith, omega arith)

pub returns-then-not-same_operation : goal.returns-then-not-same_operation
returns-then-not-same_operation c =
    let a = c.args in
    let m = a.message.now in
    let i = c.loop-i.i in
    let o = c.block_operation-op.result in
    sym (part-differs m a.address a.timestamp a.ops.now i (omega arith) o
    (turn-op m a.address a.timestamp i o c.loop-i.state.lanes c.block_operation-op.ensures c.loop-i.invariant.2)
    (not-false _ (sym c.same_operation.ensures ∙ c.if-not-same_operation.true)))

pub loop-i-preserved : goal.loop-i-preserved
loop-i-preserved c =
    let a = c.args in
    let m = a.message.now in
    let i = c.loop-i.i in
    let o = c.block_operation-op.result in
    let e = c.block_operation-op.ensures in
    let s = c.loop-i.invariant.2 in (
      c.loop-i.invariant.0,
      omega arith,
      c.state_after-state.ensures ∙ turn-state m a.address a.timestamp i o c.loop-i.state.lanes e s,
      part_same m a.address a.timestamp a.ops.now i (omega arith) o (turn-op m a.address a.timestamp i o c.loop-i.state.lanes e s)
          (not-true _ (sym c.same_operation.ensures ∙ c.if-not-same_operation.false)) c.loop-i.invariant.3,
    )

pub returns : goal.returns
returns c =
    let a = c.args in
    sym (all_same a.message.now a.address a.timestamp a.ops.now c.requires.0 (λ k l. c.loop-i.invariant.3 k (omega arith)))
