use mathlib.Core.Path.{refl, ap, ◌∙◌}
use Prim.Native.Nat.{◌*◌}
use native.Mathlib.Omega.{arith}
use lib.Seq.{sets}
use Rattle.lists.proofs.Laws.{filled_none, filled_row_lem, filled-rows}
use Rattle.sha3.specs.Sha3.{blocks, absorbed}
use Rattle.keccak.specs.Row.{list_words}
use Rattle.keccak.specs.declared.KeccakOperation.{KeccakOperation}
use Rattle.message.specs.Message.{message_op, message_list}
use Rattle.message.proofs.Message.{length-op, turn-op, turn-state}
use Rattle.message.proofs.blocks.put_list.Goals as goal

pub loop-i-init : goal.loop-i-init
unfolding absorbed
loop-i-init c = (c.block_count-n.ensures, omega arith, refl, filled_none _ _ _ _)

pub put_operation-requires : goal.put_operation-requires
put_operation-requires c = omega (arith, c.loop-i.invariant.3.long)

pub loop-i-preserved : goal.loop-i-preserved
loop-i-preserved c =
    let a = c.args in
    let m = a.message.now in
    let i = c.loop-i.i in
    let o = c.block_operation-op.result in
    let e = c.block_operation-op.ensures in
    let s = c.loop-i.invariant.2 in (
      c.loop-i.invariant.0,
      omega arith,
      c.state_after-state.ensures ∙ turn-state m a.address a.timestamp i o c.loop-i.state.lanes e s,
      filled_row_lem (blocks m) 53 (λ i. list_words (message_op m a.address a.timestamp i)) i c.loop-i.invariant.3 (omega arith)
          (length-op m a.address a.timestamp i) (omega arith)
          (c.put_operation.ensures ∙ ap (λ (o : KeccakOperation). sets c.loop-i.ops (i * 53) (list_words o)) (turn-op m a.address a.timestamp i o c.loop-i.state.lanes e s)),
    )

pub returns : goal.returns
unfolding message_list
returns c = filled-rows _ 53 _ c.loop-i.i c.loop-i.invariant.3 (omega arith)
