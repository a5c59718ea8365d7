use mathlib.Core.Path.{sym, ap, subst, ◌∙◌}
use Prim.Native.Nat.{ℕ, ◌+◌, ◌*◌, ◌<◌, ◌^◌}
use native.Mathlib.Omega.{arith}
use native.Mathlib.Nat.{zero-add}
use lib.Seq.{sets}
use Rattle.lists.specs.Tab.{tab}
use Rattle.lists.proofs.Laws.{filled_none, filled-add, filled-all}
use Rattle.keccak.specs.declared.KeccakOperation.{KeccakOperation}
use Rattle.keccak.specs.Row.{op_at, key_words, pointer_key}
use Rattle.keccak.proofs.Checks.{address-fits, segment-fits}
use Rattle.keccak.proofs.Keys.{operation-key}
use Rattle.keccak_keys.proofs.put_op_keys.Goals as goal

pub loop-i-init : goal.loop-i-init
loop-i-init c = (omega arith, filled_none _ _ _ _)

pub operation_at-op-requires : goal.operation_at-op-requires
operation_at-op-requires c =
    (omega arith, segment-fits c.args.ops.now c.args.n c.loop-i.i c.requires.3 c.loop-i-test.true)

pub put_keys-requires : goal.put_keys-requires
put_keys-requires c =
    (omega arith, subst (λ (o : KeccakOperation). o.state_addr + 192 < 2 ^ 64) (sym c.operation_at-op.ensures) (address-fits c.args.ops.now c.args.n c.loop-i.i c.requires.2 c.loop-i-test.true))

pub loop-i-preserved : goal.loop-i-preserved
loop-i-preserved c =
    let ops = c.args.ops.now in
    let i = c.loop-i.i in (
      omega arith,
      filled-add 50 (pointer_key (op_at ops i).state_addr) c.loop-i.invariant.1 (omega arith) (omega arith)
          (c.put_keys.ensures
          ∙ ap (λ (o : KeccakOperation). sets c.loop-i.out (i * 50) (tab 50 (pointer_key o.state_addr))) c.operation_at-op.ensures
          ∙ ap (λ (k : ℕ). sets c.loop-i.out k (tab 50 (pointer_key (op_at ops i).state_addr))) (sym (zero-add (i * 50))))
          (λ j b. operation-key (op_at ops) i j b),
    )

pub returns : goal.returns
unfolding key_words
returns c = filled-all c.loop-i.invariant.1 (omega arith)
