use lib.Bits.{bit_xor}
use Prim.Native.Nat.{◌+◌}
use Rattle.lists.specs.Tab.{word}
use Rattle.bits.specs.Bits.{byte_at}
use Rattle.residue.specs.Residue.{constant_residue}
use Rattle.residue.proofs.Or.{or-start, or-more, or-end}
use Rattle.keccak_rnd_lookups.proofs.rc.constant_residue.Goals as goal

pub loop-b-init : goal.loop-b-init
loop-b-init c = or-start _

pub loop-b-preserved : goal.loop-b-preserved
loop-b-preserved c = or-more (λ b. bit_xor (byte_at c.args.constant b) (word c.args.row.now (1463 + b))) _ _ c.loop-b.invariant

pub returns : goal.returns
unfolding constant_residue
returns c = or-end _ _ 8 _ c.loop-b.auto.b-end c.loop-b-test.false c.loop-b.invariant
