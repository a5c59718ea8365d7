-- `block_operation` meets its contract: the state with the block added, and what the permutation makes of it.
use mathlib.Core.Path.{ap, ◌∙◌}
use Prim.Native.Nat.{◌+◌}
use Rattle.fips202.specs.Lanes.{keccak_pl}
use Rattle.message.specs.Message.{operation_from}
use Rattle.message.proofs.blocks.block_operation.Goals as goal

pub returns : goal.returns
unfolding operation_from
returns c =
    let input = c.add_block-before.ensures in
    let a = c.args in
    let output = c.keccak_f-after.ensures.lanes ∙ ap (keccak_pl 24) input in
    λ t. record { timestamp = a.timestamp + a.i; state_addr = a.address; input = input t; output = output t; segment = 0 }
