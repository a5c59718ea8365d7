-- `add_block` meets its contract: the lanes are stored one after the other.
use Prim.Native.Nat.{◌/◌, ◌≤◌}
use lib.Bits.{bit_xor}
use lib.ListN.{length, get_or}
use Rattle.lists.proofs.Laws.{Filled}
use Rattle.sha3.specs.Sha3.{block_lane}
use Rattle.sha3.proofs.add_block.Given as goal

abbrev pub invariant-loop-j : goal.invariant-loop-j
invariant-loop-j l =
    (l.i ≤ length l.message / 136) × Filled l.initial.lanes 0 25 (λ j. bit_xor (get_or l.s j 0) (block_lane l.message l.i j)) l.lanes l.j
