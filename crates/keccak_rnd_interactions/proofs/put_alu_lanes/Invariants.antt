-- `keccak_rnd_interactions::put_alu_lanes` meets its contract: after l turns the first l lanes are stored.
use Prim.Native.Nat.{◌+◌, ◌*◌}
use Rattle.keccak_rnd_operands.specs.Lanes.{alu_tuple}
use Rattle.tuple.proofs.Words.{Listed}
use Rattle.keccak_rnd_interactions.proofs.put_alu_lanes.Given as goal

abbrev pub invariant-loop-l : goal.invariant-loop-l
invariant-loop-l l = Listed l.initial.out l.at (λ i. alu_tuple l.row (8 * l.from + i)) (8 * l.n) l.out (8 * l.l) (l.at + 64 * l.l)
