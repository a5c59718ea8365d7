-- `keccak_rnd_terms::put_rotated` meets its contract: after k turns the first k bytes are stored.
use Prim.Native.Nat.{◌/◌, ◌%◌}
use Rattle.lists.proofs.Laws.{Filled}
use Rattle.keccak_rnd.specs.Tuples.{rotated_c_at}
use Rattle.keccak_rnd_terms.proofs.put_rotated.Given as goal

abbrev pub invariant-loop-k : goal.invariant-loop-k
invariant-loop-k l = Filled l.initial.out 0 40 (λ j. rotated_c_at l.row (j / 8) (j % 8)) l.out l.k
