-- `keccak_rnd_terms::put_pi` meets its contract: after l turns the first l lanes are stored.
use Prim.Native.Nat.{◌*◌}
use Rattle.keccak.specs.Columns.{by_xyb}
use Rattle.keccak_rnd.specs.Tuples.{pi_at}
use Rattle.lists.proofs.Laws.{Filled}
use Rattle.keccak_rnd_terms.proofs.put_pi.Given as goal

abbrev pub invariant-loop-l : goal.invariant-loop-l
invariant-loop-l l = Filled l.initial.out 40 200 (by_xyb (pi_at l.row)) l.out (8 * l.l)
