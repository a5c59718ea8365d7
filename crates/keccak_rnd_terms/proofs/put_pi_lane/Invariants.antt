-- `keccak_rnd_terms::put_pi_lane` meets its contract: after z turns the first z bytes are stored.
use Rattle.keccak_rnd_terms.specs.Terms.{sum_of}
use Rattle.lists.proofs.Laws.{Filled}
use Rattle.keccak_rnd_terms.proofs.put_pi_lane.Given as goal

abbrev pub invariant-loop-z : goal.invariant-loop-z
invariant-loop-z l = Filled l.initial.out l.at 8 (sum_of l.row l.source) l.out l.z
