-- `keccak_rnd_counts::charge_op_rounds` meets its contract: after i turns the rows of the first i operations are charged.
use Rattle.keccak.specs.Row.{op_at}
use Rattle.keccak_rnd_counts.proofs.Charging.{Parts}
use Rattle.keccak_rnd_counts.proofs.Ops.{op_adds}
use Rattle.keccak_rnd_counts.proofs.charge_op_rounds.Given as goal

abbrev pub invariant-loop-i : goal.invariant-loop-i
invariant-loop-i l = Parts l.n (λ k. op_adds l.nr (op_at l.ops k)) l.initial.counters l.counters l.i
