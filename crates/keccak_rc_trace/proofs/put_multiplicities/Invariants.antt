-- `keccak_rc_trace::put_multiplicities` meets its contract: after r turns MU of the rounds below r is stored.
use mathlib.Core.Path.{◌≡◌}
use Rattle.keccak_rc.specs.Table.{with_mu, times_looked_up}
use Rattle.keccak_rc_trace.proofs.put_multiplicities.Given as goal

abbrev pub invariant-loop-round : goal.invariant-loop-round
invariant-loop-round l = l.table ≡ with_mu (times_looked_up l.nr l.n) l.round l.initial.table
