-- `registers::charge_ledger` meets its contract: after k turns the first k words are charged.
use Rattle.lists.proofs.Laws.{Filled}
use Rattle.registers.proofs.Ledgers.{grown}
use Rattle.registers.proofs.charge_ledger.Given as goal

abbrev pub invariant-loop-k : goal.invariant-loop-k
invariant-loop-k l = Filled l.initial.words l.at 10 (grown l.initial.words l.at l.sums) l.words l.k
