-- `same_operations::pass` meets its contract: what is passed of both is the same.
use Rattle.same_operations.specs.Passed.{Agreed}
use Rattle.same_operations.proofs.Agree.{passed}
use Rattle.same_operations.proofs.pass.Given as goal

abbrev pub invariant-loop-r : goal.invariant-loop-r
invariant-loop-r l = Agreed l.core l.file (passed l.records l.bytes l.r)
