use Rattle.tally_arguments.proofs.Laws.{Reads}
use Rattle.tally_arguments.proofs.read_floor.Given as goal

abbrev pub invariant-loop-i : goal.invariant-loop-i
invariant-loop-i l = Reads l.word l.i l.value
