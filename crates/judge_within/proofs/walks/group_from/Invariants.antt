-- `judge_within::walks::group_from` meets its contract: the places so far have one tuple (Unbalanced.antt).
use Rattle.judge_within.proofs.Unbalanced.{Grouped}
use Rattle.judge_within.proofs.walks.group_from.Given as goal

abbrev pub invariant-loop-end : goal.invariant-loop-end
invariant-loop-end l = Grouped l.nr l.core l.round l.places l.start l.end l.t
