-- `judge_within::walks::first_repeated` meets its contract: the least row so far (Steps.antt).
use Rattle.judge_within.proofs.Steps.{RepeatedTo}
use Rattle.judge_within.proofs.walks.first_repeated.Given as goal

abbrev pub invariant-loop-k : goal.invariant-loop-k
invariant-loop-k l = RepeatedTo l.core l.places l.k l.least
