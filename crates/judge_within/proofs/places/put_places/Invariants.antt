-- `judge_within::places::put_places` meets its contract: after p turns the places below p that are wanted (Wanted.antt).
use Rattle.judge_within.specs.Places.{wanted}
use Rattle.judge_within.proofs.Wanted.{Put}
use Rattle.judge_within.proofs.places.put_places.Given as goal

abbrev pub invariant-loop-p : goal.invariant-loop-p
invariant-loop-p l = Put (wanted l.whole l.core l.round) l.initial.out l.out l.n l.p l.m
