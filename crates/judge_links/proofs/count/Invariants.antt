-- `judge_links::count` meets its contract: a row that is not of the call neither sends one of the tuples nor receives it.
use Rattle.judge_tuples.specs.Port.{tuple_of}
use Rattle.judge_links.proofs.Counting.{CountedRows}
use Rattle.judge_links.proofs.count.Given as goal

abbrev pub invariant-loop-row : goal.invariant-loop-row
invariant-loop-row l =
    CountedRows l.nr l.table l.words (tuple_of l.s l.x) l.from l.row l.first × CountedRows l.nr l.table l.words (tuple_of l.q l.x) l.from l.row l.second
