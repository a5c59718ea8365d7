-- `judge_links::add` meets its contract.
use Rattle.judge_links.proofs.Counting.{with-row}
use Rattle.judge_links.proofs.add.Goals as goal

pub same_tuple-sends-requires : goal.same_tuple-sends-requires
same_tuple-sends-requires c = (c.requires.2, c.requires.0)

pub same_tuple-receives-requires : goal.same_tuple-receives-requires
same_tuple-receives-requires c = (c.requires.2, c.requires.1)

pub plus-requires : goal.plus-requires
plus-requires c = c.requires.3

pub plus-requires-2 : goal.plus-requires-2
plus-requires-2 c = c.requires.4

pub returns : goal.returns
returns c = with-row _ _ _ _ _ _ _ c.same_tuple-sends.ensures c.same_tuple-receives.ensures c.plus.ensures c.plus-2.ensures
