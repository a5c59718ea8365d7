-- `judge_within::walks::with_place` meets its contract.
use Rattle.judge_within.proofs.Steps.{with-sent, with-received}
use Rattle.judge_within.proofs.walks.with_place.Goals as goal

pub returns-then-is_sent : goal.returns-then-is_sent
returns-then-is_sent c = with-sent _ _ _ c.is_sent.ensures c.if-is_sent.true

pub returns : goal.returns
returns c = with-received _ _ _ c.is_sent.ensures c.if-is_sent.false
