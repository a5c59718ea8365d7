-- `month::beats` meets its contract.
use Rattle.month.proofs.beats.Goals as goal

pub returns-then-full : goal.returns-then-full
returns-then-full c = rw c.if-full.true c.is_fuller.ensures

pub returns : goal.returns
returns c = rw c.if-full.false c.is_fuller-2.ensures
