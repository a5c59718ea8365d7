-- `bitwise_counts::charge_word` meets its contract: n is reduced, added, and the sum stored.
use Rattle.bitwise.proofs.Counters.{charge-set}
use Rattle.bitwise_counts.proofs.charge_word.Goals as goal

pub returns : goal.returns
returns c = charge-set _ _ _ _ c.add-sum.ensures.sum
