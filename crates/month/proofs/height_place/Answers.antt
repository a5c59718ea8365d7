-- `month::height_place` meets its contract: the exponent, counted from that of the least height (Heights.antt).
use Rattle.month.proofs.Heights.{exponent-least, height-found}
use Rattle.month.proofs.height_place.Goals as goal

pub overflow_sub-result : goal.overflow_sub-result
overflow_sub-result c =
    let l = c.ilog2.ensures in
    exponent-least _ _ c.requires l.power_le l.next_power_gt

pub returns : goal.returns
returns c =
    let l = c.ilog2.ensures in
    height-found _ _ c.requires l.power_le l.next_power_gt
