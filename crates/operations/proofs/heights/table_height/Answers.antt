-- `table_height` meets its contract: the larger of the floor and the power.
use Rattle.keccak.proofs.Height.{next-found, height-found}
use Rattle.operations.proofs.heights.table_height.Goals as goal

pub returns : goal.returns
returns c =
    let p = c.next_power_of_two.ensures in
    height-found c.args.floor c.args.n c.max.ensures (next-found _ _ p.power p.lower_bound p.upper_bound)
