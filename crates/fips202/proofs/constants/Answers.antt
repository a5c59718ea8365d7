-- `constants` meets its contract: one test computes over the whole table.
use Rattle.lists.specs.Sum.{all_below}
use Rattle.fips202.specs.Lanes.{rc_l}
use Rattle.fips202.proofs.Tables.{constants-tested}
use Rattle.fips202.proofs.constants.Goals as goal

pub returns : goal.returns
unfolding all_below rc_l
returns c = constants-tested _ tt
