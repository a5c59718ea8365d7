-- `State::rho_pi` meets its contract: it is `rho_pi::rho_pi` of the lanes.
use Rattle.permutation.proofs.State.rho_pi.Goals as goal

pub returns : goal.returns
returns c = c.rho_pi-lanes.ensures
