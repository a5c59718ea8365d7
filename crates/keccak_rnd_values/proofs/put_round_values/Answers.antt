-- `keccak_rnd_values::put_round_values` meets its contract: the groups are stored one behind the other.
use mathlib.Core.Path.{ap, ◌∙◌}
use Rattle.templates.specs.Templates.{is_bit}
use Rattle.keccak_rnd_values.proofs.Parts.{stored-values}
use Rattle.keccak_rnd_values.proofs.put_round_values.Goals as goal

pub returns : goal.returns
returns c =
    stored-values _ _ c.put_carry_values.ensures c.put_theta_values.ensures c.put_rho_values.ensures
    (c.is_bit.ensures ∙ ap is_bit c.element-mu.ensures.is)
