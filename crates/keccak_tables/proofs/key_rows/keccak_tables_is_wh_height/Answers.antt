-- `keccak_tables_is_wh_height` meets its contract: the answer of the call that it wraps, flat.
use mathlib.Core.Path.{ap, ◌∙◌}
use Rattle.flat.specs.Flat.{flat_number}
use Rattle.keccak_tables.proofs.key_rows.keccak_tables_is_wh_height.Goals as goal

pub returns : goal.returns
returns c = c.flat_number.ensures ∙ ap flat_number c.is_wh_height.ensures
