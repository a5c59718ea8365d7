-- `keccak_tables_keccak_height` meets its contract: the answer of the call that it wraps, flat.
use mathlib.Core.Path.{ap, ◌∙◌}
use Rattle.flat.specs.Flat.{flat_number}
use Rattle.keccak_tables.proofs.core_calls.keccak_tables_keccak_height.Goals as goal

pub returns : goal.returns
returns c = c.flat_number.ensures ∙ ap flat_number c.keccak_height.ensures
