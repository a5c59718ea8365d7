-- `keccak_tables_bitwise_row_index` meets its contract: the answer of the call that it wraps, flat.
use mathlib.Core.Path.{ap, ◌∙◌}
use Rattle.flat.specs.Flat.{flat_number}
use Rattle.keccak_tables.proofs.lookups.keccak_tables_bitwise_row_index.Goals as goal

pub returns : goal.returns
returns c = c.flat_number.ensures ∙ ap flat_number c.row_index.ensures
