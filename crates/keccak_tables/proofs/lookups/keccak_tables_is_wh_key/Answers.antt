-- `keccak_tables_is_wh_key` meets its contract: the answer of the call that it wraps, flat.
use mathlib.Core.Path.{ap, ◌∙◌}
use Rattle.flat.specs.Flat.{flat_key}
use Rattle.keccak_tables.proofs.lookups.keccak_tables_is_wh_key.Goals as goal

pub returns : goal.returns
returns c = c.flat_key.ensures ∙ ap flat_key c.of_dword.ensures
