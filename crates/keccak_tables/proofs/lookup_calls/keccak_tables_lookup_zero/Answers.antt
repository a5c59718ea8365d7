-- `keccak_tables_lookup_zero` meets its contract: the answer of the call that it wraps, flat.
use mathlib.Core.Path.{ap, ◌∙◌}
use Rattle.flat.specs.FlatLookup.{flat_lookup}
use Rattle.keccak_tables.proofs.lookup_calls.keccak_tables_lookup_zero.Goals as goal

pub returns : goal.returns
returns c = c.flat_lookup.ensures ∙ ap flat_lookup c.zero.ensures
