-- `keccak_tables_tally_start` meets its contract: the reader that it wraps, flat.
use mathlib.Core.Path.{ap, ◌∙◌}
use Rattle.flat.specs.FlatReader.{flat_cursor}
use Rattle.keccak_tables.proofs.tally_calls.keccak_tables_tally_start.Goals as goal

pub returns : goal.returns
returns c = c.flat_cursor.ensures ∙ ap flat_cursor c.start.ensures
