-- `keccak_tables_tally_finish` meets its contract: what the call that it wraps says, flat.
use mathlib.Core.Path.{ap, ◌∙◌}
use Rattle.op_file.specs.Reader.{finish_of}
use Rattle.flat.specs.FlatReader.{flat_tally}
use Rattle.keccak_tables.proofs.tally_calls.keccak_tables_tally_finish.Goals as goal

pub returns : goal.returns
returns c =
    let read = c.cursor_of-c.ensures in
    c.flat_tally.ensures ∙ ap flat_tally (c.finish.ensures ∙ ap (finish_of _ _) read)
