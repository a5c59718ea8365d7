-- `keccak_tables_tally_feed` meets its contract: the reader that it wraps, flat.
use mathlib.Core.Path.{ap, ◌∙◌}
use Rattle.op_file.specs.Reader.{feed_of}
use Rattle.op_file.specs.declared.Reading.{Reading}
use Rattle.answer.specs.declared.Refusal.{Refusal}
use Rattle.std.specs.Prelude.{Result}
use Rattle.flat.specs.FlatReader.{flat_cursor}
use Rattle.keccak_tables.proofs.tally_calls.keccak_tables_tally_feed.Goals as goal

pub returns : goal.returns
returns c =
    let read = c.cursor_of-c.ensures in
    c.flat_cursor.ensures ∙ ap flat_cursor (c.feed.ensures ∙ ap (λ (d : Result Reading Refusal). feed_of d c.args.bytes.now) read)
