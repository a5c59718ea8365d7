-- `keccak_tables_lookup_new` meets its contract: the answer of the constructor that it wraps, flat.
use Rattle.keccak_tables.proofs.lookup_calls.keccak_tables_lookup_new.Goals as goal

pub returns : goal.returns
returns c =
    rw (c.flat_lookup.ensures, c.of_kind.ensures, c.new.ensures, c.kind_at.ensures)
