-- `keccak_tables_lookup_single_byte` meets its contract: the answer of the constructor that it wraps, flat.
use Rattle.keccak_tables.proofs.lookup_calls.keccak_tables_lookup_single_byte.Goals as goal

pub returns : goal.returns
returns c =
    rw (c.flat_lookup.ensures, c.of_kind.ensures, c.single_byte-lookup.ensures, c.kind_at.ensures)
