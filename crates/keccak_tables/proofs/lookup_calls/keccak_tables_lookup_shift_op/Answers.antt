-- `keccak_tables_lookup_shift_op` meets its contract: the answer of the constructor that it wraps, flat.
use Rattle.keccak_tables.proofs.lookup_calls.keccak_tables_lookup_shift_op.Goals as goal

pub returns : goal.returns
returns c =
    rw (c.flat_lookup.ensures, c.of_kind.ensures, c.shift_op.ensures, c.kind_at.ensures)
