-- `d_table` meets its contract, column by column.
use native.Mathlib.Omega.{arith}
use Rattle.keccak_rnd.specs.Parts.{d_bytes}
use Rattle.keccak_rnd.proofs.Tables.{five}
use Rattle.keccak_rnd_theta.proofs.d_table.Goals as goal

pub d_bytes-requires : goal.d_bytes-requires
d_bytes-requires c = c.requires 1 (omega arith)

pub d_bytes-requires-2 : goal.d_bytes-requires-2
d_bytes-requires-2 c = c.requires 2 (omega arith)

pub d_bytes-requires-3 : goal.d_bytes-requires-3
d_bytes-requires-3 c = c.requires 3 (omega arith)

pub d_bytes-requires-4 : goal.d_bytes-requires-4
d_bytes-requires-4 c = c.requires 4 (omega arith)

pub d_bytes-requires-5 : goal.d_bytes-requires-5
d_bytes-requires-5 c = c.requires 0 (omega arith)

pub returns : goal.returns
unfolding d_bytes
returns c =
    five _ c.d_bytes.ensures c.d_bytes-2.ensures c.d_bytes-3.ensures c.d_bytes-4.ensures c.d_bytes-5.ensures
