-- `left_table` meets its contract, column by column.
use Rattle.keccak_rnd.proofs.Tables.{five}
use Rattle.keccak_rnd_parity.proofs.left_table.Goals as goal

pub returns : goal.returns
returns c =
    five _ c.left_bytes.ensures c.left_bytes-2.ensures c.left_bytes-3.ensures c.left_bytes-4.ensures c.left_bytes-5.ensures
