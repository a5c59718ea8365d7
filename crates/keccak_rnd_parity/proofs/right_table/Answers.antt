-- `right_table` meets its contract, column by column.
use Rattle.keccak_rnd.proofs.Tables.{five}
use Rattle.keccak_rnd_parity.proofs.right_table.Goals as goal

pub returns : goal.returns
returns c =
    five _ c.right_bits.ensures c.right_bits-2.ensures c.right_bits-3.ensures c.right_bits-4.ensures c.right_bits-5.ensures
