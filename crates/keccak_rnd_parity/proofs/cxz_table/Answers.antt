-- `cxz_table` meets its contract, column by column.
use Rattle.keccak_rnd.specs.Parts.{stages_of, cxz_table}
use Rattle.keccak_rnd.proofs.Tables.{five}
use Rattle.keccak_rnd_parity.proofs.cxz_table.Goals as goal

pub returns : goal.returns
unfolding cxz_table
returns c =
    five (stages_of c.args.s) c.stages.ensures c.stages-2.ensures c.stages-3.ensures c.stages-4.ensures c.stages-5.ensures
