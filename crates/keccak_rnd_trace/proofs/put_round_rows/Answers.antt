-- `keccak_rnd_trace::put_round_rows` meets its contract: the rows of the operations, then zeros.
use Rattle.keccak_rnd.proofs.Rows.{rows}
use Rattle.keccak_rnd_trace.proofs.put_round_rows.Goals as goal

pub returns : goal.returns
returns c =
    rows c.args.nr c.args.table.now _ _ c.args.ops.now c.args.n c.args.h c.requires.3 c.put_op_rounds.ensures c.put_zeros.ensures
