-- `is_wh_rows::put_row` meets its contract: the three words of a row.
use Rattle.is_wh_rows.proofs.Flat.{stored_row}
use Rattle.is_wh_rows.proofs.put_row.Goals as goal

pub returns : goal.returns
returns c = stored_row c.args.rows.now c.args.at c.args.code c.args.n
