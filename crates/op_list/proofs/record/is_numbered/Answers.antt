-- `record::is_numbered` meets its contract: the segment word.
use mathlib.Core.Path.{refl}
use Rattle.op_list.specs.Record.{is_numbered}
use Rattle.op_list.proofs.record.is_numbered.Goals as goal

pub returns : goal.returns
unfolding is_numbered
returns c = refl
