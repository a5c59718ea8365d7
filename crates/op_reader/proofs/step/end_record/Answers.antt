-- `step::end_record` meets its contract: the address is checked before the record counts.
use Rattle.std.specs.Prelude.{Ok}
use Rattle.op_file.specs.Reader.{reading}
use Rattle.op_file.specs.declared.Whole.{Whole}
use Rattle.op_file.specs.declared.Begun.{Begun}
use borrow.Author.Tests.{lt-ltb, le-ltb}
use mathlib.Core.Path.{ap₂}
use Rattle.op_reader.proofs.step.end_record.Goals as goal

pub returns-then-addr-gt-LAST_ADDRESS : goal.returns-then-addr-gt-LAST_ADDRESS
returns-then-addr-gt-LAST_ADDRESS c = simp (lt-ltb _ _ c.if-addr-gt-LAST_ADDRESS.true)

pub returns : goal.returns
returns c = simp (le-ltb _ _ c.if-addr-gt-LAST_ADDRESS.false) (ap₂ (λ (w : Whole) (p : Begun). Ok (reading w p)) c.count_record.ensures c.none_begun.ensures)
