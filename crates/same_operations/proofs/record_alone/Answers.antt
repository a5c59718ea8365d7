-- `same_operations::record_alone` meets its contract: the copies before it against the equal rows.
use native.Mathlib.Omega.{arith}
use Rattle.same_operations.proofs.Scans.{stands-enough}
use Rattle.same_operations.proofs.Agree.{record-alone-is}
use Rattle.same_operations.proofs.record_alone.Goals as goal

pub count_records-copies-requires : goal.count_records-copies-requires
count_records-copies-requires c = (c.requires.0.stands, c.requires.2, omega (arith, c.requires.3), stands-enough _ c.requires.1 c.requires.3)

pub has_more_rows-requires : goal.has_more_rows-requires
has_more_rows-requires c = (c.requires.0.within, stands-enough _ c.requires.1 c.requires.3)

pub returns : goal.returns
returns c = record-alone-is _ _ c.requires.0 c.requires.1 c.requires.3 c.requires.2 c.count_records-copies.ensures c.has_more_rows.ensures
