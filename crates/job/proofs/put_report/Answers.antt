-- `job::put_report` meets its contract: the verdicts on the segments, and then that on the job.
use native.Mathlib.Omega.{arith}
use Rattle.job.proofs.Turns.{report-stored}
use Rattle.job.proofs.put_report.Goals as goal

pub put_segments-requires : goal.put_segments-requires
put_segments-requires c = let h = c.requires in (h.0, h.1, h.2, omega (arith, h.3))

pub put_verdict-requires : goal.put_verdict-requires
put_verdict-requires c = let h = c.requires in (h.0, h.1, omega (arith, h.3))

pub returns : goal.returns
returns c =
    report-stored _ _ _ _ _ c.requires.3 c.put_segments.ensures c.put_verdict.ensures
