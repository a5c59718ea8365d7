-- `job::put_segments` meets its contract: after i turns the verdicts on the first i segments are stored, and the rows of these are passed.
use mathlib.Core.Path.{◌≡◌}
use lib.ListN.{length}
use Rattle.job.proofs.Turns.{Passed}
use Rattle.job.proofs.put_segments.Given as goal

abbrev pub invariant-loop-i : goal.invariant-loop-i
invariant-loop-i l =
    Passed l.nr l.core l.round l.counts l.initial.report l.report l.a l.b l.i
    × (length l.scratch ≡ length l.initial.scratch) × (length l.spare ≡ length l.initial.spare)
