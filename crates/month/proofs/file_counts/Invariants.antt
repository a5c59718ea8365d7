-- `month::file_counts` meets its contract: after i turns the first i files are counted, each at its height.
use mathlib.Core.Path.{◌≡◌}
use Prim.Native.Nat.{◌≤◌}
use lib.ListN.{length}
use Rattle.month.proofs.Histogram.{up_to}
use Rattle.month.proofs.file_counts.Given as goal

abbrev pub invariant-loop-i : goal.invariant-loop-i
invariant-loop-i l = (l.i ≤ length l.counts) × (l.files ≡ up_to l.nr l.floor l.counts l.i)
