-- `put_drawn` is safe and ends: it writes only words of the slice.
use mathlib.Core.Path.{◌≡◌}
use Prim.Native.Nat.{◌+◌, ◌-◌, ◌≤◌}
use lib.ListN.{length}
use Rattle.samples.proofs.put_drawn.Given as goal

abbrev pub invariant-loop-k : goal.invariant-loop-k
invariant-loop-k l = (l.k ≤ l.n) × (l.at + l.n ≤ length l.words) × (length l.words ≡ length l.initial.words)
