-- `put_operations` is safe and ends: there are the words of five operations.
use mathlib.Core.Path.{◌≡◌}
use Prim.Native.Nat.{◌-◌, ◌*◌, ◌≤◌}
use lib.ListN.{length}
use Rattle.keccak.specs.Row.{OP-WORDS}
use Rattle.samples.proofs.put_operations.Given as goal

abbrev pub invariant-loop-k : goal.invariant-loop-k
invariant-loop-k l = (l.k ≤ 5) × (5 * OP-WORDS ≤ length l.ops) × (length l.ops ≡ length l.initial.ops)

abbrev pub decreases-loop-k : goal.decreases-loop-k
decreases-loop-k l = 5 - l.k
