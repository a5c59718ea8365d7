-- `first_unaligned` meets its contract: every address before the i-th is a multiple of 8.
use mathlib.Core.Path.{◌≡◌}
use mathlib.Core.Option.{none}
use Prim.Native.Nat.{◌≤◌}
use Rattle.lists.specs.First.{first, at_index}
use Rattle.keccak.specs.Refusals.{unaligned_at}
use Rattle.operations.proofs.checks.first_unaligned.Given as goal

abbrev pub invariant-loop-i : goal.invariant-loop-i
invariant-loop-i l = (l.i ≤ l.n) × (first (at_index (unaligned_at l.ops)) l.i ≡ none)
