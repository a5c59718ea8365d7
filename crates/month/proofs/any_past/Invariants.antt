-- `month::any_past` meets its contract: a scan that has found none so far.
use mathlib.Core.Path.{◌≡◌}
use mathlib.Core.Bool.{Bool}
use mathlib.Core.List.{List}
use mathlib.Core.Option.{none}
use Prim.Native.Nat.{ℕ, ◌≤◌}
use lib.Dec.{ltb}
use lib.ListN.{length}
use Rattle.lists.specs.Tab.{word}
use Rattle.lists.specs.First.{first, at_index}
use Rattle.answer.specs.Limits.{MAX-OPS}
use Rattle.month.proofs.any_past.Given as goal

abbrev pub past : List ℕ → ℕ → Bool
past counts i = ltb MAX-OPS (word counts i)

abbrev pub invariant-loop-i : goal.invariant-loop-i
invariant-loop-i l = (l.i ≤ length l.counts) × (first (at_index (past l.counts)) l.i ≡ none)
