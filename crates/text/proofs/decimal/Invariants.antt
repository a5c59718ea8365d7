-- `text::decimal` meets its contract: after each turn the digits so far stand at the end.
use Rattle.text.specs.Text.{digits_of, decimal_of}
use lib.ListN.{length, drop}
use mathlib.Core.List.{◌++◌}
use mathlib.Core.Path.{◌≡◌}
use Prim.Native.Nat.{◌+◌, ◌^◌, ◌≤◌, ◌<◌}
use Rattle.text.proofs.decimal.Given as goal

abbrev pub invariant-loop-rest : goal.invariant-loop-rest
invariant-loop-rest l = (l.i ≤ 19) × (length l.bytes ≡ 20) × (l.rest < 10 ^ (l.i + 1)) × (decimal_of l.n ≡ digits_of (l.i + 1) l.rest ++ drop (l.i + 1) l.bytes)

abbrev pub decreases-loop-rest : goal.decreases-loop-rest
decreases-loop-rest l = l.rest
