-- `spaced::put_values` meets its contract: after i turns i values are stored.
use Prim.Native.Nat.{◌+◌, ◌*◌, ◌≤◌}
use mathlib.Core.Path.{◌≡◌}
use mathlib.Core.List.{map}
use lib.ListN.{length, take}
use Rattle.text.specs.Text.{decimal_of, spaced, Puts}
use Rattle.text.proofs.spaced.put_values.Given as goal

abbrev pub invariant-loop-i : goal.invariant-loop-i
invariant-loop-i l = (l.i ≤ l.n) × (length l.out ≡ length l.initial.out) × Puts l.initial.out l.at (spaced (map decimal_of (take l.i l.values))) l.out l.end × (l.end ≤ l.at + l.i * 21)
