-- `op_list::bytes_for` meets its contract: after i turns the bytes of i records are counted.
use mathlib.Core.Path.{◌≡◌}
use Rattle.op_list.specs.Files.{bytes_for}
use Rattle.op_list.proofs.bytes_for.Given as goal

abbrev pub invariant-loop-i : goal.invariant-loop-i
invariant-loop-i l = l.bytes ≡ bytes_for l.ops l.i
