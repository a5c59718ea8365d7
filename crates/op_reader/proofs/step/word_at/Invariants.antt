-- `step::word_at` meets its contract: after j turns j bytes are in.
use Rattle.op_file.proofs.Steps.{shifts}
use lib.ListN.{take, drop}
use mathlib.Core.Path.{◌≡◌}
use Prim.Native.Nat.{◌≤◌}
use Rattle.op_reader.proofs.step.word_at.Given as goal

abbrev pub invariant-loop-j : goal.invariant-loop-j
invariant-loop-j l = (l.j ≤ 8) × (l.a ≡ shifts 0 (take l.j (drop l.k l.s)))
