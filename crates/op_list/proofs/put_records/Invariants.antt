-- `op_list::put_records` meets its contract: after i turns i records are stored.
use Prim.Native.Nat.{◌≤◌}
use mathlib.Core.Path.{◌≡◌}
use lib.Seq.{sets}
use Rattle.op_file.specs.File.{bytes_of}
use Rattle.op_list.specs.Files.{records_for, bytes_for}
use Rattle.op_list.proofs.put_records.Given as goal

abbrev pub invariant-loop-i : goal.invariant-loop-i
invariant-loop-i l = (l.i ≤ l.n) × (l.to ≡ bytes_for l.ops l.i) × (l.file ≡ sets l.initial.file 0 (bytes_of (records_for l.ops l.i)))
