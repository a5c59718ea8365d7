-- `compare::next_start` meets its contract: the second byte tells how long the record is.
use Prim.Native.Nat.{ℕ, ◌+◌, ◌≤◌}
use mathlib.Core.Bool.{Bool}
use mathlib.Core.List.{List}
use mathlib.Core.Path.{sym, ap, ◌∙◌, subst}
use native.Mathlib.Omega.{arith}
use lib.Dec.{eqb}
use lib.ListN.{length, drop, get_or}
use Rattle.op_file.specs.File.{record_size, size_of}
use Rattle.op_file.proofs.Steps.{size-least}
use Rattle.op_list.proofs.RecordAgain.{mark-in}
use Rattle.same_operations.proofs.compare.next_start.Goals as goal

-- the bytes of the record are there, by its mark
enough : (file : List ℕ) (from : ℕ) → from + size_of (drop from file) ≤ length file → from + record_size (eqb (get_or file (from + 1) 0) 80) ≤ length file
enough file from h = subst (λ (b : Bool). from + record_size b ≤ length file) (sym (mark-in file from)) h

pub bounds-file-from : goal.bounds-file-from
bounds-file-from c = omega (arith, enough _ _ c.requires, size-least (eqb (get_or c.args.file.now (c.args.from + 1) 0) 80))

pub overflow_add-result : goal.overflow_add-result
overflow_add-result c = omega (arith, c.record_size.ensures, enough _ _ c.requires)

pub returns : goal.returns
returns c = ap (λ (n : ℕ). c.args.from + n) (c.record_size.ensures ∙ ap record_size (mark-in c.args.file.now c.args.from))
