-- `same_operations::same_operations` meets its contract: the table's checks, the file's, and then both against one another.
use mathlib.Core.Path.{◌≡◌, sym, ap, ◌∙◌}
use mathlib.Core.Bool.{false}
use mathlib.Core.List.{List}
use Prim.Native.Nat.{ℕ, ◌+◌, ◌*◌, ◌≤◌}
use native.Mathlib.Omega.{arith}
use lib.ListN.{length}
use Rattle.answer.specs.declared.Refusal.{Refusal}
use Rattle.answer.proofs.Laws.{handed-on, is-refused, is-done}
use Rattle.op_file.specs.File.{tally_of}
use Rattle.op_file.specs.Reader.{feed_of, file_start, finish_of}
use Rattle.op_file.specs.declared.Reading.{Reading}
use Rattle.op_file.specs.declared.Sums.{Sums}
use Rattle.op_file.proofs.Laws.{reads-file}
use Rattle.op_list.proofs.Files.{count_fits, told-fault, told-file}
use Rattle.std.specs.Prelude.{Result, Ok}
use Rattle.same_operations.proofs.Agree.{table-refused, file-refused, not-refused}
use Rattle.same_operations.proofs.same_operations.Goals as goal

-- what reading the file through says
said : (file : List ℕ) {a b : Result Reading Refusal} {t : Result Sums Refusal} → a ≡ file_start → b ≡ feed_of a file → t ≡ finish_of 4 false b → t ≡ tally_of 4 false 0 file
said file p q r = r ∙ ap (finish_of 4 false) (q ∙ ap (λ (c : Result Reading Refusal). feed_of c file) p) ∙ reads-file 4 false 0 file

-- so many records can be counted
few : (file : List ℕ) {s : Sums} → Ok s ≡ tally_of 4 false 0 file → (s.ops + s.unaligned) * 418 ≤ length file
few file e = let q = told-file file e in omega (arith, q.1, count_fits file q.0)

pub returns-in_err-check_table : goal.returns-in_err-check_table
returns-in_err-check_table c = handed-on _ c.from_residual.ensures.1 ∙ table-refused _ _ (is-refused _ (sym c.in_err-check_table.was ∙ c.check_table.ensures))

pub returns-in_err-sums : goal.returns-in_err-sums
returns-in_err-sums c =
    handed-on _ c.from_residual-in_err-sums.ensures.1
    ∙ file-refused _ _ (is-done _ (sym c.in_ok-check_table.was ∙ c.check_table.ensures)) (told-fault _ (sym c.in_err-sums.was ∙ said _ c.start.ensures c.feed-read.ensures c.finish.ensures))

pub overflow_add-sums : goal.overflow_add-sums
overflow_add-sums c = let f = few _ (sym c.in_ok-sums.was ∙ said _ c.start.ensures c.feed-read.ensures c.finish.ensures) in omega arith

pub compared-requires : goal.compared-requires
compared-requires c = told-file _ (sym c.in_ok-sums.was ∙ said _ c.start.ensures c.feed-read.ensures c.finish.ensures)

pub returns : goal.returns
returns c =
    let told = told-file _ (sym c.in_ok-sums.was ∙ said _ c.start.ensures c.feed-read.ensures c.finish.ensures) in
    not-refused _ _ (is-done _ (sym c.in_ok-check_table.was ∙ c.check_table.ensures)) told.0 c.compared.ensures
