-- `op_list::read_operations` meets its contract: the file is read through once for its faults and its count, then its words
-- are stored.
use mathlib.Core.Path.{◌≡◌, sym, ap, ◌∙◌}
use mathlib.Core.Bool.{false}
use mathlib.Core.List.{List}
use mathlib.Core.Option.{none}
use Prim.Native.Nat.{ℕ, ◌+◌, ◌*◌, ◌≤◌}
use lib.ListN.{length}
use native.Mathlib.Omega.{arith}
use Rattle.answer.specs.declared.Refusal.{Refusal}
use Rattle.answer.proofs.Laws.{answers, kept, accepts, written, handed-on}
use Rattle.op_file.specs.File.{records_of, first_fault, tally_of}
use Rattle.op_file.specs.Reader.{feed_of, file_start, finish_of}
use Rattle.op_file.specs.declared.Reading.{Reading}
use Rattle.op_file.specs.declared.Sums.{Sums}
use Rattle.op_file.proofs.Laws.{reads-file}
use Rattle.op_list.proofs.Files.{count_fits, told-fault, told-file, read-fault, read_short, read-accepted, read-words}
use Rattle.std.specs.Prelude.{Result, Ok}
use Rattle.op_list.proofs.read_operations.Goals as goal

-- what reading a file through says
said : (file : List ℕ) {a b : Result Reading Refusal} {t : Result Sums Refusal} → a ≡ file_start → b ≡ feed_of a file → t ≡ finish_of 4 false b → t ≡ tally_of 4 false 0 file
said file p q r = r ∙ ap (finish_of 4 false) (q ∙ ap (λ (c : Result Reading Refusal). feed_of c file) p) ∙ reads-file 4 false 0 file

-- where it says no fault, there is none, the records counted and left out are all of them, and so many words can be counted
record Told (file : List ℕ) (n : ℕ) : Type 0 where
  right : first_fault 0 0 (records_of file) ≡ none
  all : n ≡ length (records_of file)
  few : n * 418 ≤ length file

counted : (file : List ℕ) {s : Sums} → Ok s ≡ tally_of 4 false 0 file → Told file (s.ops + s.unaligned)
counted file e =
    let q = told-file file e in
    record { right = q.0; all = q.1; few = omega (arith, q.1, count_fits file q.0) }

pub returns-in_err-sums : goal.returns-in_err-sums
returns-in_err-sums c =
    let e = read-fault _ _ (told-fault _ (sym c.in_err-sums.was ∙ said _ c.start.ensures c.feed-read.ensures c.finish.ensures)) in
    record { answer = handed-on _ c.from_residual.ensures.1 ∙ answers e; words = kept _ _ e }

pub overflow_add-n : goal.overflow_add-n
overflow_add-n c = let t = counted _ (sym c.in_ok-sums.was ∙ said _ c.start.ensures c.feed-read.ensures c.finish.ensures) in omega arith

pub overflow_mul-n : goal.overflow_mul-n
overflow_mul-n c = let t = counted _ (sym c.in_ok-sums.was ∙ said _ c.start.ensures c.feed-read.ensures c.finish.ensures) in omega arith

pub overflow_mul-result : goal.overflow_mul-result
overflow_mul-result c = let t = counted _ (sym c.in_ok-sums.was ∙ said _ c.start.ensures c.feed-read.ensures c.finish.ensures) in omega arith

pub returns-then-ops-n : goal.returns-then-ops-n
returns-then-ops-n c =
    let t = counted _ (sym c.in_ok-sums.was ∙ said _ c.start.ensures c.feed-read.ensures c.finish.ensures) in
    let e = read_short _ _ _ t.right t.all c.if-ops-n.true in
    record { answer = answers e; words = kept _ _ e }

pub put_operations-requires : goal.put_operations-requires
put_operations-requires c =
    let t = counted _ (sym c.in_ok-sums.was ∙ said _ c.start.ensures c.feed-read.ensures c.finish.ensures) in
    (t.right, t.all, c.if-ops-n.false)

pub returns : goal.returns
returns c =
    let t = counted _ (sym c.in_ok-sums.was ∙ said _ c.start.ensures c.feed-read.ensures c.finish.ensures) in
    let e = read-accepted _ _ _ t.right t.all c.if-ops-n.false in
    record { answer = accepts e; words = written _ e (read-words _ _ _ t.all c.if-ops-n.false c.put_operations.ensures) }
