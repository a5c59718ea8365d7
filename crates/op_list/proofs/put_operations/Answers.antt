use Prim.Native.Nat.{ℕ, ◌+◌, ◌*◌, ◌≤◌}
use mathlib.Core.Path.{◌≡◌, refl, sym, ap, ◌∙◌, subst}
use mathlib.Core.List.{[]}
use native.Mathlib.Nat.{zero-add}
use native.Mathlib.Omega.{arith}
use lib.ListN.{length, drop, get_or}
use lib.Seq.{sets}
use Rattle.lists.specs.Tab.{table_of}
use Rattle.lists.proofs.Laws.{filled_none, filled_row_lem, filled-rows}
use Rattle.op_file.specs.File.{size_of, records_of, start_at, operation_words, records_words, file_words}
use Rattle.op_file.proofs.Starts.{file-reached}
use Rattle.op_list.proofs.RecordAgain.{first-words}
use Rattle.op_list.proofs.Files.{operation-length}
use Rattle.op_list.proofs.put_operations.Invariants.{Words}
use Rattle.op_list.proofs.put_operations.Goals as goal

pub loop-i-init : goal.loop-i-init
unfolding start_at
loop-i-init c = (omega arith, refl, filled_none _ _ _ _)

pub read_operation-from-requires : goal.read_operation-from-requires
read_operation-from-requires c =
    let file = c.args.file.now in
    let reached = file-reached file c.requires.0 c.loop-i.i (omega arith) in
    (subst (λ (k : ℕ). k + size_of (drop k file) ≤ length file) (sym c.loop-i.invariant.1) reached.long, omega (arith, c.loop-i.invariant.2.long))

pub loop-i-preserved : goal.loop-i-preserved
loop-i-preserved c =
    let file = c.args.file.now in
    let i = c.loop-i.i in
    let w = c.read_operation-from.ensures in
    let from = c.loop-i.invariant.1 in
    let reached = file-reached file c.requires.0 i (omega arith) in
    let words : operation_words (drop c.loop-i.from file) ≡ Words file i =
    ap (λ (k : ℕ). operation_words (drop k file)) from ∙ first-words (drop (start_at (records_of file) i) file) ∙ ap operation_words (sym reached.there)
    in (
      omega arith,
      w.1 ∙ ap (λ (k : ℕ). k + size_of (drop k file)) from ∙ sym reached.next,
      filled_row_lem c.args.n 53 (Words file) i c.loop-i.invariant.2 c.loop-i-test.true (operation-length (get_or (records_of file) i [])) (sym (zero-add (i * 53))) (w.0 ∙ ap (sets c.loop-i.ops (i * 53)) words),
    )

pub returns : goal.returns
unfolding file_words records_words
returns c =
    filled-rows c.args.n 53 (Words c.args.file.now) c.loop-i.i c.loop-i.invariant.2 c.loop-i-test.false
    ∙ ap (λ (k : ℕ). sets c.args.ops.now 0 (table_of k 53 (Words c.args.file.now))) c.requires.1
