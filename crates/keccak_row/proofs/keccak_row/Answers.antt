-- `keccak_row::keccak_row` meets its contract: one check after the other, then the row.
use mathlib.Core.Path.{sym, ap, ◌∙◌, subst}
use Prim.Native.Nat.{◌+◌, ◌<◌, ◌^◌}
use native.Mathlib.Omega.{arith}
use borrow.Author.Tests.{lt-ltb, le-ltb, le-leb, lt-leb}
use lib.Seq.{sets}
use Rattle.answer.proofs.Laws.{refuse-yes, refuse-no, answers, kept, accepts, written, handed-on, is-refused, is-done, sets-overwrite}
use Rattle.keccak.specs.Refusals.{op_count, core_row_refusal}
use Rattle.keccak.proofs.Checks.{passed, address-fits, segment-fits}
use Rattle.keccak.specs.Row.{core_row, op_at}
use Rattle.keccak.specs.declared.KeccakOperation.{KeccakOperation}
use Rattle.keccak.proofs.Cells.{length-core}
use Rattle.keccak_row.proofs.keccak_row.Goals as goal

pub returns-then-n-gt-MAX_OPS : goal.returns-then-n-gt-MAX_OPS
unfolding core_row_refusal
returns-then-n-gt-MAX_OPS c =
    let refuses = refuse-yes _ _ (lt-ltb _ _ c.if-n-gt-MAX_OPS.true) in
    record { answer = answers refuses; words = kept _ _ refuses }

pub returns-then-index-n : goal.returns-then-index-n
unfolding core_row_refusal
returns-then-index-n c =
    record {
      answer = answers (refuse-no _ (le-ltb _ _ c.if-n-gt-MAX_OPS.false) (refuse-yes _ _ (le-leb _ _ c.if-index-n.true)));
      words = kept _ _ (refuse-no _ (le-ltb _ _ c.if-n-gt-MAX_OPS.false) (refuse-yes _ _ (le-leb _ _ c.if-index-n.true)));
    }

pub returns-in_err-check_operations : goal.returns-in_err-check_operations
unfolding core_row_refusal
returns-in_err-check_operations c =
    let told = is-refused _ (sym c.in_err-check_operations.was ∙ c.check_operations.ensures) in
    record {
      answer = handed-on _ c.from_residual.ensures.1 ∙ answers (refuse-no _ (le-ltb _ _ c.if-n-gt-MAX_OPS.false) (refuse-no _ (lt-leb _ _ c.if-index-n.false) told));
      words = kept _ _ (refuse-no _ (le-ltb _ _ c.if-n-gt-MAX_OPS.false) (refuse-no _ (lt-leb _ _ c.if-index-n.false) told));
    }

pub operation_at-op-requires : goal.operation_at-op-requires
operation_at-op-requires c =
    let ops = c.args.ops.now in
    let known = passed _ _ ops (is-done _ (sym c.in_ok-check_operations.was ∙ c.check_operations.ensures)) in
    (omega arith, segment-fits ops (op_count ops) c.args.index known.segments c.if-index-n.false)

pub put_core_row-requires : goal.put_core_row-requires
put_core_row-requires c =
    let ops = c.args.ops.now in
    let known = passed _ _ ops (is-done _ (sym c.in_ok-check_operations.was ∙ c.check_operations.ensures)) in (
      omega (arith, known.fits),
      subst (λ (o : KeccakOperation). o.state_addr + 192 < 2 ^ 64) (sym c.operation_at-op.ensures)
          (address-fits ops (op_count ops) c.args.index known.low c.if-index-n.false),
    )

pub returns : goal.returns
unfolding core_row_refusal
returns c =
    let ops = c.args.ops.now in
    let row = c.args.row.now in
    let op = op_at ops c.args.index in
    let clear = is-done _ (sym c.in_ok-check_operations.was ∙ c.check_operations.ensures) in
    record {
      answer = accepts (refuse-no _ (le-ltb _ _ c.if-n-gt-MAX_OPS.false) (refuse-no _ (lt-leb _ _ c.if-index-n.false) clear));
      words =
          written _ (refuse-no _ (le-ltb _ _ c.if-n-gt-MAX_OPS.false) (refuse-no _ (lt-leb _ _ c.if-index-n.false) clear))
          (c.put_core_row.ensures
          ∙ ap (λ (o : KeccakOperation). sets row 0 (core_row o)) c.operation_at-op.ensures
          ∙ sets-overwrite row (core_row op) (omega (arith, (passed _ _ ops clear).fits, length-core op)));
    }
