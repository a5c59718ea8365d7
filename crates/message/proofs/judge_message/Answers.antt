-- `judge_message` meets its contract: the checks, then the length, the timestamps and the words.
use mathlib.Core.Path.{sym, ap, ◌∙◌}
use mathlib.Core.Bool.{false}
use Prim.Native.Nat.{ℕ, ◌*◌}
use native.Mathlib.Omega.{arith}
use Rattle.answer.proofs.Laws.{handed-on, is-refused, is-done}
use Rattle.keccak.specs.Row.{op_at}
use Rattle.message.proofs.Judging.{judge-refused, judge-says, not_late, late-no, length-no, words-say}
use Rattle.message.proofs.judge_message.Goals as goal

pub returns-in_err-check_list : goal.returns-in_err-check_list
returns-in_err-check_list c =
    handed-on _ c.from_residual.ensures.1 ∙ judge-refused _ (is-refused _ (sym c.in_err-check_list.was ∙ c.check_list.ensures))

pub returns-then-ops-block_count : goal.returns-then-ops-block_count
returns-then-ops-block_count c =
    let a = c.args in
    judge-says false (is-done _ (sym c.in_ok-check_list.was ∙ c.check_list.ensures))
    (length-no a.message.now a.ops.now (λ e. c.if-ops-block_count.true (e ∙ ap (λ (n : ℕ). n * 53) (sym c.block_count.ensures))))

pub returns-then-is_late : goal.returns-then-is_late
unfolding op_at
returns-then-is_late c =
    let a = c.args in
    judge-says false (is-done _ (sym c.in_ok-check_list.was ∙ c.check_list.ensures))
    (late-no a.message.now a.ops.now (sym c.is_late.ensures ∙ c.if-is_late.true))

pub is_list-requires : goal.is_list-requires
unfolding op_at
is_list-requires c =
    let a = c.args in
    (omega (arith, c.block_count.ensures), not_late a.message.now a.ops.now (sym c.is_late.ensures ∙ c.if-is_late.false))

pub returns : goal.returns
unfolding op_at
returns c =
    let a = c.args in
    judge-says _ (is-done _ (sym c.in_ok-check_list.was ∙ c.check_list.ensures))
    (words-say a.message.now a.ops.now (sym c.is_late.ensures ∙ c.if-is_late.false) ∙ sym c.is_list.ensures)
