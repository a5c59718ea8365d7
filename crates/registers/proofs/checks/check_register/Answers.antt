-- `registers::checks::check_register` meets its contract: the number of rounds and the floor, the register, the list with the slices and
-- the counters, the register's ledger.
use mathlib.Core.Path.{sym, ap, ◌∙◌}
use Prim.Native.Nat.{◌≤◌, ◌<◌}
use native.Mathlib.Omega.{arith}
use lib.ListN.{length}
use Rattle.answer.specs.Refusal.{answer_of}
use Rattle.answer.proofs.Refusals.{both-go-on}
use Rattle.answer.proofs.Laws.{answers, handed-on, is-refused, is-done}
use Rattle.segment_counts.proofs.Refusals.{counts-later}
use Rattle.registers.specs.Registers.{in_use}
use Rattle.registers.proofs.Ledgers.{in-use-is}
use Rattle.registers.proofs.Refusals.{parameters-stop, through-register, through-segment, through-own}
use Rattle.registers.proofs.checks.check_register.Goals as goal

pub returns-in_err-check_rounds_and_floor : goal.returns-in_err-check_rounds_and_floor
returns-in_err-check_rounds_and_floor c =
    handed-on _ c.from_residual.ensures.1
    ∙ answers (parameters-stop _ _ _ _ _ _ _ c.check_rounds_and_floor.ensures c.in_err-check_rounds_and_floor.was)

pub returns-then-register-in_use : goal.returns-then-register-in_use
returns-then-register-in_use c =
    let a = c.args in
    let right = both-go-on a.nr a.floor c.check_rounds_and_floor.ensures c.in_ok-check_rounds_and_floor.was in
    let b : in_use (length a.ledgers.now) ≤ a.register = omega (arith, c.if-register-in_use.true, c.in_use.ensures) in
    answers (through-register _ _ _ _ _ _ _ right b)

pub returns-in_err-check_counts : goal.returns-in_err-check_counts
returns-in_err-check_counts c =
    let a = c.args in
    let right = both-go-on a.nr a.floor c.check_rounds_and_floor.ensures c.in_ok-check_rounds_and_floor.was in
    let used : a.register < in_use (length a.ledgers.now) = omega (arith, c.if-register-in_use.false, c.in_use.ensures) in
    handed-on _ c.from_residual-in_err-check_counts.ensures.1
    ∙ answers
    (through-segment _ _ _ _ _ _ _ right used
    (sym (counts-later _ _ _ _ _ _ right) ∙ is-refused _ (sym c.in_err-check_counts.was ∙ c.check_counts.ensures)))

pub check_ledger-requires : goal.check_ledger-requires
check_ledger-requires c =
    let used : c.args.register < in_use (length c.args.ledgers.now) = omega (arith, c.if-register-in_use.false, c.in_use.ensures) in
    ((in-use-is _ _).0 used).0

pub returns : goal.returns
returns c =
    let a = c.args in
    let right = both-go-on a.nr a.floor c.check_rounds_and_floor.ensures c.in_ok-check_rounds_and_floor.was in
    let used : a.register < in_use (length a.ledgers.now) = omega (arith, c.if-register-in_use.false, c.in_use.ensures) in
    let clear = sym (counts-later _ _ _ _ _ _ right) ∙ is-done _ (sym c.in_ok-check_counts.was ∙ c.check_counts.ensures) in
    c.check_ledger.ensures ∙ ap answer_of (sym (through-own _ _ _ _ _ _ _ right used clear))
