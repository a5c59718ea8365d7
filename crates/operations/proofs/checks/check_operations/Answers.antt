-- `check_operations` meets its contract: one check after the other.
use mathlib.Core.Path.{sym, ap, ◌∙◌}
use mathlib.Core.Bool.{not}
use borrow.Author.Tests.{ne_eqb, eq-eqb, lt-ltb, le-ltb}
use Rattle.answer.specs.Refusal.{answer_of}
use Rattle.answer.proofs.Laws.{handed-on, refuse-yes, refuse-no, answers, is-refused, is-done}
use Rattle.keccak.proofs.Refusals.{addresses-still, addresses-later}
use Rattle.operations.proofs.checks.check_operations.Goals as goal

pub returns-then-ops-ne0 : goal.returns-then-ops-ne0
returns-then-ops-ne0 c = answers (refuse-yes _ _ (ap not (ne_eqb _ _ c.if-ops-ne0.true)))

pub returns-then-room-needed : goal.returns-then-room-needed
returns-then-room-needed c = answers (refuse-no _ (ap not (eq-eqb _ _ c.if-ops-ne0.false)) (refuse-yes _ _ (lt-ltb _ _ c.if-room-needed.true)))

pub returns-in_err-check_addresses : goal.returns-in_err-check_addresses
returns-in_err-check_addresses c =
    handed-on _ c.from_residual.ensures.1 ∙ answers
    (refuse-no _ (ap not (eq-eqb _ _ c.if-ops-ne0.false))
    (refuse-no _ (le-ltb _ _ c.if-room-needed.false)
    (addresses-still _ _ (is-refused _ (sym c.in_err-check_addresses.was ∙ c.check_addresses.ensures)))))

pub returns : goal.returns
returns c =
    c.check_segments.ensures
    ∙ ap answer_of
    (sym
    (refuse-no _ (ap not (eq-eqb _ _ c.if-ops-ne0.false))
    (refuse-no _ (le-ltb _ _ c.if-room-needed.false)
    (addresses-later _ _ (is-done _ (sym c.in_ok-check_addresses.was ∙ c.check_addresses.ensures))))))
