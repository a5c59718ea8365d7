-- `registers::checks::check_ledger` meets its contract: the part is the ledger, and its place in it is told from the first word of all on.
use mathlib.Core.List.{List}
use mathlib.Core.Path.{sym, ap, ◌∙◌}
use Prim.Native.Nat.{ℕ}
use native.Mathlib.Omega.{arith}
use Rattle.lists.proofs.First.{at-found, place_at, place-nowhere}
use Rattle.field.specs.Elements.{not_element, first_not_element}
use Rattle.answer.proofs.Laws.{answers, accepts}
use Rattle.registers.specs.Registers.{ledger_of}
use Rattle.registers.proofs.Ledgers.{part-ledger}
use Rattle.registers.proofs.Refusals.{own-refused, own-passed}
use Rattle.registers.proofs.checks.check_ledger.Goals as goal

pub overflow_add-result : goal.overflow_add-result
overflow_add-result c =
    let e = ap (λ (w : List ℕ). first_not_element w 10) (sym (part-ledger c.args.ledgers.now c.args.register c.requires))
    ∙ place_at _ (sym c.in-Some.is ∙ c.first_not_element.ensures) in
    let b = (at-found (not_element (ledger_of c.args.ledgers.now c.args.register)) 10 _ e).0 in
    omega (arith, b)

pub returns-in-Some : goal.returns-in-Some
returns-in-Some c =
    answers
    (own-refused _ _ _
    (ap (λ (w : List ℕ). first_not_element w 10) (sym (part-ledger c.args.ledgers.now c.args.register c.requires))
    ∙ place_at _ (sym c.in-Some.is ∙ c.first_not_element.ensures)))

pub returns : goal.returns
returns c =
    accepts
    (own-passed _ _
    (ap (λ (w : List ℕ). first_not_element w 10) (sym (part-ledger c.args.ledgers.now c.args.register c.requires))
    ∙ place-nowhere _ (sym c.in_default.is ∙ c.first_not_element.ensures)))
