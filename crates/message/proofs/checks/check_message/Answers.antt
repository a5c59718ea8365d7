-- `check_message` meets its contract: one check after the other.
use mathlib.Core.Path.{refl, sym, ap, ◌∙◌}
use mathlib.Core.Option.{some}
use Prim.Native.Nat.{ℕ, ◌*◌, ◌≤◌, ◌<◌}
use native.Mathlib.Omega.{arith}
use borrow.Author.Tests.{lt-ltb, le-ltb}
use Rattle.sha3.specs.Sha3.{blocks}
use Rattle.answer.specs.Refusal.{answer_of}
use Rattle.answer.specs.declared.Refusal.TheVariants.{TooShort}
use Rattle.answer.proofs.Laws.{refuse-yes, refuse-no, answers}
use Rattle.message.specs.Message.{message_refusal}
use Rattle.message.proofs.checks.check_message.Goals as goal

pub returns-then-n-gt-MAX_MESSAGE : goal.returns-then-n-gt-MAX_MESSAGE
unfolding message_refusal
returns-then-n-gt-MAX_MESSAGE c = answers (refuse-yes _ _ (lt-ltb _ _ c.if-n-gt-MAX_MESSAGE.true))

pub returns-then-is_late : goal.returns-then-is_late
unfolding message_refusal
returns-then-is_late c =
    answers (refuse-no _ (le-ltb _ _ c.if-n-gt-MAX_MESSAGE.false) (refuse-yes _ _ (sym c.is_late.ensures ∙ c.if-is_late.true)))

pub returns-then-room-needed : goal.returns-then-room-needed
unfolding message_refusal
returns-then-room-needed c =
    let short : c.args.room < blocks c.args.message.now * 53 = omega (arith, c.block_count-needed.ensures) in
    answers
    (refuse-no _ (le-ltb _ _ c.if-n-gt-MAX_MESSAGE.false)
    (refuse-no _ (sym c.is_late.ensures ∙ c.if-is_late.false)
    (refuse-yes _ _ (lt-ltb _ _ short)
    ∙ ap (λ (n : ℕ). some (TooShort (n * 53))) (sym c.block_count-needed.ensures))))

pub returns : goal.returns
unfolding message_refusal
returns c =
    let long : blocks c.args.message.now * 53 ≤ c.args.room = omega (arith, c.block_count-needed.ensures) in
    c.check_address.ensures
    ∙ ap answer_of
    (sym
    (refuse-no _ (le-ltb _ _ c.if-n-gt-MAX_MESSAGE.false)
    (refuse-no _ (sym c.is_late.ensures ∙ c.if-is_late.false)
    (refuse-no _ (le-ltb _ _ long) refl))))
