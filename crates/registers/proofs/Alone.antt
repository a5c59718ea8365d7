-- "From the same start, with only charges writing, a register that makes the same calls in the same order has the same ledger and gets the
-- same answers when charging, whatever the others charge meanwhile."
--     Alike        two states alike to a register: what its calls refuse, and its ledger afterwards, goes by these
--     alone        from states alike to it, a history leaves it the ledger and gives it the answers that its own calls alone do
--     same-calls   so two histories in which it makes the same calls do
-- Nothing is supposed of the start: where counters or its ledger are refused, they stay as they are.
use mathlib.Core.Bool.{Bool, true, false}
use mathlib.Core.List.{List, [], ◌∷◌}
use mathlib.Core.Option.{Option, none, some}
use mathlib.Core.Path.{◌≡◌, refl, sym, ap, subst, ◌∙◌}
use Prim.Native.Nat.{ℕ}
use borrow.Author.Tests.{eqb-true, eqb-false}
use lib.ListN.{length}
use Rattle.lists.specs.Select.{cons_if, selected}
use Rattle.lists.proofs.Tests.{true-not-false}
use Rattle.field.specs.Elements.{first_not_element}
use Rattle.field.proofs.NotElement.{none_found}
use Rattle.answer.specs.Refusal.{answer_of}
use Rattle.answer.specs.declared.Refusal.{Refusal}
use Rattle.answer.proofs.Laws.{none_told_lem}
use Rattle.bitwise.specs.Columns.{NUM-COUNTERS}
use Rattle.bitwise.specs.Charge.{charged_counters}
use Rattle.bitwise.proofs.Charge.{charged-elements}
use Rattle.bitwise.proofs.Charged.{charged-length}
use Rattle.segment_counts.proofs.Refusals.{counters-alike}
use Rattle.registers.specs.Registers.{ledger_of, charged_ledger}
use Rattle.registers.specs.History.{Charge, Call, plain, through, State, charge_of, refusal_of, step_after, history_after, is_of, calls_of, answers_to}
use Rattle.registers.proofs.Ledgers.{in-use-is, ledgers-length, own-ledger, other-ledger, ledger-alike}
use Rattle.registers.proofs.Refusals.{through-alike}
use Rattle.registers.proofs.Steps.{added_by, step-refused, step-elements, step-counters, plain-ledgers, through-ledgers, step-used}

pub record Alike (r : ℕ) (s t : State) : Type 0 where
  pub counts : length s.counters ≡ length t.counters
  pub large : first_not_element s.counters NUM-COUNTERS ≡ first_not_element t.counters NUM-COUNTERS
  pub room : length s.ledgers ≡ length t.ledgers
  pub own : ledger_of s.ledgers r ≡ ledger_of t.ledgers r

pub alike_same : (r : ℕ) (s : State) → Alike r s s
alike_same r s = record { counts = refl; large = refl; room = refl; own = refl }

alike_then : {r : ℕ} {s t u : State} → Alike r s t → Alike r t u → Alike r s u
alike_then a b =
    record {
      counts = a.counts ∙ b.counts;
      large = a.large ∙ b.large;
      room = a.room ∙ b.room;
      own = a.own ∙ b.own;
    }

-- ---- a call of the register itself
alike-refusal : (r : ℕ) (s t : State) → Alike r s t → (x : Charge) → refusal_of s (through r x) ≡ refusal_of t (through r x)
unfolding refusal_of
alike-refusal r s t a x =
    through-alike _ _ x.nr x.floor r x.ops s.counters t.counters s.ledgers t.ledgers
    (counters-alike x.ops s.counters t.counters a.counts a.large) a.room a.own

-- the counters after an accepted call: as many, and all of them elements
module _ (s : State) (x : Call) (ok : refusal_of s x ≡ none) where
  charged : List ℕ
  charged = charged_counters s.counters (added_by (charge_of x))

  still-counts : length (step_after s x).counters ≡ length s.counters
  still-counts = ap length (step-counters s x ok) ∙ charged-length s.counters (added_by (charge_of x)) (step-elements s x ok).long

  none-large : first_not_element s.counters NUM-COUNTERS ≡ none
  none-large = none_found s.counters NUM-COUNTERS (step-elements s x ok).below

  still-large : first_not_element (step_after s x).counters NUM-COUNTERS ≡ none
  unfolding charged
  still-large =
      ap (λ (c : List ℕ). first_not_element c NUM-COUNTERS) (step-counters s x ok)
      ∙ none_found charged NUM-COUNTERS (charged-elements s.counters (added_by (charge_of x)) (step-elements s x ok).long).below

own-alike : (r : ℕ) (s t : State) → Alike r s t → (x : Charge) → Alike r (step_after s (through r x)) (step_after t (through r x))
own-alike r s t a x = go (refusal_of s (through r x)) refl (refusal_of t (through r x)) refl
  where
    go : (o : Option Refusal) → refusal_of s (through r x) ≡ o → (o' : Option Refusal) → refusal_of t (through r x) ≡ o' → Alike r (step_after s (through r x)) (step_after t (through r x))
    go none e none f =
        record {
          counts = still-counts s (through r x) e ∙ a.counts ∙ sym (still-counts t (through r x) f);
          large = still-large s (through r x) e ∙ sym (still-large t (through r x) f);
          room = ap length (through-ledgers s r x e) ∙ ledgers-length r s.ledgers (added_by x) ∙ a.room ∙ sym (ledgers-length r t.ledgers (added_by x)) ∙ sym (ap length (through-ledgers t r x f));
          own = ledger s e ∙ ledger-alike r s.ledgers t.ledgers (added_by x) a.own ∙ sym (ledger t f);
        }
      where
        ledger : (u : State) → refusal_of u (through r x) ≡ none → ledger_of (step_after u (through r x)).ledgers r ≡ charged_ledger r u.ledgers (added_by x)
        ledger u h =
            ap (λ (l : List ℕ). ledger_of l r) (through-ledgers u r x h)
            ∙ own-ledger r u.ledgers (added_by x) ((in-use-is (length u.ledgers) r).0 (step-used u r x h)).0
    go none e (some q) f = absurd (none_told_lem (sym e ∙ alike-refusal r s t a x ∙ f))
    go (some q) e none f = absurd (none_told_lem (sym f ∙ sym (alike-refusal r s t a x) ∙ e))
    go (some q) e (some q') f = subst (λ (u : State). Alike r u (step_after t (through r x))) (sym (step-refused s (through r x) e)) (subst (Alike r s) (sym (step-refused t (through r x) f)) a)

-- ---- a call of another register, or of none
other-ledgers : (r : ℕ) (s : State) (x : Call) → is_of r x ≡ false → refusal_of s x ≡ none
    → (length (step_after s x).ledgers ≡ length s.ledgers) × (ledger_of (step_after s x).ledgers r ≡ ledger_of s.ledgers r)
unfolding is_of
other-ledgers r s (plain x) d e = (ap length (plain-ledgers s x), ap (λ (l : List ℕ). ledger_of l r) (plain-ledgers s x))
other-ledgers r s (through q x) d e = (
  ap length (through-ledgers s q x e) ∙ ledgers-length q s.ledgers (added_by x),
  ap (λ (l : List ℕ). ledger_of l r) (through-ledgers s q x e) ∙ other-ledger q s.ledgers (added_by x) r (λ f. eqb-false q r d (sym f)),
)

others-alike : (r : ℕ) (s : State) (x : Call) → is_of r x ≡ false → Alike r (step_after s x) s
others-alike r s x d = go (refusal_of s x) refl
  where
    go : (o : Option Refusal) → refusal_of s x ≡ o → Alike r (step_after s x) s
    go none e =
        let b = other-ledgers r s x d e in
        record { counts = still-counts s x e; large = still-large s x e ∙ sym (none-large s x e); room = b.0; own = b.1 }
    go (some q) e = subst (λ (u : State). Alike r u s) (sym (step-refused s x e)) (alike_same r s)

-- ---- histories
pub alone : (r : ℕ) (s t : State) → Alike r s t → (h : List Call)
    → Alike r (history_after s h) (history_after t (calls_of r h)) × (answers_to r s h ≡ answers_to r t (calls_of r h))
unfolding history_after answers_to selected is_of
alone r s t a [] = (a, refl)
alone r s t a (x ∷ xs) = go (is_of r x) refl (λ b. alone r (step_after s x) (step_after t x) b xs) (λ b. alone r (step_after s x) t b xs)
  where
    Claim : State → State → Type 0
    Claim u v = Alike r (history_after u xs) (history_after v (calls_of r xs)) × (answers_to r u xs ≡ answers_to r v (calls_of r xs))

    -- its own call: the same answer
    own : (y : Call) → is_of r y ≡ true → Alike r (step_after s y) (step_after t y) × (answer_of (refusal_of s y) ≡ answer_of (refusal_of t y))
    own (plain y) e = absurd (true-not-false (sym e))
    own (through q y) e =
        let f : r ≡ q = sym (eqb-true q r e) in
        subst (λ (q : ℕ). Alike r (step_after s (through q y)) (step_after t (through q y)) × (answer_of (refusal_of s (through q y)) ≡ answer_of (refusal_of t (through q y)))) f
        (own-alike r s t a y, ap answer_of (alike-refusal r s t a y))

    go : (b : Bool) → is_of r x ≡ b → (Alike r (step_after s x) (step_after t x) → Claim (step_after s x) (step_after t x)) → (Alike r (step_after s x) t → Claim (step_after s x) t)
        → Alike r (history_after (step_after s x) xs) (history_after t (cons_if b x (calls_of r xs)))
        × (cons_if b (answer_of (refusal_of s x)) (answers_to r (step_after s x) xs) ≡ answers_to r t (cons_if b x (calls_of r xs)))
    go true e both one =
        let c = own x e in
        let d = both c.0 in (
          d.0,
          (λ i. c.1 i ∷ d.1 i) ∙ ap (λ (b : Bool). cons_if b (answer_of (refusal_of t x)) (answers_to r (step_after t x) (calls_of r xs))) (sym e),
        )
    go false e both one = one (alike_then (others-alike r s x e) a)

module _ (r : ℕ) (s : State) (h g : List Call) (same : calls_of r h ≡ calls_of r g) where
  pub same-ledger : ledger_of (history_after s h).ledgers r ≡ ledger_of (history_after s g).ledgers r
  same-ledger =
      (alone r s s (alike_same r s) h).0.own
      ∙ ap (λ (c : List Call). ledger_of (history_after s c).ledgers r) same
      ∙ sym (alone r s s (alike_same r s) g).0.own

  pub same-answers : answers_to r s h ≡ answers_to r s g
  same-answers = (alone r s s (alike_same r s) h).1 ∙ ap (answers_to r s) same ∙ sym (alone r s s (alike_same r s) g).1
