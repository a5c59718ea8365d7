-- `first_at` and `first_in` find the first failure, for a test that separates what fails from what holds; and tests that do.
use mathlib.Core.Path.{◌≡◌, refl, sym, ◌∙◌}
use mathlib.Core.Bool.{Bool, true, false, not, ◌&&◌}
use mathlib.Core.Option.{Option, none, some}
use mathlib.Core.Logic.{◌↔◌}
use Prim.Native.Nat.{ℕ, ◌≤◌, ◌<◌}
use native.Mathlib.Omega.{arith}
use borrow.Author.Tests.{leb-true, leb-false, le-leb, lt-leb}
use lib.Dec.{leb}
use Rattle.lists.specs.First.{first_at, first_in, is_some, any_below}
use Rattle.lists.specs.Decides.{Decides}
use Rattle.lists.specs.Failure.{Separates, FirstAt, FirstIn}
use Rattle.lists.proofs.Tests.{true-not-false}
use Rattle.lists.proofs.First.{at-hit, at_clear, at-nothing, at-found, in-hit, in-clear, in-nothing, in-found, row-clear, row-nothing}

-- ---- the first failure
module _ (t : ℕ → Bool) (n : ℕ) {F H : ℕ → Type 0} (s : (k : ℕ) → k < n → Separates (t k) (F k) (H k)) where
  pub at-none-iff : (first_at t n ≡ none) ↔ ((k : ℕ) → k < n → H k)
  at-none-iff = ((λ e k l. (s k l).holds (at_clear t n k e l)), λ h. at-nothing t n (λ k l. (s k l).is_false (h k l)))

  pub at-some-iff : (k : ℕ) → (first_at t n ≡ some k) ↔ FirstAt F H n k
  at-some-iff k = (
    (λ e. let x = at-found t n k e in
        record { there = x.0; fails = (s k x.0).fails x.1; lower = λ j l. (s j (omega (arith, x.0))).holds (at_clear t k j x.2 l) }),
    λ f. at-hit t k n f.there (at-nothing t k (λ j l. (s j (omega (arith, f.there))).is_false (f.lower j l))) ((s k f.there).is_true f.fails),
  )

module _ (t : ℕ → ℕ → Bool) (m n : ℕ) {F H : ℕ → ℕ → Type 0} (s : (r i : ℕ) → r < n → i < m → Separates (t r i) (F r i) (H r i)) where
  pub in-none-iff : (first_in t m n ≡ none) ↔ ((r i : ℕ) → r < n → i < m → H r i)
  in-none-iff = ((λ e r i l g. (s r i l g).holds (in-clear t m n r i e l g)), λ h. in-nothing t m n (λ r i l g. (s r i l g).is_false (h r i l g)))

  pub in-some-iff : (r i : ℕ) → (first_in t m n ≡ some (r, i)) ↔ FirstIn F H m n r i
  in-some-iff r i = (
    (λ e. let x = in-found t m n r i e in
        record {
          row-there = x.0;
          index-there = x.1;
          fails = (s r i x.0 x.1).fails x.2;
          lower-row = λ q j l g. (s q j (omega (arith, x.0)) g).holds (in-clear t m r q j x.3 l g);
          lower-index = λ j l. (s r j x.0 (omega (arith, x.1))).holds (row-clear t m r i j x.4 l);
        }),
    λ f. in-hit t m r i n f.row-there f.index-there
        (in-nothing t m r (λ q j l g. (s q j (omega (arith, f.row-there)) g).is_false (f.lower-row q j l g)))
        (row-nothing t m r i (λ j l. (s r j f.row-there (omega (arith, f.index-there))).is_false (f.lower-index j l)))
        ((s r i f.row-there f.index-there).is_true f.fails),
  )

-- ---- tests that separate
pub separates-map : {b : Bool} {F F' H H' : Type 0} → (F ↔ F') → (H ↔ H') → Separates b F H → Separates b F' H'
separates-map f h s =
    record { fails = λ e. f.0 (s.fails e); holds = λ e. h.0 (s.holds e); is_true = λ x. s.is_true (f.1 x); is_false = λ x. s.is_false (h.1 x) }

-- a test that decides what is to be the case, or what is not to be
pub separates-no : {P : Type 0} (b : Bool) → Decides b P → Separates (not b) (P → ⊥) P
separates-no true d = record { fails = λ e. absurd (true-not-false (sym e)); holds = λ e. d.to tt; is_true = λ h. absurd (h (d.to tt)); is_false = λ x. refl }
separates-no false d = record { fails = λ e. d.from; holds = λ e. absurd (true-not-false e); is_true = λ h. refl; is_false = λ x. absurd (d.from x) }

pub separates-yes : {P : Type 0} (b : Bool) → Decides b P → Separates b P (P → ⊥)
separates-yes true d = record { fails = λ e. d.to tt; holds = λ e. absurd (true-not-false e); is_true = λ x. refl; is_false = λ h. absurd (h (d.to tt)) }
separates-yes false d = record { fails = λ e. absurd (true-not-false (sym e)); holds = λ e. d.from; is_true = λ x. absurd (d.from x); is_false = λ h. refl }

pub separates-le : (a b : ℕ) → Separates (leb a b) (a ≤ b) (b < a)
separates-le a b = record { fails = leb-true a b; holds = leb-false a b; is_true = le-leb a b; is_false = lt-leb a b }

pub separates-and : (a b : Bool) {P F H : Type 0} → Separates a P (P → ⊥) → Separates b F H → Separates (a && b) (P × F) (P → H)
separates-and true b s d =
    let x = s.fails refl in
    record { fails = λ e. (x, d.fails e); holds = λ e y. d.holds e; is_true = λ y. d.is_true y.1; is_false = λ h. d.is_false (h x) }
separates-and false b s d =
    let n = s.holds refl in
    record { fails = λ e. absurd (true-not-false (sym e)); holds = λ e y. absurd (n y); is_true = λ y. absurd (n y.0); is_false = λ h. refl }

module _ (t : ℕ → Bool) (n : ℕ) {F H : ℕ → Type 0} (s : (k : ℕ) → k < n → Separates (t k) (F k) (H k)) where
  pub separates-any : Separates (any_below t n) ((k : ℕ) × (k < n) × F k) ((k : ℕ) → k < n → H k)
  unfolding any_below
  separates-any = go (first_at t n) refl
    where
      go : (o : Option ℕ) → first_at t n ≡ o → Separates (is_some o) ((k : ℕ) × (k < n) × F k) ((k : ℕ) → k < n → H k)
      go none e =
          record {
            fails = λ x. absurd (true-not-false (sym x));
            holds = λ x. (at-none-iff t n s).0 e;
            is_true = λ x. absurd (true-not-false (sym ((s x.0 x.1).is_true x.2) ∙ at_clear t n x.0 e x.1));
            is_false = λ h. refl;
          }
      go (some k) e =
          let x = at-found t n k e in
          record {
            fails = λ y. (k, x.0, (s k x.0).fails x.1);
            holds = λ y. absurd (true-not-false y);
            is_true = λ y. refl;
            is_false = λ h. absurd (true-not-false (sym x.1 ∙ (s k x.0).is_false (h k x.0)));
          }
