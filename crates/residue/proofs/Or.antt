-- An OR is 0 where all of it is; and a loop that makes one.
use mathlib.Core.Path.{◌≡◌, refl, sym, ap, ap₂, ◌∙◌}
use mathlib.Core.Bool.{Bool, ◌&&◌}
use Prim.Native.Nat.{ℕ, zero, suc, ◌+◌, ◌≤◌, ◌<◌}
use native.Mathlib.Numerals.{add-one}
use native.Mathlib.Omega.{arith}
use borrow.Author.Tests.{eq-eqb, ne_eqb, eqb-true}
use lib.Bits.{bit_or, or_add_and, and_le_l, and_le_r}
use lib.Dec.{eqb}
use Rattle.lists.specs.Sum.{all_below}
use Rattle.lists.proofs.Sum.{all-at}
use Rattle.lists.proofs.Tests.{T_of}
use Rattle.lists.proofs.Then.{by_le, T_true}
use Rattle.residue.specs.Residue.{or_all}

-- ---- of two
or-none : (a b : ℕ) → bit_or a b ≡ 0 → (a ≡ 0) × (b ≡ 0)
or-none a b e =
    let s = or_add_and a b in
    let l = and_le_l a b in
    let r = and_le_r a b in
    (omega (arith, s, l, r, e), omega (arith, s, l, r, e))

-- an OR is 0 where both are
pub or-zero : (a b : ℕ) → eqb (bit_or a b) 0 ≡ (eqb a 0 && eqb b 0)
or-zero a b =
    by_le 1 a
    (λ l. ne_eqb (bit_or a b) 0 (λ e. let z = (or-none a b e).0 in omega (arith, z)) ∙ sym (ap (λ (x : Bool). x && eqb b 0) (ne_eqb a 0 (λ e. omega (arith, e)))))
    (λ l. by_le 1 b
    (λ m. ne_eqb (bit_or a b) 0 (λ e. let z = (or-none a b e).1 in omega (arith, z)) ∙ sym (ap₂ (λ (x y : Bool). x && y) (eq-eqb a 0 (omega arith)) (ne_eqb b 0 (λ e. omega (arith, e)))))
    (λ m. let za : a ≡ 0 = omega arith in let zb : b ≡ 0 = omega arith in eq-eqb (bit_or a b) 0 (ap₂ bit_or za zb) ∙ sym (ap₂ (λ (x y : Bool). x && y) (eq-eqb a 0 za) (eq-eqb b 0 zb))))

-- ---- of many
pub or-all-zero : (n : ℕ) (f : ℕ → ℕ) (t : ℕ → Bool) → ((b : ℕ) → eqb (f b) 0 ≡ t b) → eqb (or_all n f) 0 ≡ all_below n t
unfolding or_all all_below
or-all-zero zero f t h = refl
or-all-zero (suc n) f t h = or-zero (f n) (or_all n f) ∙ ap₂ (λ (x y : Bool). x && y) (h n) (or-all-zero n f t h)

-- where the OR is 0, each of them is
pub or-each : (n : ℕ) (f : ℕ → ℕ) → or_all n f ≡ 0 → (i : ℕ) → i < n → f i ≡ 0
or-each n f e i l =
    eqb-true (f i) 0
    (T_true (eqb (f i) 0) (all-at n (λ k. eqb (f k) 0) (T_of (all_below n (λ k. eqb (f k) 0)) (sym (or-all-zero n f (λ k. eqb (f k) 0) (λ k. refl)) ∙ eq-eqb (or_all n f) 0 e)) i l))

pub or_same : (n : ℕ) (f g : ℕ → ℕ) → ((k : ℕ) → k < n → f k ≡ g k) → or_all n f ≡ or_all n g
unfolding or_all
or_same zero f g h = refl
or_same (suc n) f g h = ap₂ bit_or (h n (omega arith)) (or_same n f g (λ k l. h k (omega arith)))

-- ---- in a loop
module _ (f : ℕ → ℕ) where
  pub or-start : 0 ≡ or_all 0 f
  unfolding or_all
  or-start = refl

  pub or-more : (n x : ℕ) → x ≡ or_all n f → bit_or (f n) x ≡ or_all (n + 1) f
  unfolding or_all
  or-more n x e = ap (bit_or (f n)) e ∙ ap (λ (k : ℕ). or_all k f) (sym (add-one n))

  pub or-end : (k n x : ℕ) → k ≤ n → n ≤ k → x ≡ or_all k f → x ≡ or_all n f
  or-end k n x l g e = let q : k ≡ n = omega arith in e ∙ ap (λ (k : ℕ). or_all k f) q
