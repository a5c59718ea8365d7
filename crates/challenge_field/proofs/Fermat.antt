-- The power p - 1 of a word below p is 1, if the word is not 0: a·1, a·2, .., a·(p - 1) are 1, 2, .., p - 1 in another order, so their
-- product is both the same and a to the power p - 1 times it. So 2 is no cube: its power (p - 1) / 3 would be 1, and is 2^64 = 2^32 - 1.
--     fermat     the power is 1
--     no-cube    x³ = 2 y³ for y = 0 alone
use mathlib.Core.Path.{◌≡◌, refl, sym, ap, ◌∙◌}
use Prim.Native.Nat.{ℕ, suc, ◌+◌, ◌-◌, ◌*◌, ◌%◌, ◌<◌}
use native.Mathlib.Nat.{mod-eq_of_lt}
use native.Mathlib.Omega.{arith}
use Rattle.field.specs.Field.{p}
use Rattle.field.proofs.Field.{mod-p}
use Rattle.field.proofs.Powers.{Apart}
use Rattle.challenge.proofs.Words.{Word, reduce, alike, words}
use Rattle.challenge.proofs.Ring.{times_none, factor}
use Rattle.challenge_field.proofs.Cubic.{same-factor, cube-none}
use Rattle.challenge_field.proofs.Products.{product, product-same, product-times, product-some, rearranged, pow, pow-plus, pow-times, pow-one}

infixl 70 ◌⊗◌
abbrev pub ◌⊗◌ : words.F → words.F → words.F
a ⊗ b = words.times a b

-- the words 1, 2, ..
from_one : ℕ → words.F
from_one k = words.number (suc k)

from-one-is : (k : ℕ) → k < p - 1 → (suc k) % p ≡ suc k
from-one-is k l = mod-eq_of_lt (omega arith)

from-one-some : (k : ℕ) → k < p - 1 → ¬ (from_one k ≡ words.none)
unfolding words from_one
from-one-some k l e = let q : suc k % p ≡ 0 = ap (λ (w : Word). w.0) e in omega (arith, from-one-is k l)

from-one-once : (i j : ℕ) → i < p - 1 → j < p - 1 → from_one i ≡ from_one j → i ≡ j
unfolding words from_one
from-one-once i j hi hj e = let q : suc i % p ≡ suc j % p = ap (λ (w : Word). w.0) e in omega (arith, from-one-is i hi, from-one-is j hj)

module _ (a : words.F) (some : ¬ (a ≡ words.none)) where
  -- which of them is a times the word k + 1
  place : ℕ → ℕ
  unfolding words
  place k = (a ⊗ from_one k).0 - 1

  place-small : (k : ℕ) → k < p - 1 → place k < p - 1
  unfolding words place
  place-small k l = omega (arith, mod-p (a.0 * (from_one k).0))

  place_is : (k : ℕ) → k < p - 1 → from_one (place k) ≡ a ⊗ from_one k
  unfolding words place from_one
  place_is k l = alike (reduce (suc ((a ⊗ from_one k).0 - 1))) (a ⊗ from_one k) (go (a ⊗ from_one k).0 (a ⊗ from_one k).1 (λ e. from-one-some k l (factor words a (from_one k) (alike (a ⊗ from_one k) words.none e) some)))
    where
      go : (n : ℕ) → n < p → ¬ (n ≡ 0) → suc (n - 1) % p ≡ n
      go n l z = let e : suc (n - 1) ≡ n = omega arith in ap (λ (m : ℕ). m % p) e ∙ mod-eq_of_lt l

  place-apart : Apart place (p - 1)
  place-apart i j l h e =
      let q : i ≡ j =
      from-one-once i j (omega arith) h
      (same-factor words (from_one i) (from_one j) a
      (words.times-comm (from_one i) a ∙ sym (place_is i (omega arith)) ∙ ap from_one e ∙ place_is j h ∙ words.times-comm a (from_one j)) some) in
      omega arith

  pub fermat : pow words a (p - 1) ≡ words.one
  fermat =
      same-factor words (pow words a (p - 1)) words.one (product words (p - 1) from_one)
      (sym (product-times words (p - 1) (λ k. a) from_one)
      ∙ product-same words (p - 1) (λ k. a ⊗ from_one k) (λ k. from_one (place k)) (λ k l. sym (place_is k l))
      ∙ rearranged words from_one (p - 1) place place-small place-apart
      ∙ sym (words.times-comm words.one (product words (p - 1) from_one) ∙ words.times-one (product words (p - 1) from_one)))
      (product-some words (p - 1) from_one from-one-some)

-- ---- 2 is no cube
abbrev pub two : words.F
two = words.number 2

abbrev third : ℕ
third = 6148914689804861440

cube-third : (x : words.F) → ¬ (x ≡ words.none) → pow words (x ⊗ x ⊗ x) third ≡ words.one
cube-third x n =
    product-times words third (λ k. x ⊗ x) (λ k. x)
    ∙ ap (λ (y : words.F). y ⊗ pow words x third) (product-times words third (λ k. x) (λ k. x) ∙ sym (pow-plus words x third third))
    ∙ sym (pow-plus words x (third + third) third)
    ∙ fermat x n

two-192 : pow words two 192 ≡ words.one
unfolding words product
two-192 = alike (pow words two 192) (reduce 1) refl

two-64 : ¬ (pow words two 64 ≡ words.one)
unfolding words product
two-64 e = let q : ◌≡◌ {A = ℕ} 4294967295 1 = ap (λ (w : Word). w.0) e in omega arith

two-some : ¬ (two ≡ words.none)
unfolding words
two-some e = let q : ◌≡◌ {A = ℕ} 2 0 = ap (λ (w : Word). w.0) e in omega arith

two-third : ¬ (pow words two third ≡ words.one)
two-third e = two-64 (sym is ∙ e)
  where
    is : pow words two third ≡ pow words two 64
    is =
        pow-plus words two (192 * 32025597342733653) 64
        ∙ ap (λ (y : words.F). y ⊗ pow words two 64)
        (pow-times words two 192 32025597342733653 ∙ ap (λ (y : words.F). pow words y 32025597342733653) two-192 ∙ pow-one words 32025597342733653)
        ∙ words.times-comm words.one (pow words two 64) ∙ words.times-one (pow words two 64)

-- x³ = 2 y³ for 0 alone
pub no-cube : (x y : words.F) → x ⊗ x ⊗ x ≡ two ⊗ (y ⊗ y ⊗ y) → y ≡ words.none
no-cube x y e = go (words.same x words.none) (words.same y words.none)
  where
    go : Dec (x ≡ words.none) → Dec (y ≡ words.none) → y ≡ words.none
    go d (yes z) = z
    go (yes z) (no n) =
        cube-none words y
        (factor words two (y ⊗ y ⊗ y) (sym e ∙ ap (λ (w : words.F). w ⊗ w ⊗ w) z ∙ times_none words (words.none ⊗ words.none)) two-some)
    go (no m) (no n) =
        absurd (two-third
        (sym (words.times-one (pow words two third))
        ∙ ap (λ (w : words.F). pow words two third ⊗ w) (sym (cube-third y n))
        ∙ sym (product-times words third (λ k. two) (λ k. y ⊗ y ⊗ y))
        ∙ ap (λ (w : words.F). pow words w third) (sym e)
        ∙ cube-third x m))
