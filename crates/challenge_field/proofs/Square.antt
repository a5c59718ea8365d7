-- 7 is no square mod p: its power (p - 1) / 2 = 2^63 - 2^31 would be 1, and its powers 2^63 and 2^31 the same.
use mathlib.Core.Path.{◌≡◌, sym, ap, ◌∙◌}
use mathlib.Core.Logic.{◌⊎◌, inl, inr}
use Prim.Native.Nat.{ℕ, zero, suc, ◌+◌, ◌^◌}
use native.Mathlib.Nat.{pow-suc}
use native.Mathlib.Omega.{arith}
use Rattle.challenge.proofs.Words.{Word, words}
use Rattle.challenge.proofs.Ring.{times_none, factor}
use Rattle.challenge_field.proofs.Products.{product, product-times, pow, pow-plus}
use Rattle.challenge_field.proofs.Fermat.{◌⊗◌, fermat}

-- the power 2^j, by squaring
unfoldable squares : ℕ → words.F → words.F
squares zero x = x
squares (suc j) x = squares j (x ⊗ x)

squares-are : (j : ℕ) (x : words.F) → pow words x (2 ^ j) ≡ squares j x
unfolding squares product
squares-are zero x = words.times-comm words.one x ∙ words.times-one x
squares-are (suc j) x =
    ap (pow words x) (doubled j) ∙ pow-plus words x (2 ^ j) (2 ^ j) ∙ sym (product-times words (2 ^ j) (λ k. x) (λ k. x)) ∙ squares-are j (x ⊗ x)
  where
    doubled : (j : ℕ) → 2 ^ suc j ≡ 2 ^ j + 2 ^ j
    doubled j = omega (arith, pow-suc 2 j)

abbrev pub seven : words.F
seven = words.number 7

seven-some : ¬ (seven ≡ words.none)
unfolding words
seven-some e = let q : ◌≡◌ {A = ℕ} 7 0 = ap (λ (w : Word). w.0) e in omega arith

abbrev half : ℕ
half = 9223372034707292160

powers-differ : ¬ (squares 63 seven ≡ squares 31 seven)
unfolding words squares
powers-differ e = let q : ◌≡◌ {A = ℕ} 1066724758865801085 17380019310548783236 = ap (λ (w : Word). w.0) e in omega arith

seven-half : ¬ (pow words seven half ≡ words.one)
seven-half e =
    powers-differ
    (sym (squares-are 63 seven) ∙ pow-plus words seven half (2 ^ 31)
    ∙ ap (λ (w : words.F). w ⊗ pow words seven (2 ^ 31)) e
    ∙ words.times-comm words.one (pow words seven (2 ^ 31)) ∙ words.times-one (pow words seven (2 ^ 31)) ∙ squares-are 31 seven)

square-half : (x : words.F) → ¬ (x ≡ words.none) → pow words (x ⊗ x) half ≡ words.one
square-half x n = product-times words half (λ k. x) (λ k. x) ∙ sym (pow-plus words x half half) ∙ fermat x n

-- x² = 7 y² for 0 alone
pub no-square : (x y : words.F) → x ⊗ x ≡ seven ⊗ (y ⊗ y) → y ≡ words.none
no-square x y e = go (words.same x words.none) (words.same y words.none)
  where
    either : (y ≡ words.none) ⊎ (y ≡ words.none) → y ≡ words.none
    either (inl q) = q
    either (inr q) = q

    go : Dec (x ≡ words.none) → Dec (y ≡ words.none) → y ≡ words.none
    go d (yes z) = z
    go (yes z) (no n) =
        either (words.no-divisors y y (factor words seven (y ⊗ y) (sym e ∙ ap (λ (w : words.F). w ⊗ w) z ∙ times_none words words.none) seven-some))
    go (no m) (no n) =
        absurd (seven-half
        (sym (words.times-one (pow words seven half))
        ∙ ap (λ (w : words.F). pow words seven half ⊗ w) (sym (square-half y n))
        ∙ sym (product-times words half (λ k. seven) (λ k. y ⊗ y))
        ∙ ap (λ (w : words.F). pow words w half) (sym e)
        ∙ square-half x m))
