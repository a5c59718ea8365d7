-- Products f 0 · f 1 · .. · f (n - 1) in a domain, and powers.
--     rearranged    a product does not see the order of its factors
--     pow-plus, pow-times, pow-of    powers
use mathlib.Core.Path.{◌≡◌, refl, sym, ap, ap₂, ◌∙◌}
use mathlib.Core.Logic.{◌⊎◌, inl, inr}
use Prim.Native.Nat.{ℕ, zero, suc, ◌+◌, ◌*◌, ◌≤◌, ◌<◌}
use native.Mathlib.Decide.{ℕ_discrete}
use native.Mathlib.Nat.{add-suc, add-zero, mul-suc, mul-zero}
use native.Mathlib.Omega.{arith}
use Rattle.field.proofs.Powers.{Apart, pigeon}
use Rattle.challenge.specs.Domain.{Domain}
use Rattle.challenge.proofs.Ring.{times-left-comm}

abbrev instead : {A : Type 0} → Dec A → ℕ → ℕ → ℕ
instead (yes a) x y = x
instead (no n) x y = y

-- f, with its last value in place of m
unfoldable moved : (ℕ → ℕ) → ℕ → ℕ → ℕ
moved f m k = instead (ℕ_discrete (f k) m) (f m) (f k)

less : (n m : ℕ) → ¬ (n ≡ m) → n < suc m → n < m
less n m d l = omega arith

module _ {p : ℕ} (D : Domain p) where
  infixl 70 ◌⊗◌
  open D use {F, times as ◌⊗◌, none, one, times-assoc, times-comm, times-one, no-divisors, one-is-not}

  unfoldable pub product : ℕ → (ℕ → F) → F
  product zero g = one
  product (suc n) g = product n g ⊗ g n

  pub product-same : (n : ℕ) (g h : ℕ → F) → ((k : ℕ) → k < n → g k ≡ h k) → product n g ≡ product n h
  unfolding product
  product-same zero g h e = refl
  product-same (suc n) g h e = ap₂ ◌⊗◌ (product-same n g h (λ k l. e k (omega arith))) (e n (omega arith))

  swap : (a b c : F) → a ⊗ b ⊗ c ≡ a ⊗ c ⊗ b
  swap a b c = times-assoc a b c ∙ ap (λ (y : F). a ⊗ y) (times-comm b c) ∙ sym (times-assoc a c b)

  pub product-times : (n : ℕ) (g h : ℕ → F) → product n (λ k. g k ⊗ h k) ≡ product n g ⊗ product n h
  unfolding product
  product-times zero g h = sym (times-one one)
  product-times (suc n) g h = ap (λ (y : F). y ⊗ (g n ⊗ h n)) (product-times n g h) ∙ cross (product n g) (product n h) (g n) (h n)
    where
      cross : (a b c d : F) → a ⊗ b ⊗ (c ⊗ d) ≡ a ⊗ c ⊗ (b ⊗ d)
      cross a b c d = simp (times-assoc, times-left-comm D)

  pub product-some : (n : ℕ) (g : ℕ → F) → ((k : ℕ) → k < n → ¬ (g k ≡ none)) → ¬ (product n g ≡ none)
  unfolding product
  product-some zero g h e = one-is-not e
  product-some (suc n) g h e = go (product-some n g (λ k l. h k (omega arith))) (no-divisors (product n g) (g n) e)
    where
      go : ¬ (product n g ≡ none) → (product n g ≡ none) ⊎ (g n ≡ none) → ⊥
      go w (inl q) = w q
      go w (inr q) = h n (omega arith) q

  -- ---- the order of the factors
  module _ (g : ℕ → F) (m : ℕ) (f : ℕ → ℕ) (small : (k : ℕ) → k < suc m → f k < suc m) (apart : Apart f (suc m)) where
    -- among the first j values m is not, or it is and then the last value stands for it
    abbrev Seen : ℕ → Type 0
    Seen j =
        (((k : ℕ) → k < j → ¬ (f k ≡ m)) × (product j (λ k. g (f k)) ≡ product j (λ k. g (moved f m k))))
        ⊎ (((k : ℕ) × (k < j) × (f k ≡ m)) × (product j (λ k. g (f k)) ⊗ g (f m) ≡ product j (λ k. g (moved f m k)) ⊗ g m))

    seen : (j : ℕ) → j ≤ m → Seen j
    unfolding product moved
    seen zero l = inl ((λ k h q. absurd (omega arith)), refl)
    seen (suc j) l = go (ℕ_discrete (f j) m) (seen j (omega arith))
      where
        go : (d : Dec (f j ≡ m)) → Seen j →
            (((k : ℕ) → k < suc j → ¬ (f k ≡ m)) × (product j (λ k. g (f k)) ⊗ g (f j) ≡ product j (λ k. g (moved f m k)) ⊗ g (instead d (f m) (f j))))
            ⊎ (((k : ℕ) × (k < suc j) × (f k ≡ m)) × (product j (λ k. g (f k)) ⊗ g (f j) ⊗ g (f m) ≡ product j (λ k. g (moved f m k)) ⊗ g (instead d (f m) (f j)) ⊗ g m))
        go (yes e) (inl h) =
            inr (
              (j, omega arith, e),
              ap₂ (λ (x y : F). x ⊗ y ⊗ g (f m)) h.1 (ap g e) ∙ swap (product j (λ k. g (moved f m k))) (g m) (g (f m)),
            )
        go (yes e) (inr h) = absurd (apart h.0.0 j h.0.1 (omega arith) (h.0.2 ∙ sym e))
        go (no n) (inl h) = inl (new, ap (λ (x : F). x ⊗ g (f j)) h.1)
          where
            new : (k : ℕ) → k < suc j → ¬ (f k ≡ m)
            new k s q = old (ℕ_discrete k j)
              where
                old : Dec (k ≡ j) → ⊥
                old (yes r) = n (sym (ap f r) ∙ q)
                old (no r) = h.0 k (omega arith) q
        go (no n) (inr h) =
            inr (
              (h.0.0, omega (arith, h.0.1), h.0.2),
              swap (product j (λ k. g (f k))) (g (f j)) (g (f m)) ∙ ap (λ (x : F). x ⊗ g (f j)) h.1 ∙ swap (product j (λ k. g (moved f m k))) (g m) (g (f j)),
            )

    last : product m (λ k. g (f k)) ⊗ g (f m) ≡ product m (λ k. g (moved f m k)) ⊗ g m
    last = go (ℕ_discrete (f m) m) (seen m (omega arith))
      where
        go : Dec (f m ≡ m) → Seen m → product m (λ k. g (f k)) ⊗ g (f m) ≡ product m (λ k. g (moved f m k)) ⊗ g m
        go d (inr h) = h.1
        go (yes e) (inl h) = ap₂ ◌⊗◌ h.1 (ap g e)
        go (no n) (inl h) = absurd (pigeon m f below apart)
          where
            below : (k : ℕ) → k < suc m → f k < m
            below k l = at (ℕ_discrete k m)
              where
                at : Dec (k ≡ m) → f k < m
                at (yes e) = less (f k) m (λ q. n (sym (ap f e) ∙ q)) (small k l)
                at (no r) = less (f k) m (h.0 k (omega arith)) (small k l)

    moved-small : (k : ℕ) → k < m → moved f m k < m
    unfolding moved
    moved-small k l = go (ℕ_discrete (f k) m)
      where
        go : (d : Dec (f k ≡ m)) → instead d (f m) (f k) < m
        go (yes e) = at (ℕ_discrete (f m) m)
          where
            at : Dec (f m ≡ m) → f m < m
            at (yes q) = absurd (apart k m l (omega arith) (e ∙ sym q))
            at (no q) = omega (arith, small m (omega arith))
        go (no n) = omega (arith, small k (omega arith))

    moved_apart : Apart (moved f m) m
    unfolding moved
    moved_apart i j l h = go (ℕ_discrete (f i) m) (ℕ_discrete (f j) m)
      where
        go : (c : Dec (f i ≡ m)) (d : Dec (f j ≡ m)) → instead c (f m) (f i) ≡ instead d (f m) (f j) → ⊥
        go (yes c) (yes d) e = apart i j l (omega arith) (c ∙ sym d)
        go (yes c) (no d) e = apart j m h (omega arith) (sym e)
        go (no c) (yes d) e = apart i m (omega arith) (omega arith) e
        go (no c) (no d) e = apart i j l (omega arith) e

  pub rearranged : (g : ℕ → F) (m : ℕ) (f : ℕ → ℕ) → ((k : ℕ) → k < m → f k < m) → Apart f m → product m (λ k. g (f k)) ≡ product m g
  unfolding product
  rearranged g zero f small apart = refl
  rearranged g (suc m) f small apart =
      last g m f small apart
      ∙ ap (λ (y : F). y ⊗ g m) (rearranged g m (moved f m) (moved-small g m f small apart) (moved_apart g m f small apart))

  -- ---- powers
  abbrev pub pow : F → ℕ → F
  pow x n = product n (λ k. x)

  pub pow-plus : (x : F) (m n : ℕ) → pow x (m + n) ≡ pow x m ⊗ pow x n
  unfolding product
  pow-plus x m zero = ap (pow x) (add-zero m) ∙ sym (times-one (pow x m))
  pow-plus x m (suc n) = ap (pow x) (add-suc m n) ∙ ap (λ (y : F). y ⊗ x) (pow-plus x m n) ∙ times-assoc (pow x m) (pow x n) x

  pub pow-times : (x : F) (m n : ℕ) → pow x (m * n) ≡ pow (pow x m) n
  unfolding product
  pow-times x m zero = ap (pow x) (mul-zero m)
  pow-times x m (suc n) = ap (pow x) (mul-suc m n) ∙ pow-plus x (m * n) m ∙ ap (λ (y : F). y ⊗ pow x m) (pow-times x m n)

  pub pow-one : (n : ℕ) → pow one n ≡ one
  unfolding product
  pow-one zero = refl
  pow-one (suc n) = times-one (pow one n) ∙ pow-one n
