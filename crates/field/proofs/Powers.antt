-- n + 1 numbers below n are not all different (`pigeon`), and for e from 1 to p - 1 the numbers e x, for x among the 2^32 powers of a
-- root of order 2^32, are different mod p (`differ`).
use mathlib.Core.Logic.{◌⊎◌, inl, inr, ⊎_elim}
use mathlib.Core.Path.{◌≡◌, refl, sym, ap, ◌∙◌, subst}
use Prim.Native.Nat.{ℕ, zero, suc, ◌+◌, ◌-◌, ◌*◌, ◌/◌, ◌%◌, ◌^◌, ◌<◌}
use native.Mathlib.Decide.{ℕ_discrete}
use native.Mathlib.Nat.{add-suc, add-zero, mul_comm, mul_assoc, one-mul, mul-one, mod-mod, div-add-mod', pow-suc, pow-zero, mul-mod_left}
use native.Mathlib.Omega.{arith}
use Rattle.lists.proofs.Then.{by_le}
use Rattle.field.specs.Field.{p}
use Rattle.field.proofs.Field.{mul-c, add-c}

-- ---- n + 1 numbers below n are not all different
abbrev pub Apart : (ℕ → ℕ) → ℕ → Type 0
Apart f n = (i j : ℕ) → i < j → j < n → f i ≡ f j → ⊥

-- f, with m replaced by the last number
abbrev instead : {A : Type 0} → Dec A → ℕ → ℕ → ℕ
instead (yes a) x y = x
instead (no n) x y = y

unfoldable moved : (ℕ → ℕ) → ℕ → ℕ → ℕ
moved f m k = instead (ℕ_discrete (f k) m) (f (suc m)) (f k)

pub pigeon : (m : ℕ) (f : ℕ → ℕ) → ((k : ℕ) → k < suc m → f k < m) → Apart f (suc m) → ⊥
unfolding moved
pigeon zero f small apart = absurd (omega (arith, small 0 (omega arith)))
pigeon (suc m) f small apart = pigeon m (moved f m) below differ
  where
    last-not : (k : ℕ) → k < suc m → f k ≡ f (suc m) → ⊥
    last-not k l e = apart k (suc m) l (omega arith) e

    below : (k : ℕ) → k < suc m → moved f m k < m
    below k l = go (ℕ_discrete (f k) m)
      where
        go : (d : Dec (f k ≡ m)) → instead d (f (suc m)) (f k) < m
        go (yes e) = by_le m (f (suc m)) (λ h. absurd (last-not k l (omega (arith, small (suc m) (omega arith))))) (λ h. h)
        go (no n) = by_le m (f k) (λ h. absurd (n (omega (arith, small k (omega arith))))) (λ h. h)

    differ : Apart (moved f m) (suc m)
    differ i j l h = go (ℕ_discrete (f i) m) (ℕ_discrete (f j) m)
      where
        go : (c : Dec (f i ≡ m)) (d : Dec (f j ≡ m)) → instead c (f (suc m)) (f i) ≡ instead d (f (suc m)) (f j) → ⊥
        go (yes c) (yes d) e = apart i j l (omega arith) (c ∙ sym d)
        go (yes c) (no d) e = last-not j h (sym e)
        go (no c) (yes d) e = last-not i (omega arith) e
        go (no c) (no d) e = apart i j l (omega arith) e

-- ---- congruence mod p
abbrev pub Same : ℕ → ℕ → Type 0
Same a b = a % p ≡ b % p

pub same : {a b : ℕ} → a ≡ b → Same a b
same e = ap (λ (x : ℕ). x % p) e

mul-c₂ : (a b c d : ℕ) → Same a b → Same c d → Same (a * c) (b * d)
mul-c₂ a b c d e f = mul-c a b c e ∙ same (mul_comm b c) ∙ mul-c c d b f ∙ same (mul_comm d b)

-- ---- powers
unfoldable pub power : ℕ → ℕ → ℕ
power x zero = 1
power x (suc n) = power x n * x

power-add : (x m n : ℕ) → power x (m + n) ≡ power x m * power x n
unfolding power
power-add x m zero = ap (power x) (add-zero m) ∙ sym (mul-one (power x m))
power-add x m (suc n) = ap (power x) (add-suc m n) ∙ ap (λ (y : ℕ). y * x) (power-add x m n) ∙ mul_assoc (power x m) (power x n) x

-- a power of the square is the square of the power
power-square : (x n : ℕ) → Same (power (x * x % p) n) (power x n * power x n)
unfolding power
power-square x zero = refl
power-square x (suc n) =
    mul-c₂ (power (x * x % p) n) (power x n * power x n) (x * x % p) (x * x) (power-square x n) (mod-mod (x * x) p)
    ∙ same (turn (power x n) x)
  where
    turn : (y x : ℕ) → y * y * (x * x) ≡ y * x * (y * x)
    turn y x = omega arith

power-one : (n : ℕ) → power 1 n ≡ 1
unfolding power
power-one zero = refl
power-one (suc n) = mul-one (power 1 n) ∙ power-one n

-- ---- a root of order 2^32: after 31 squarings it is - 1
abbrev pub ROOT : ℕ
ROOT = 1753635133440165772

abbrev INVERSE : ℕ
INVERSE = 8554224884056360729

unfoldable square : ℕ → ℕ
square zero = ROOT
square (suc k) = square k * square k % p

minus_one : square 31 ≡ p - 1
unfolding square
minus_one = refl

undo : (z : ℕ) → Same (z * ROOT * INVERSE) z
undo z = same (mul_assoc z ROOT INVERSE ∙ mul_comm z (ROOT * INVERSE)) ∙ mul-c (ROOT * INVERSE) 1 z refl ∙ same (one-mul z)

module _ (e : ℕ) where
  -- e is e times the power d of x
  abbrev Fixed : ℕ → ℕ → Type 0
  Fixed x d = Same e (e * power x d)

  -- powers that are the same for e, d apart
  cancel : (d i : ℕ) → Same (e * power ROOT i) (e * power ROOT (d + i)) → Fixed ROOT d
  unfolding power
  cancel d zero h = same (sym (mul-one e)) ∙ h ∙ same (ap (λ (k : ℕ). e * power ROOT k) (add-zero d))
  cancel d (suc i) h = cancel d i (sym (back i) ∙ mul-c (e * power ROOT (suc i)) (e * power ROOT (suc (d + i))) INVERSE (h ∙ same (ap (λ (k : ℕ). e * power ROOT k) (add-suc d i))) ∙ back (d + i))
    where
      back : (k : ℕ) → Same (e * power ROOT (suc k) * INVERSE) (e * power ROOT k)
      back k = same (ap (λ (y : ℕ). y * INVERSE) (sym (mul_assoc e (power ROOT k) ROOT))) ∙ undo (e * power ROOT k)

  -- then so it is with the square of x
  lift : (x d : ℕ) → Fixed x d → Fixed (x * x % p) d
  lift x d h =
      h ∙ mul-c e (e * power x d) (power x d) h ∙ same (mul_assoc e (power x d) (power x d) ∙ mul_comm e (power x d * power x d))
      ∙ mul-c (power x d * power x d) (power (x * x % p) d) e (sym (power-square x d)) ∙ same (mul_comm (power (x * x % p) d) e)

  lifts : (j d k : ℕ) → Fixed (square j) d → Fixed (square (j + k)) d
  unfolding square
  lifts j d zero h = subst (λ (i : ℕ). Fixed (square i) d) (sym (add-zero j)) h
  lifts j d (suc k) h = subst (λ (i : ℕ). Fixed (square i) d) (sym (add-suc j k)) (lift (square (j + k)) d (lifts j d k h))

  -- the square, half as often
  even : (x h : ℕ) → Fixed x (h + h) → Fixed (x * x % p) h
  even x h f =
      f ∙ same (ap (λ (y : ℕ). e * y) (power-add x h h) ∙ mul_comm e (power x h * power x h))
      ∙ mul-c (power x h * power x h) (power (x * x % p) h) e (sym (power-square x h)) ∙ same (mul_comm (power (x * x % p) h) e)

  -- an odd power of - 1
  odd : (h : ℕ) → Fixed (p - 1) (suc (h + h)) → (e + e) % p ≡ 0
  unfolding power
  odd h f =
      add-c e (e * (p - 1)) e (f ∙ same (sym (mul_assoc e (power (p - 1) (h + h)) (p - 1))) ∙ mul-c (e * power (p - 1) (h + h)) e (p - 1) one)
      ∙ same whole ∙ mul-mod_left e p
    where
      one : Same (e * power (p - 1) (h + h)) e
      one =
          same (ap (λ (y : ℕ). e * y) (power-add (p - 1) h h) ∙ mul_comm e (power (p - 1) h * power (p - 1) h))
          ∙ mul-c (power (p - 1) h * power (p - 1) h) 1 e (sym (power-square (p - 1) h) ∙ same (power-one h)) ∙ same (one-mul e)

      whole : e * (p - 1) + e ≡ e * p
      whole = omega arith

  order : (n j d : ℕ) → n + j ≡ 32 → 0 < d → d < 2 ^ n → Fixed (square j) d → (e + e) % p ≡ 0
  unfolding square
  order zero j d q z l f = absurd (omega (arith, pow-zero 2))
  order (suc n) j d q z l f =
      ⊎_elim
      (λ c. order n (suc j) (d / 2) (omega arith) (omega arith) (omega (arith, pow-suc 2 n)) (even (square j) (d / 2) (subst (Fixed (square j)) c f)))
      (λ c. odd (d / 2) (subst (λ (x : ℕ). Fixed x (suc (d / 2 + d / 2))) (ap square at ∙ minus_one) (lifts j (suc (d / 2 + d / 2)) n (subst (Fixed (square j)) c f))))
      (halves d)
    where
      at : j + n ≡ 31
      at = omega arith

      halves : (d : ℕ) → (d ≡ d / 2 + d / 2) ⊎ (d ≡ suc (d / 2 + d / 2))
      halves d = by_le (d % 2) 0 (λ h. inl (omega arith)) (λ h. inr (omega arith))

  -- where e is not 0 the 2^32 powers are different for it
  module _ (some : 0 < e) (small : e < p) where
    not-double : (e + e) % p ≡ 0 → ⊥
    not-double h =
        let m : (e + e) / p * p + (e + e) % p ≡ e + e = div-add-mod' (e + e) p in
        let q : (e + e) / p ≡ 1 = omega arith in
        let t : e + e ≡ p = omega arith in
        let o : (e + e) % 2 ≡ p % 2 = ap (λ (x : ℕ). x % 2) t in
        let v : (e + e) % 2 ≡ 0 = ap (λ (x : ℕ). x % 2) (twice e) ∙ mul-mod_left e 2 in
        omega arith
      where
        twice : (x : ℕ) → x + x ≡ x * 2
        twice x = omega arith

    less : (i j : ℕ) → i < j → j < 2 ^ 32 → Same (e * power ROOT i) (e * power ROOT j) → ⊥
    unfolding square
    less i j l h s = not-double (order 32 0 (j - i) refl (omega arith) (omega arith) (cancel (j - i) i (s ∙ same (ap (λ (k : ℕ). e * power ROOT k) apart))))
      where
        apart : j ≡ j - i + i
        apart = omega arith

    pub differ : (i j : ℕ) → (i ≡ j → ⊥) → i < 2 ^ 32 → j < 2 ^ 32 → Same (e * power ROOT i) (e * power ROOT j) → ⊥
    differ i j n hi hj s = by_le i j (λ l. less i j (omega arith) hj s) (λ l. less j i l hi (sym s))
