-- The words below p are a domain that holds the numbers mod p: what is supposed of a field of challenges can be met.
use mathlib.Core.Logic.{◌⊎◌, inl, inr}
use mathlib.Core.HLevel.{Σ_prop_path}
use mathlib.Core.Path.{◌≡◌, refl, sym, ap, ap₂, ◌∙◌}
use Prim.Native.Nat.{ℕ, zero, suc, ◌+◌, ◌-◌, ◌*◌, ◌%◌, ◌≤◌, ◌<◌}
use native.Mathlib.Bridge.{le_prop}
use native.Mathlib.Nat.{mul_comm, mul_assoc, mul-add, mod-eq_of_lt, add-zero, mul-one, mod-add-mod, add-mod-mod}
use native.Mathlib.Decide.{ℕ_discrete}
use native.Mathlib.Omega.{arith}
use Rattle.field.specs.Field.{p, fadd, fmul}
use Rattle.field.proofs.Field.{mod-p, fmul-mod}
use Rattle.field.proofs.Sums.{fadd-comm, fadd-assoc}
use Rattle.challenge.specs.Domain.{Domain}
use Rattle.field.proofs.Prime.{no-divisors}

abbrev pub Word : Type 0
Word = (n : ℕ) × (n < p)

abbrev pub reduce : ℕ → Word
reduce n = (n % p, mod-p n)

pub alike : (a b : Word) → a.0 ≡ b.0 → a ≡ b
alike a b e = Σ_prop_path (λ (n : ℕ). le_prop {n = suc n} {m = p}) {u = a} {v = b} e

pub decide : (a b : Word) → Dec (a ≡ b)
decide a b = go (ℕ_discrete a.0 b.0)
  where
    go : Dec (a.0 ≡ b.0) → Dec (a ≡ b)
    go (yes e) = yes (alike a b e)
    go (no n) = no (λ q. n (ap (λ (w : Word). w.0) q))

-- ---- the laws, of numbers
modulo : {m n : ℕ} → m ≡ n → m % p ≡ n % p
modulo e = ap (λ (n : ℕ). n % p) e

pub sums : (m n : ℕ) → (m % p + n % p) % p ≡ (m + n) % p
sums m n = mod-add-mod m p (n % p) ∙ add-mod-mod m n p

right : (m n : ℕ) → m * (n % p) % p ≡ m * n % p
right m n = modulo (mul_comm m (n % p)) ∙ fmul-mod n m ∙ modulo (mul_comm n m)

pub undone : (n : ℕ) → n < p → (n + (p - n) % p) % p ≡ 0
undone n l = let e : n + (p - n) ≡ p = omega arith in add-mod-mod n (p - n) p ∙ modulo e

pub assoc : (a b c : ℕ) → a * b % p * c % p ≡ a * (b * c % p) % p
assoc a b c = fmul-mod (a * b) c ∙ modulo (mul_assoc a b c) ∙ sym (right a (b * c))

pub distributes : (a b c : ℕ) → a * ((b + c) % p) % p ≡ (a * b % p + a * c % p) % p
distributes a b c = right a (b + c) ∙ modulo (mul-add a b c) ∙ sym (sums (a * b) (a * c))

pub divisors : (a b : Word) → reduce (a.0 * b.0) ≡ reduce 0 → (a ≡ reduce 0) ⊎ (b ≡ reduce 0)
divisors a b e = go (no-divisors a.0 b.0 a.1 b.1 (ap (λ (w : Word). w.0) e))
  where
    go : (a.0 ≡ 0) ⊎ (b.0 ≡ 0) → (a ≡ reduce 0) ⊎ (b ≡ reduce 0)
    go (inl q) = inl (alike a (reduce 0) q)
    go (inr q) = inr (alike b (reduce 0) q)

pub differ : reduce 1 ≡ reduce 0 → ⊥
differ e = let q : ◌≡◌ {A = ℕ} 1 0 = ap (λ (w : Word). w.0) e in omega arith

unfoldable pub words : Domain p
words = record {
  F = Word;
  same = decide;
  plus = λ a b. reduce (a.0 + b.0);
  times = λ a b. reduce (a.0 * b.0);
  negative = λ a. reduce (p - a.0);
  none = reduce 0;
  one = reduce 1;
  plus_assoc = λ a b c. alike _ _ (fadd-assoc a.0 b.0 c.0);
  plus_comm = λ a b. alike _ _ (fadd-comm a.0 b.0);
  plus_none = λ a. alike _ _ (ap (λ (n : ℕ). n % p) (add-zero a.0) ∙ mod-eq_of_lt a.1);
  plus-negative = λ a. alike _ _ (undone a.0 a.1);
  times-assoc = λ a b c. alike _ _ (assoc a.0 b.0 c.0);
  times-comm = λ a b. alike _ _ (ap (λ (n : ℕ). n % p) (mul_comm a.0 b.0));
  times-one = λ a. alike _ _ (ap (λ (n : ℕ). n % p) (mul-one a.0) ∙ mod-eq_of_lt a.1);
  times-plus = λ a b c. alike _ _ (distributes a.0 b.0 c.0);
  one-is-not = differ;
  no-divisors = divisors;
  number = reduce;
  number-plus = λ m n. alike _ _ (sym (sums m n));
  number-once = λ m n e. ap (λ (w : Word). w.0) e;
}

-- and p itself is 0 there
pub words-wrap : words.number p ≡ words.none
unfolding words
words-wrap = alike (reduce p) (reduce 0) refl
