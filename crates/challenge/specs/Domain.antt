-- What is used of the field from which a prover draws its challenges: a commutative ring without zero divisors in which equality is
-- decided, and which holds the numbers mod p. Every field of p^k elements is one; `number n` is then 1 + 1 + .. + 1, n times.
use Rattle.std.specs.Prelude.{◌≡◌, ◌⊎◌, ℕ, ◌+◌, ◌%◌}

pub record Domain (p : ℕ) : Type 1 where
  pub F : Type 0
  pub same : (a b : F) → Dec (a ≡ b)
  pub plus : F → F → F
  pub times : F → F → F
  pub negative : F → F
  pub none : F
  pub one : F
  pub plus_assoc : (a b c : F) → plus (plus a b) c ≡ plus a (plus b c)
  pub plus_comm : (a b : F) → plus a b ≡ plus b a
  pub plus_none : (a : F) → plus a none ≡ a
  pub plus-negative : (a : F) → plus a (negative a) ≡ none
  pub times-assoc : (a b c : F) → times (times a b) c ≡ times a (times b c)
  pub times-comm : (a b : F) → times a b ≡ times b a
  pub times-one : (a : F) → times a one ≡ a
  pub times-plus : (a b c : F) → times a (plus b c) ≡ plus (times a b) (times a c)
  pub one-is-not : ¬ (one ≡ none)
  pub no-divisors : (a b : F) → times a b ≡ none → (a ≡ none) ⊎ (b ≡ none)
  -- the numbers mod p
  pub number : ℕ → F
  pub number-plus : (m n : ℕ) → number (m + n) ≡ plus (number m) (number n)
  pub number-once : (m n : ℕ) → number m ≡ number n → m % p ≡ n % p
