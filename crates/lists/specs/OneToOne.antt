-- A one-to-one matching of numbers, given as a function with its inverse.
-- proofs/OneToOne.antt: of two runs of elements, those whose index passes a test, the indices can be so matched that elements are
-- equal exactly where every element stands equally often in both (`equally-matched`, `matched-equally`).
use Rattle.std.specs.Prelude.{◌≡◌, ℕ}

-- between the numbers of which P is so and those of which Q is so, with R of each and its partner
pub record OneToOne (P Q : ℕ → Type 0) (R : ℕ → ℕ → Type 0) : Type 0 where
  pub to : ℕ → ℕ
  pub from : ℕ → ℕ
  pub to_in : (r : ℕ) → P r → Q (to r)
  pub from_in : (q : ℕ) → Q q → P (from q)
  pub from-to : (r : ℕ) → P r → from (to r) ≡ r
  pub to-from : (q : ℕ) → Q q → to (from q) ≡ q
  pub alike : (r : ℕ) → P r → R r (to r)
