-- The first failure, said without a search: what `first_at` and `first_in` find (proofs/Failure.antt).
use Rattle.std.specs.Prelude.{◌≡◌, Bool, true, false, ℕ, ◌<◌}

-- a test that is true exactly where something fails, and false exactly where it holds
pub record Separates (b : Bool) (Fails Holds : Type 0) : Type 0 where
  pub fails : b ≡ true → Fails
  pub holds : b ≡ false → Holds
  pub is_true : Fails → b ≡ true
  pub is_false : Holds → b ≡ false

-- k, below n, is the lowest index that fails: every lower index holds
pub record FirstAt (Fails Holds : ℕ → Type 0) (n k : ℕ) : Type 0 where
  pub there : k < n
  pub fails : Fails k
  pub lower : (j : ℕ) → j < k → Holds j

-- r, below n, is the lowest row with an index that fails, and i, below m, is the lowest such index of row r
pub record FirstIn (Fails Holds : ℕ → ℕ → Type 0) (m n r i : ℕ) : Type 0 where
  pub row-there : r < n
  pub index-there : i < m
  pub fails : Fails r i
  pub lower-row : (q j : ℕ) → q < r → j < m → Holds q j
  pub lower-index : (j : ℕ) → j < i → Holds r j
