-- All elements of a field, listed.
use Rattle.std.specs.Prelude.{◌≡◌, List, [], ◌∷◌, ◌++◌, map, ◌⊎◌, ℕ, zero, suc}
use Rattle.challenge.specs.Domain.{Domain}

-- x is an element of a list
abbrev pub In : {A : Type 0} → A → List A → Type 0
In x [] = ⊥
In x (y ∷ ys) = (y ≡ x) ⊎ In x ys

-- all pairs, the first from one list and the second from another
unfoldable pub crossed : {A B : Type 0} → List A → List B → List (A × B)
crossed [] ys = []
crossed {A} {B} (x ∷ xs) ys = map (λ (y : B). (x, y)) ys ++ crossed xs ys

module _ {p : ℕ} (D : Domain p) where
  -- the numbers below n, the largest first; for n = p they are all of the words mod p
  unfoldable pub numbers : ℕ → List D.F
  numbers zero = []
  numbers (suc n) = D.number n ∷ numbers n

  -- all triples
  abbrev pub triple : D.F × (D.F × D.F) → D.F × D.F × D.F
  triple u = (u.0, u.1.0, u.1.1)

  abbrev pub triples : List (D.F × D.F × D.F)
  triples = map triple (crossed (numbers p) (crossed (numbers p) (numbers p)))
