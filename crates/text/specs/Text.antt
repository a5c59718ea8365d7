-- Numbers and lines as bytes.
use Rattle.std.specs.Prelude.{ℕ, zero, suc, ◌+◌, ◌-◌, ◌*◌, ◌/◌, ◌%◌, ◌≡◌, List, [], ◌∷◌, ◌++◌, length, ltb}
use Rattle.std.proofs.lemmas.List.Edits.{sets}
use Rattle.lists.specs.Tab.{pick}

-- the decimal digits of n, where k of them are enough
unfoldable pub digits_of : ℕ → ℕ → List ℕ
digits_of zero n = []
digits_of (suc k) n = pick (ltb n 10) ((48 + n) ∷ []) (digits_of k (n / 10) ++ ((48 + n % 10) ∷ []))

-- a whole number in decimal, with no leading zeros: n + 1 digits are always enough
unfoldable pub decimal_of : ℕ → List ℕ
decimal_of n = digits_of (suc n) n

-- the number that digits make, behind those that make a
unfoldable pub read_on : ℕ → List ℕ → ℕ
read_on a [] = a
read_on a (d ∷ ds) = read_on (a * 10 + (d - 48)) ds

unfoldable pub number_in : List ℕ → ℕ
number_in ds = read_on 0 ds

-- a name, which ends in a space, and a number, on a line
unfoldable pub named_number : List ℕ → ℕ → List ℕ
named_number name n = name ++ decimal_of n ++ (10 ∷ [])

-- words, a single space between one and the next: after the first, each has a space before it
unfoldable pub spaced : List (List ℕ) → List ℕ
spaced [] = []
spaced (w ∷ ws) = 32 ∷ (w ++ spaced ws)

unfoldable pub joined : List (List ℕ) → List ℕ
joined [] = []
joined (w ∷ ws) = w ++ spaced ws

-- b is a with text s stored from `at` on, and r is where the text ends
pub record Puts (a : List ℕ) (at : ℕ) (s b : List ℕ) (r : ℕ) : Type 0 where
  pub ends : r ≡ at + length s
  pub is : b ≡ sets a at s
