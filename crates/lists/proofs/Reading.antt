-- What is read of a list of words: two lists whose first n words are the same, and a definition, by list and index, that
-- tells no two such lists apart.
use mathlib.Core.Path.{◌≡◌, sym, ap, ◌∙◌}
use mathlib.Core.Bool.{Bool, true, false}
use mathlib.Core.List.{List}
use Prim.Native.Nat.{ℕ, ◌+◌, ◌-◌, ◌≤◌, ◌<◌}
use native.Mathlib.Omega.{arith}
use native.Mathlib.Nat.{le_refl, le_of_lt}
use lib.ListN.{length, take}
use lib.Seq.{get_or-take, length-take-le, take_all}
use Rattle.lists.specs.Tab.{pick, followed_by, word}
use Rattle.lists.proofs.Then.{by_le, then-lt, then-past}

-- the first n words of the two are the same; what else each has, and how long it is, is open
abbrev pub Alike : ℕ → List ℕ → List ℕ → Type 0
Alike n row other = (k : ℕ) → k < n → word row k ≡ word other k

-- the entries of f below `count` read only the first n words
abbrev pub ReadsFirst : {A : Type 0} → ℕ → ℕ → (List ℕ → ℕ → A) → Type 0
ReadsFirst n count f = (row other : List ℕ) → Alike n row other → (i : ℕ) → i < count → f row i ≡ f other i

-- what tells no two lists apart that are alike and long enough tells no list from its first n words; a list that is shorter
-- is all of them
pub front_same : {A : Type 0} (f : List ℕ → A) (n : ℕ)
    → ((row other : List ℕ) → n ≤ length row → n ≤ length other → Alike n row other → f row ≡ f other)
    → (row : List ℕ) → f (take n row) ≡ f row
front_same f n e row =
    by_le (length row) n (λ l. ap f (take_all n row l))
    (λ l. let q : length (take n row) ≡ n = length-take-le n row (le_of_lt l) in
    e (take n row) row (rw q (le_refl n)) (le_of_lt l) (λ k h. get_or-take n row k 0 h))

-- a table of two parts is the same where each part is
pub then_same : {A : Type 0} (n m : ℕ) (f g f' g' : ℕ → A) → ((i : ℕ) → i < n → f i ≡ f' i) → ((i : ℕ) → i < m → g i ≡ g' i)
    → (i : ℕ) → i < n + m → followed_by n f g i ≡ followed_by n f' g' i
then_same n m f g f' g' e₁ e₂ i h =
    by_le n i (λ l. then-past n i f g l ∙ e₂ (i - n) (omega arith) ∙ sym (then-past n i f' g' l))
    (λ l. then-lt n i f g l ∙ e₁ i l ∙ sym (then-lt n i f' g' l))

-- one of two columns is below a bound where both are
pub pick-lt : (b : Bool) (k l n : ℕ) → k < n → l < n → pick b k l < n
pick-lt true k l n h j = h
pick-lt false k l n h j = j
