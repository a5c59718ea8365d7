-- What a prover adds up: for each tuple of each row a fraction, its multiplicity over z less the tuple's fingerprint, at challenges α
-- and z, where what is received counts negatively. The whole must be 0.
--     Entry            a tuple as a prover sees it: side, multiplicity, and words, the first of which is the bus
--     fingerprint      w0 + α·w1 + α²·w2 + ..
--     numerator        the sum of the fractions, with the denominators multiplied out
--     Sum              the same as a prover's columns have it: a sum of quotients, of one fraction or of several each
--     passing          how many pairs of challenges pass
--     total            how often given words are sent, or received
--     TotalsAgree      mod p as often sent as received, whatever the words
--     Fits             what is asked of the words of an entry
-- proofs/Bound.antt: where the totals of some words differ mod p, few pairs pass (`few-pass`).
use Rattle.std.specs.Prelude.{◌≡◌, Bool, true, false, ◌&&◌, List, [], ◌∷◌, ◌++◌, map, ℕ, suc, ◌+◌, ◌%◌, ◌≤◌, ◌<◌, length}
use Rattle.lists.specs.Tab.{pick, word}
use Rattle.lists.specs.Select.{selected, words_test}
use Rattle.tuple.specs.Tuple.{same_side}
use Rattle.tuple.specs.declared.Side.{Side}
use Rattle.tuple.specs.declared.Side.TheVariants.{Sender, Receiver}
use Rattle.challenge.specs.Domain.{Domain}

pub record Entry : Type 0 where
  pub side : Side
  pub multiplicity : ℕ
  pub words : List ℕ

module _ {A : Type 0} where
  -- every element is so; no element occurs twice; lists one behind the other
  abbrev pub All : (A → Type 0) → List A → Type 0
  All P [] = Unit {0}
  All P (x ∷ xs) = P x × All P xs

  abbrev pub Distinct : List A → Type 0
  Distinct [] = Unit {0}
  Distinct (x ∷ xs) = All (λ y. ¬ (y ≡ x)) xs × Distinct xs

  unfoldable pub joined : List (List A) → List A
  joined [] = []
  joined (xs ∷ xss) = xs ++ joined xss

abbrev pub decided : {X : Type 0} → Dec X → Bool
decided (yes x) = true
decided (no x) = false

module _ {p : ℕ} (D : Domain p) where
  infixl 65 ◌⊕◌
  infixl 65 ◌⊖◌
  infixl 70 ◌⊗◌
  open D use {F, plus as ◌⊕◌, times as ◌⊗◌, negative, none, one, number, same}

  abbrev pub ◌⊖◌ : F → F → F
  a ⊖ b = a ⊕ negative b

  -- c0 + c1·x + c2·x² + ..
  unfoldable pub eval : List F → F → F
  eval [] x = none
  eval (c ∷ cs) x = c ⊕ x ⊗ eval cs x

  unfoldable pub fingerprint : F → List ℕ → F
  fingerprint α ws = eval (map number ws) α

  -- ---- fractions, above / (z − below)
  pub record Fraction : Type 0 where
    pub above : F
    pub below : F

  abbrev pub signed : Side → F → F
  signed Sender m = m
  signed Receiver m = negative m

  abbrev pub fraction : F → Entry → Fraction
  fraction α e = record { above = signed e.side (number e.multiplicity); below = fingerprint α e.words }

  -- the product of the denominators, and the sum times that product
  unfoldable pub denominator : F → List Fraction → F
  denominator z [] = one
  denominator z (f ∷ fs) = (z ⊖ f.below) ⊗ denominator z fs

  unfoldable pub numerator : F → List Fraction → F
  numerator z [] = none
  numerator z (f ∷ fs) = f.above ⊗ denominator z fs ⊕ (z ⊖ f.below) ⊗ numerator z fs

  -- s is the sum of quotients, as a prover writes them into its columns: one for each group of fractions, be it one, two or a whole row
  abbrev pub Sum : F → List (List Fraction) → F → Type 0
  Sum z [] s = s ≡ none
  Sum z (g ∷ gs) s = (q : F) × (r : F) × (q ⊗ denominator z g ≡ numerator z g) × Sum z gs r × (s ≡ q ⊕ r)

  -- ---- the check at challenges α and z, and how many pairs of challenges, α from A and z from Z, pass
  unfoldable pub passes : List Entry → F → F → Bool
  passes es α z = decided (same (numerator z (map (fraction α) es)) none)

  unfoldable pub passing : List Entry → List F → List F → ℕ
  passing es [] Z = 0
  passing es (α ∷ A) Z = length (selected (passes es α) Z) + passing es A Z

-- ---- the sums for given words
unfoldable pub entry_share : Side → List ℕ → Entry → ℕ
entry_share s ws e = pick (same_side s e.side && words_test ws e.words) e.multiplicity 0

unfoldable pub total : Side → List ℕ → List Entry → ℕ
total s ws [] = 0
total s ws (e ∷ es) = entry_share s ws e + total s ws es

abbrev pub TotalsAgree : ℕ → List Entry → Type 0
TotalsAgree p es = (ws : List ℕ) → total Sender ws es % p ≡ total Receiver ws es % p

-- The bus, and as many values as that bus has, at most K; all are words below p. (A fingerprint sees neither zeros at the end nor
-- multiples of p.)
pub record Fits (p : ℕ) (width : ℕ → ℕ) (K : ℕ) (ws : List ℕ) : Type 0 where
  pub as_many : length ws ≡ suc (width (word ws 0))
  pub few : length ws ≤ suc K
  pub below : All (λ w. w < p) ws

abbrev pub AllFit : ℕ → (ℕ → ℕ) → ℕ → List Entry → Type 0
AllFit p width K es = All (λ e. Fits p width K e.words) es
