-- The field of p^3 elements, w³ = 2, and the list of its elements; and one of p^2 elements, w² = 7.
use mathlib.Core.Path.{◌≡◌, refl, sym, ap, ap₂, ◌∙◌, subst}
use mathlib.Core.List.{List}
use mathlib.Core.Logic.{◌⊎◌, inl, inr}
use Prim.Native.Nat.{ℕ, zero, suc, ◌*◌, ◌%◌, ◌≤◌, ◌<◌}
use native.Mathlib.Decide.{ℕ_discrete}
use native.Mathlib.Nat.{mod-eq_of_lt}
use native.Mathlib.Omega.{arith}
use lib.ListN.{length}
use Rattle.field.specs.Field.{p}
use Rattle.challenge.specs.Domain.{Domain}
use Rattle.challenge.specs.Check.{All, Distinct}
use Rattle.challenge.proofs.Words.{Word, reduce, alike, words, words-wrap}
use Rattle.challenge.proofs.Collisions.{map-length}
use Rattle.challenge_field.specs.Elements.{In, crossed, numbers, triple, triples}
use Rattle.challenge_field.proofs.Cubic.{cubic, w, w-cubed, spans}
use Rattle.challenge_field.proofs.Quadratic as square
use Rattle.challenge_field.proofs.Quadratic.{quadratic}
use Rattle.challenge_field.proofs.Square.{seven, no-square}
use Rattle.challenge_field.proofs.Elements.{distinct-map, in_map, crossed-length, crossed-distinct, crossed-all}
use Rattle.challenge_field.proofs.Fermat.{two, no-cube}

-- ---- the words below p
module _ {p : ℕ} (D : Domain p) where
  numbers-length : (n : ℕ) → length (numbers D n) ≡ n
  unfolding numbers
  numbers-length zero = refl
  numbers-length (suc n) = ap suc (numbers-length n)

  numbers-less : (n m : ℕ) → n ≤ m → m < p → All (λ y. ¬ (y ≡ D.number m)) (numbers D n)
  unfolding numbers
  numbers-less zero m l h = tt
  numbers-less (suc n) m l h =
      ((λ e. let q : n % p ≡ m % p = D.number-once n m e in apart (sym (mod-eq_of_lt (omega arith)) ∙ q ∙ mod-eq_of_lt h)), numbers-less n m (omega arith) h)
    where
      apart : n ≡ m → ⊥
      apart e = omega arith

  numbers-distinct : (n : ℕ) → n ≤ p → Distinct (numbers D n)
  unfolding numbers
  numbers-distinct zero l = tt
  numbers-distinct (suc n) l = (numbers-less n n (omega arith) l, numbers-distinct n (omega arith))

  numbers-all : (n m : ℕ) → m < n → In (D.number m) (numbers D n)
  unfolding numbers
  numbers-all zero m l = absurd (omega arith)
  numbers-all (suc n) m l = go (ℕ_discrete n m) (numbers-all n m)
    where
      go : Dec (n ≡ m) → (m < n → In (D.number m) (numbers D n)) → (D.number n ≡ D.number m) ⊎ In (D.number m) (numbers D n)
      go (yes e) k = inl (ap D.number e)
      go (no d) k = inr (k (omega arith))

word-is : (v : Word) → v ≡ reduce v.0
word-is v = sym (alike (reduce v.0) v (mod-eq_of_lt v.1))

every-word : (w : words.F) → In w (numbers words p)
unfolding words
every-word w = subst (λ (v : words.F). In v (numbers words p)) (sym (word-is w)) (numbers-all words p w.0 w.1)

-- ---- the field
pub cubic-words : Domain p
cubic-words = cubic words two no-cube

pub cubic-wrap : cubic-words.number p ≡ cubic-words.none
unfolding cubic-words cubic
cubic-wrap = λ i. (words-wrap i, words.none, words.none)

-- it has a w, w³ = 2, and every element is a + b w + c w² for numbers a, b, c below p
pub cubic-root : cubic-words.F
unfolding cubic-words cubic
cubic-root = w words two no-cube

pub cubic-root-is : cubic-words.times (cubic-words.times cubic-root cubic-root) cubic-root ≡ cubic-words.number 2
unfolding cubic-root cubic-words cubic
cubic-root-is = w-cubed words two no-cube

pub cubic-spans : (u : cubic-words.F) → (a : ℕ) × (b : ℕ) × (c : ℕ) × (a < p) × (b < p) × (c < p)
    × (u ≡ cubic-words.plus (cubic-words.plus (cubic-words.number a) (cubic-words.times (cubic-words.number b) cubic-root))
    (cubic-words.times (cubic-words.number c) (cubic-words.times cubic-root cubic-root)))
unfolding cubic-root cubic-words cubic words
cubic-spans u = (
  u.0.0,
  u.1.0,
  u.2.0,
  u.0.1,
  u.1.1,
  u.2.1,
  (λ i. (word-is u.0 i, word-is u.1 i, word-is u.2 i))
      ∙ spans words two no-cube (reduce u.0.0, reduce u.1.0, reduce u.2.0),
)

pub elements : List cubic-words.F
unfolding cubic-words cubic
elements = triples words

-- pairs of a word and a pair of words
abbrev nested : List (words.F × (words.F × words.F))
nested = crossed (numbers words p) (crossed (numbers words p) (numbers words p))

pub elements-distinct : Distinct elements
unfolding elements cubic-words cubic
elements-distinct =
    let d : Distinct (numbers words p) = numbers-distinct words p (omega arith) in
    distinct-map (triple words) (λ u v q i. ((q i).0, ((q i).1, (q i).2))) nested
    (crossed-distinct (numbers words p) (crossed (numbers words p) (numbers words p)) d (crossed-distinct (numbers words p) (numbers words p) d d))

pub elements-length : length elements ≡ p * p * p
unfolding elements cubic-words cubic
elements-length =
    map-length (triple words) nested
    ∙ crossed-length (numbers words p) (crossed (numbers words p) (numbers words p))
    ∙ ap₂ ◌*◌ (numbers-length words p) (crossed-length (numbers words p) (numbers words p) ∙ ap₂ ◌*◌ (numbers-length words p) (numbers-length words p))

pub elements-all : (u : cubic-words.F) → In u elements
unfolding elements cubic-words cubic
elements-all u =
    in_map (triple words) (u.0, (u.1, u.2)) nested
    (crossed-all (numbers words p) (crossed (numbers words p) (numbers words p)) u.0 (u.1, u.2) (every-word u.0)
    (crossed-all (numbers words p) (numbers words p) u.1 u.2 (every-word u.1) (every-word u.2)))

-- ---- and one of p^2 elements, w² = 7
pub quadratic-words : Domain p
quadratic-words = quadratic words seven no-square

pub quadratic-wrap : quadratic-words.number p ≡ quadratic-words.none
unfolding quadratic-words quadratic
quadratic-wrap = λ i. (words-wrap i, words.none)

pub quadratic-root : quadratic-words.F
unfolding quadratic-words quadratic
quadratic-root = square.w words seven no-square

pub quadratic-root-is : quadratic-words.times quadratic-root quadratic-root ≡ quadratic-words.number 7
unfolding quadratic-root quadratic-words quadratic
quadratic-root-is = square.w-squared words seven no-square

pub quadratic-spans : (u : quadratic-words.F) → (a : ℕ) × (b : ℕ) × (a < p) × (b < p)
    × (u ≡ quadratic-words.plus (quadratic-words.number a) (quadratic-words.times (quadratic-words.number b) quadratic-root))
unfolding quadratic-root quadratic-words quadratic words
quadratic-spans u = (
  u.0.0,
  u.1.0,
  u.0.1,
  u.1.1,
  (λ i. (word-is u.0 i, word-is u.1 i)) ∙ square.spans words seven no-square (reduce u.0.0, reduce u.1.0),
)

pub pairs : List quadratic-words.F
unfolding quadratic-words quadratic
pairs = crossed (numbers words p) (numbers words p)

pub pairs-distinct : Distinct pairs
unfolding pairs quadratic-words quadratic
pairs-distinct =
    let d : Distinct (numbers words p) = numbers-distinct words p (omega arith) in crossed-distinct (numbers words p) (numbers words p) d d

pub pairs-length : length pairs ≡ p * p
unfolding pairs quadratic-words quadratic
pairs-length = crossed-length (numbers words p) (numbers words p) ∙ ap₂ ◌*◌ (numbers-length words p) (numbers-length words p)

pub pairs-all : (u : quadratic-words.F) → In u pairs
unfolding pairs quadratic-words quadratic
pairs-all u = crossed-all (numbers words p) (numbers words p) u.0 u.1 (every-word u.0) (every-word u.1)
