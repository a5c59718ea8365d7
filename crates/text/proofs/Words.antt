-- Words joined by single spaces: they are read back from the text, so a text tells its words; one word more; and how
-- long a text is.
use Prim.Native.Nat.{ℕ, zero, suc, ◌+◌, ◌*◌, ◌/◌, ◌%◌, ◌≤◌, ◌<◌}
use mathlib.Core.Path.{◌≡◌, refl, sym, ap, ◌∙◌}
use mathlib.Core.Bool.{Bool, true, false, not, ◌&&◌}
use mathlib.Core.List.{List, [], ◌∷◌, ◌++◌, append_assoc, append-nil, map}
use native.Mathlib.Nat.{not-suc-le-zero, le_of_suc-le-suc}
use native.Mathlib.Omega.{arith}
use lib.Dec.{eqb}
use lib.ListN.{length, take, get_or, length-append}
use borrow.Author.Tests.{lt-ltb, le-ltb, ne_eqb}
use Rattle.lists.specs.Tab.{pick}
use Rattle.lists.proofs.Then.{by_le}
use Rattle.text.specs.Text.{digits_of, decimal_of, spaced, joined, Puts}
use Rattle.text.proofs.Numbers.{decimal-long}
use Rattle.text.proofs.Laws.{puts-as, puts_then}

-- ---- one word after the others
pub spaced-append : (ws vs : List (List ℕ)) → spaced (ws ++ vs) ≡ spaced ws ++ spaced vs
unfolding spaced
spaced-append [] vs = refl
spaced-append (w ∷ ws) vs =
    ap (λ (t : List ℕ). 32 ∷ (w ++ t)) (spaced-append ws vs)
    ∙ ap (λ (t : List ℕ). 32 ∷ t) (sym (append_assoc w (spaced ws) (spaced vs)))

pub joined-append : (w : List ℕ) (ws vs : List (List ℕ)) → joined ((w ∷ ws) ++ vs) ≡ joined (w ∷ ws) ++ spaced vs
unfolding joined
joined-append w ws vs = ap (λ (t : List ℕ). w ++ t) (spaced-append ws vs) ∙ sym (append_assoc w (spaced ws) (spaced vs))

-- one word alone
pub spaced-one : (w : List ℕ) → 32 ∷ w ≡ spaced (w ∷ [])
unfolding spaced
spaced-one w = ap (λ (t : List ℕ). 32 ∷ t) (sym (append-nil w))

pub joined-one : (w : List ℕ) → w ≡ joined (w ∷ [])
unfolding joined spaced
joined-one w = sym (append-nil w)

-- a text with words put behind it
module _ {a b d : List ℕ} {at r q : ℕ} where
  pub puts-spaced : (ws vs : List (List ℕ)) → Puts a at (spaced ws) b r → Puts b r (spaced vs) d q → Puts a at (spaced (ws ++ vs)) d q
  puts-spaced ws vs x y = puts-as (puts_then x y) (sym (spaced-append ws vs))

  pub puts-joined : (w : List ℕ) (ws vs : List (List ℕ)) → Puts a at (joined (w ∷ ws)) b r → Puts b r (spaced vs) d q → Puts a at (joined ((w ∷ ws) ++ vs)) d q
  puts-joined w ws vs x y = puts-as (puts_then x y) (sym (joined-append w ws vs))

-- one number more
pub decimals-more : (ns : List ℕ) (i : ℕ) → i < length ns → map decimal_of (take i ns) ++ (decimal_of (get_or ns i 0) ∷ []) ≡ map decimal_of (take (suc i) ns)
decimals-more [] i h = absurd (not-suc-le-zero h)
decimals-more (n ∷ ns) zero h = refl
decimals-more (n ∷ ns) (suc i) h = ap (λ (ws : List (List ℕ)). decimal_of n ∷ ws) (decimals-more ns i (le_of_suc-le-suc h))

-- ---- a word has no space in it
unfoldable pub no_space : List ℕ → Bool
no_space [] = true
no_space (c ∷ cs) = not (eqb c 32) && no_space cs

no-space-append : (s t : List ℕ) → no_space s ≡ true → no_space t ≡ true → no_space (s ++ t) ≡ true
unfolding no_space
no-space-append [] t h g = g
no-space-append (c ∷ s) t h g = go (not (eqb c 32)) h (λ e. no-space-append s t e g)
  where
    go : (b : Bool) → (b && no_space s) ≡ true → (no_space s ≡ true → no_space (s ++ t) ≡ true) → (b && no_space (s ++ t)) ≡ true
    go true e f = f e
    go false e f = e

digit-no-space : (x : ℕ) → no_space ((48 + x) ∷ []) ≡ true
unfolding no_space
digit-no-space x = rw (ne_eqb (48 + x) 32 (λ e. omega (arith, e)))

digits-no-space : (k n : ℕ) → no_space (digits_of k n) ≡ true
unfolding digits_of no_space
digits-no-space zero n = refl
digits-no-space (suc k) n =
    by_le 10 n
    (λ l. simp (le-ltb n 10 l) (no-space-append (digits_of k (n / 10)) ((48 + n % 10) ∷ []) (digits-no-space k (n / 10)) (digit-no-space (n % 10))))
    (λ l. simp (lt-ltb n 10 l) (digit-no-space n))

pub decimal-no-space : (n : ℕ) → no_space (decimal_of n) ≡ true
unfolding decimal_of
decimal-no-space n = digits-no-space (suc n) n

-- each of them
abbrev pub NoSpaces : List (List ℕ) → Type 0
NoSpaces [] = Unit {0}
NoSpaces (w ∷ ws) = (no_space w ≡ true) × NoSpaces ws

pub no-spaces-append : (ws vs : List (List ℕ)) → NoSpaces ws → NoSpaces vs → NoSpaces (ws ++ vs)
no-spaces-append [] vs h g = g
no-spaces-append (w ∷ ws) vs h g = (h.0, no-spaces-append ws vs h.1 g)

pub decimals-no-space : (ns : List ℕ) → NoSpaces (map decimal_of ns)
decimals-no-space [] = tt
decimals-no-space (n ∷ ns) = (decimal-no-space n, decimals-no-space ns)

-- ---- read back: what stands before the first space, and the words after it
first_word : List ℕ → List ℕ
first_word [] = []
first_word (c ∷ cs) = pick (eqb c 32) [] (c ∷ first_word cs)

later_words : List ℕ → List (List ℕ)
later_words [] = []
later_words (c ∷ cs) = pick (eqb c 32) (first_word cs ∷ later_words cs) (later_words cs)

pub words_in : List ℕ → List (List ℕ)
words_in s = first_word s ∷ later_words s

first_back : (w : List ℕ) (ws : List (List ℕ)) → no_space w ≡ true → first_word (w ++ spaced ws) ≡ w
unfolding first_word no_space spaced
first_back [] [] h = refl
first_back [] (v ∷ vs) h = refl
first_back (c ∷ cs) ws h = go (eqb c 32) h (first_back cs ws)
  where
    go : (b : Bool) → (not b && no_space cs) ≡ true → (no_space cs ≡ true → first_word (cs ++ spaced ws) ≡ cs) →
        pick b [] (c ∷ first_word (cs ++ spaced ws)) ≡ c ∷ cs
    go true e f = cc
    go false e f = ap (λ (t : List ℕ). c ∷ t) (f e)

later-after : (w s : List ℕ) → no_space w ≡ true → later_words (w ++ s) ≡ later_words s
unfolding later_words no_space
later-after [] s h = refl
later-after (c ∷ cs) s h = go (eqb c 32) h (later-after cs s)
  where
    go : (b : Bool) → (not b && no_space cs) ≡ true → (no_space cs ≡ true → later_words (cs ++ s) ≡ later_words s) →
        pick b (first_word (cs ++ s) ∷ later_words (cs ++ s)) (later_words (cs ++ s)) ≡ later_words s
    go true e f = cc
    go false e f = f e

later-back : (ws : List (List ℕ)) → NoSpaces ws → later_words (spaced ws) ≡ ws
unfolding later_words spaced
later-back [] h = refl
later-back (w ∷ ws) h =
    let a : first_word (w ++ spaced ws) ≡ w = first_back w ws h.0 in
    let b : later_words (w ++ spaced ws) ≡ ws = later-after w (spaced ws) h.0 ∙ later-back ws h.1 in
    λ t. a t ∷ b t

pub words_back : (w : List ℕ) (ws : List (List ℕ)) → NoSpaces (w ∷ ws) → words_in (joined (w ∷ ws)) ≡ w ∷ ws
unfolding words_in joined
words_back w ws h =
    let a : first_word (w ++ spaced ws) ≡ w = first_back w ws h.0 in
    let b : later_words (w ++ spaced ws) ≡ ws = later-after w (spaced ws) h.0 ∙ later-back ws h.1 in
    λ t. a t ∷ b t

-- ---- how long
pub spaced-long : (w : List ℕ) (ws : List (List ℕ)) → length (spaced (w ∷ ws)) ≡ 1 + length w + length (spaced ws)
unfolding spaced
spaced-long w ws = omega (arith, length-append w (spaced ws))

pub joined-long : (w : List ℕ) (ws : List (List ℕ)) → length (joined (w ∷ ws)) ≡ length w + length (spaced ws)
unfolding joined
joined-long w ws = length-append w (spaced ws)

-- numbers below 2^64, each with a space before it
abbrev pub Short : List ℕ → Type 0
Short [] = Unit {0}
Short (n ∷ ns) = (n < 18446744073709551616) × Short ns

pub decimals-long : (ns : List ℕ) → Short ns → length (spaced (map decimal_of ns)) ≤ length ns * 21
unfolding spaced
decimals-long [] h = omega arith
decimals-long (n ∷ ns) h =
    omega (arith, spaced-long (decimal_of n) (map decimal_of ns), decimal-long n h.0, decimals-long ns h.1)
