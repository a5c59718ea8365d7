-- Decimals: how many digits are enough, how long a decimal is, that no zero leads, and the number that it is read back as.
use Prim.Native.Nat.{ℕ, zero, suc, ◌+◌, ◌-◌, ◌*◌, ◌/◌, ◌%◌, ◌^◌, ◌<◌, ◌≤◌}
use mathlib.Core.Path.{◌≡◌, refl, sym, ap, ◌∙◌}
use mathlib.Core.List.{List, [], ◌∷◌, ◌++◌}
use native.Mathlib.Nat.{pow-suc}
use native.Mathlib.Numerals.{add-one}
use native.Mathlib.Omega.{arith}
use lib.ListN.{length, length-append}
use borrow.Author.Tests.{lt-ltb, le-ltb}
use Rattle.lists.specs.Tab.{word}
use Rattle.lists.proofs.Then.{by_le}
use Rattle.text.specs.Text.{digits_of, decimal_of, read_on, number_in}

-- ---- one digit, and one more
pub digits-one : (k n : ℕ) → n < 10 → digits_of (suc k) n ≡ (48 + n) ∷ []
unfolding digits_of
digits-one k n h = simp (lt-ltb n 10 h)

pub digits-next : (k n : ℕ) → 10 ≤ n → digits_of (suc k) n ≡ digits_of k (n / 10) ++ ((48 + n % 10) ∷ [])
unfolding digits_of
digits-next k n h = simp (le-ltb n 10 h)

tens : (k : ℕ) → 10 ^ (suc k + 1) ≡ 10 ^ (k + 1) * 10
tens k = ap (λ (j : ℕ). 10 ^ j) (add-one (suc k)) ∙ pow-suc 10 (suc k) ∙ ap (λ (j : ℕ). 10 ^ j * 10) (sym (add-one k))

tenth : (k n : ℕ) → n < 10 ^ (suc k + 1) → n / 10 < 10 ^ (k + 1)
tenth k n h = omega (arith, tens k)

-- ---- where k + 1 digits are enough, and where m + 1 are, they are the same
digits_same : (k m n : ℕ) → n < 10 ^ (k + 1) → n < 10 ^ (m + 1) → digits_of (suc k) n ≡ digits_of (suc m) n
digits_same zero zero n h g = refl
digits_same zero (suc m) n h g = digits-one zero n (omega arith) ∙ sym (digits-one (suc m) n (omega arith))
digits_same (suc k) zero n h g = digits-one (suc k) n (omega arith) ∙ sym (digits-one zero n (omega arith))
digits_same (suc k) (suc m) n h g =
    by_le 10 n
    (λ l.
    digits-next (suc k) n l
    ∙ ap (λ (t : List ℕ). t ++ ((48 + n % 10) ∷ [])) (digits_same k m (n / 10) (tenth k n h) (tenth m n g))
    ∙ sym (digits-next (suc m) n l))
    (λ l. digits-one (suc k) n l ∙ sym (digits-one (suc m) n l))

below-tens : (n : ℕ) → n < 10 ^ (n + 1)
below-tens zero = omega arith
below-tens (suc n) = omega (arith, below-tens n, tens n)

pub decimal-digits : (k n : ℕ) → n < 10 ^ (k + 1) → decimal_of n ≡ digits_of (suc k) n
unfolding decimal_of
decimal-digits k n h = digits_same n k n (below-tens n) h

-- ---- how long
digits_long : (k n : ℕ) → length (digits_of k n) ≤ k
unfolding digits_of
digits_long zero n = omega arith
digits_long (suc k) n =
    by_le 10 n
    (λ l. omega (arith, ap length (digits-next k n l), length-append (digits_of k (n / 10)) ((48 + n % 10) ∷ []), digits_long k (n / 10)))
    (λ l. omega (arith, ap length (digits-one k n l)))

-- "a number below 2^64 has at most 20 digits"
pub decimal-long : (n : ℕ) → n < 18446744073709551616 → length (decimal_of n) ≤ 20
decimal-long n h = omega (arith, ap length (decimal-digits 19 n (omega arith)), digits_long 20 n)

-- ---- no leading zero
front : (s t : List ℕ) → 1 ≤ word s 0 → word (s ++ t) 0 ≡ word s 0
front [] t h = absurd (omega (arith, h))
front (x ∷ s) t h = refl

digits-front : (k n : ℕ) → 1 ≤ n → n < 10 ^ (k + 1) → (49 ≤ word (digits_of (suc k) n) 0) × (word (digits_of (suc k) n) 0 ≤ 57)
digits-front zero n h g = let e = ap (λ (s : List ℕ). word s 0) (digits-one zero n (omega arith)) in (omega (arith, e), omega (arith, e))
digits-front (suc k) n h g =
    by_le 10 n
    (λ l.
    let i = digits-front k (n / 10) (omega arith) (tenth k n g) in
    let e = ap (λ (s : List ℕ). word s 0) (digits-next (suc k) n l) ∙ front (digits_of (suc k) (n / 10)) ((48 + n % 10) ∷ []) (omega (arith, i.0)) in
    (omega (arith, e, i.0), omega (arith, e, i.1)))
    (λ l. let e = ap (λ (s : List ℕ). word s 0) (digits-one (suc k) n l) in (omega (arith, e), omega (arith, e)))

-- 0 is one digit, any other number begins with one of 1 to 9
pub decimal-zero : decimal_of 0 ≡ 48 ∷ []
unfolding decimal_of
decimal-zero = digits-one 0 0 (omega arith)

pub decimal-front : (n : ℕ) → 1 ≤ n → (49 ≤ word (decimal_of n) 0) × (word (decimal_of n) 0 ≤ 57)
unfolding decimal_of
decimal-front n h = digits-front n n h (below-tens n)

-- ---- read back
read-append : (s t : List ℕ) (a : ℕ) → read_on a (s ++ t) ≡ read_on (read_on a s) t
unfolding read_on
read-append [] t a = refl
read-append (d ∷ s) t a = read-append s t (a * 10 + (d - 48))

read-last : (a x : ℕ) → read_on a ((48 + x) ∷ []) ≡ a * 10 + x
unfolding read_on
read-last a x = omega arith

digits-back : (k n : ℕ) → n < 10 ^ (k + 1) → read_on 0 (digits_of (suc k) n) ≡ n
digits-back zero n h = ap (read_on 0) (digits-one zero n (omega arith)) ∙ read-last 0 n ∙ omega arith
digits-back (suc k) n h =
    by_le 10 n
    (λ l.
    let q : n / 10 * 10 + n % 10 ≡ n = omega arith in
    ap (read_on 0) (digits-next (suc k) n l)
    ∙ read-append (digits_of (suc k) (n / 10)) ((48 + n % 10) ∷ []) 0
    ∙ ap (λ (a : ℕ). read_on a ((48 + n % 10) ∷ [])) (digits-back k (n / 10) (tenth k n h))
    ∙ read-last (n / 10) (n % 10)
    ∙ q)
    (λ l. ap (read_on 0) (digits-one (suc k) n l) ∙ read-last 0 n ∙ omega arith)

pub decimal-back : (n : ℕ) → number_in (decimal_of n) ≡ n
unfolding number_in decimal_of
decimal-back n = digits-back n n (below-tens n)
