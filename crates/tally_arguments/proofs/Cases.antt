-- What the arguments of `tally` say, of every word and every list of words, and of some.
--     floor-back, floor-over   a decimal with any zeros before it, up to 2^64 − 1 and above
--     digits_are       what a decimal's bytes are
--     floor-other, floor-none   a word that is no decimal, and the empty one
--     last-floor, absent-floor   "the last floor counts", "4 when absent"
--     shipped-anywhere, never-shipped   "it may stand before or after `shipped`"
use Prim.Native.Nat.{ℕ, zero, suc, ◌+◌, ◌/◌, ◌%◌, ◌<◌, ◌≤◌}
use mathlib.Core.Path.{◌≡◌, refl, sym, ap, ◌∙◌}
use mathlib.Core.Bool.{Bool, true, false}
use mathlib.Core.Logic.{◌↔◌}
use mathlib.Core.List.{List, [], ◌∷◌, ◌++◌}
use native.Mathlib.Omega.{arith}
use lib.ListN.{length, get_or, replicate}
use borrow.Author.Tests.{le-leb, lt-ltb}
use Rattle.lists.specs.Tab.{pick}
use Rattle.lists.specs.Select.{words_test}
use Rattle.lists.proofs.Tests.{true-not-false}
use Rattle.lists.proofs.Then.{by_le}
use Rattle.text.specs.Text.{digits_of, decimal_of, read_on, number_in}
use Rattle.text.proofs.Numbers.{digits-one, digits-next, decimal-back}
use Rattle.tally_arguments.specs.Arguments.{shipped-word, is_shipped, is_digit, digits_only, is_decimal, MOST, floor_in, argument_of, arguments_from, arguments_of}
use Rattle.tally_arguments.specs.declared.Call.{Call}
use Rattle.tally_arguments.proofs.Laws.{no-decimal, too_large, decimal-is, is_digit_lem, word-shipped, word-floor, from-append}

-- ---- decimals
digit-of : (x : ℕ) → x < 10 → is_digit (48 + x) ≡ true
unfolding is_digit
digit-of x h = simp (le-leb 48 (48 + x) (omega arith), lt-ltb (48 + x) 58 (omega arith))

digits_append : (s t : List ℕ) → digits_only s ≡ true → digits_only t ≡ true → digits_only (s ++ t) ≡ true
unfolding digits_only
digits_append [] t e f = f
digits_append (b ∷ s) t e f = by (is_digit b) e (λ g. digits_append s t g f)
  where
    by : (p : Bool) → pick p (digits_only s) false ≡ true → (digits_only s ≡ true → digits_only (s ++ t) ≡ true) → pick p (digits_only (s ++ t)) false ≡ true
    by true e h = h e
    by false e h = e

one-digit : (x : ℕ) → x < 10 → digits_only ((48 + x) ∷ []) ≡ true
unfolding digits_only
one-digit x h = rw (digit-of x h) refl

decimal-digits-only : (k n : ℕ) → digits_only (digits_of k n) ≡ true
unfolding digits_of digits_only
decimal-digits-only zero n = refl
decimal-digits-only (suc k) n =
    by_le 10 n
    (λ l. ap digits_only (digits-next k n l) ∙ digits_append (digits_of k (n / 10)) ((48 + n % 10) ∷ []) (decimal-digits-only k (n / 10)) (one-digit (n % 10) (omega arith)))
    (λ l. ap digits_only (digits-one k n l) ∙ one-digit n l)

-- "zeros may lead": k of them
module _ (s : List ℕ) where
  lead-number : (k : ℕ) → number_in (replicate k 48 ++ s) ≡ number_in s
  unfolding number_in read_on
  lead-number zero = refl
  lead-number (suc k) = lead-number k

  lead-digits : (k : ℕ) → digits_only (replicate k 48 ++ s) ≡ digits_only s
  unfolding digits_only is_digit
  lead-digits zero = refl
  lead-digits (suc k) = lead-digits k

module _ (k n : ℕ) where
  written : number_in (replicate k 48 ++ decimal_of n) ≡ n
  written = lead-number (decimal_of n) k ∙ decimal-back n

  pub floor-back : n ≤ MOST → floor_in (replicate k 48 ++ decimal_of n) ≡ n
  unfolding decimal_of
  floor-back h =
      let w = replicate k 48 ++ decimal_of n in
      sym (decimal-is w (lead-digits (decimal_of n) k ∙ decimal-digits-only (suc n) n) (omega (arith, h, written))) ∙ written

  pub floor-over : MOST < n → floor_in (replicate k 48 ++ decimal_of n) ≡ 0
  floor-over h = sym (too_large (replicate k 48 ++ decimal_of n) (omega (arith, h, written)))

-- what a word of digits only is, byte by byte
digits-at : (w : List ℕ) → digits_only w ≡ true → (i : ℕ) → i < length w → (48 ≤ get_or w i 0) × (get_or w i 0 ≤ 57)
unfolding digits_only
digits-at [] e i l = absurd (omega arith)
digits-at (b ∷ s) e i l = by (is_digit b) refl e (λ f j. digits-at s f j) i l
  where
    by : (p : Bool) → is_digit b ≡ p → pick p (digits_only s) false ≡ true → (digits_only s ≡ true → (i : ℕ) → i < length s → (48 ≤ get_or s i 0) × (get_or s i 0 ≤ 57)) → (i : ℕ) → i < suc (length s) → (48 ≤ get_or (b ∷ s) i 0) × (get_or (b ∷ s) i 0 ≤ 57)
    by true q e h zero l = is_digit_lem b q
    by true q e h (suc i) l = h e i (omega arith)
    by false q e h i l = absurd (true-not-false (sym e))

digits_from : (w : List ℕ) → ((i : ℕ) → i < length w → (48 ≤ get_or w i 0) × (get_or w i 0 ≤ 57)) → digits_only w ≡ true
unfolding digits_only is_digit
digits_from [] h = refl
digits_from (b ∷ s) h =
    let e = h 0 (omega arith) in
    simp (le-leb 48 b e.0, lt-ltb b 58 (omega (arith, e.1))) (digits_from s (λ i l. h (suc i) (omega arith)))

pub digits_are : (w : List ℕ) → (digits_only w ≡ true) ↔ ((i : ℕ) → i < length w → (48 ≤ get_or w i 0) × (get_or w i 0 ≤ 57))
digits_are w = (digits-at w, digits_from w)

pub floor-other : (w : List ℕ) → digits_only w ≡ false → floor_in w ≡ 0
floor-other w e = sym (no-decimal w e)

pub floor-none : floor_in [] ≡ 0
unfolding floor_in is_decimal
floor-none = refl

-- ---- lists of words
abbrev pub AllShipped : List (List ℕ) → Type 0
AllShipped [] = Unit {0}
AllShipped (w ∷ ws) = (is_shipped w ≡ true) × AllShipped ws

abbrev pub NoneShipped : List (List ℕ) → Type 0
NoneShipped [] = Unit {0}
NoneShipped (w ∷ ws) = (is_shipped w ≡ false) × NoneShipped ws

keeps-floor : (c : Call) (ws : List (List ℕ)) → AllShipped ws → (arguments_from c ws).floor ≡ c.floor
unfolding arguments_from
keeps-floor c [] h = refl
keeps-floor c (w ∷ ws) h = keeps-floor (argument_of c w) ws h.1 ∙ ap (λ (d : Call). d.floor) (sym (word-shipped c w h.0))

keeps-shipped : (c : Call) (ws : List (List ℕ)) → c.shipped ≡ true → (arguments_from c ws).shipped ≡ true
unfolding arguments_from argument_of
keeps-shipped c [] e = e
keeps-shipped c (w ∷ ws) e = keeps-shipped (argument_of c w) ws (by (is_shipped w))
  where
    by : (t : Bool) → (pick {A = Call} t (record { floor = c.floor; shipped = true }) (record { floor = floor_in w; shipped = c.shipped })).shipped ≡ true
    by true = refl
    by false = e

none-shipped : (c : Call) (ws : List (List ℕ)) → NoneShipped ws → c.shipped ≡ false → (arguments_from c ws).shipped ≡ false
unfolding arguments_from
none-shipped c [] h e = e
none-shipped c (w ∷ ws) h e = none-shipped (argument_of c w) ws h.1 (ap (λ (d : Call). d.shipped) (sym (word-floor c w h.0 refl)) ∙ e)

pub last-floor : (us : List (List ℕ)) (w : List ℕ) (vs : List (List ℕ)) → is_shipped w ≡ false → AllShipped vs → (arguments_of (us ++ w ∷ vs)).floor ≡ floor_in w
unfolding arguments_of arguments_from
last-floor us w vs e h =
    let c = arguments_of us in
    ap (λ (d : Call). d.floor) (from-append _ us (w ∷ vs)) ∙ keeps-floor (argument_of c w) vs h ∙ ap (λ (d : Call). d.floor) (sym (word-floor c w e refl))

pub absent-floor : (ws : List (List ℕ)) → AllShipped ws → (arguments_of ws).floor ≡ 4
unfolding arguments_of
absent-floor ws h = keeps-floor _ ws h

pub shipped-anywhere : (us vs : List (List ℕ)) → (arguments_of (us ++ shipped-word ∷ vs)).shipped ≡ true
unfolding arguments_of arguments_from is_shipped words_test
shipped-anywhere us vs =
    let c = arguments_of us in
    ap (λ (d : Call). d.shipped) (from-append _ us (shipped-word ∷ vs))
    ∙ keeps-shipped (argument_of c shipped-word) vs (ap (λ (d : Call). d.shipped) (sym (word-shipped c shipped-word refl)))

pub never-shipped : (ws : List (List ℕ)) → NoneShipped ws → (arguments_of ws).shipped ≡ false
unfolding arguments_of
never-shipped ws h = none-shipped _ ws h refl

-- ---- some words
-- "8"
abbrev eight : List ℕ
eight = 56 ∷ []

-- "x"
abbrev other : List ℕ
other = 120 ∷ []

-- "184467440737095516", to which two digits more make 2^64 − 1 or 2^64
abbrev long : List ℕ → List ℕ
long s = 49 ∷ 56 ∷ 52 ∷ 52 ∷ 54 ∷ 55 ∷ 52 ∷ 52 ∷ 48 ∷ 55 ∷ 51 ∷ 55 ∷ 48 ∷ 57 ∷ 53 ∷ 53 ∷ 49 ∷ 54 ∷ s

abbrev says : List (List ℕ) → ℕ → Bool → Type 0
says ws floor shipped = arguments_of ws ≡ record { floor = floor; shipped = shipped }

pub case-none : says [] 4 false
unfolding arguments_of arguments_from
case-none = refl

pub case-other-eight : says (other ∷ eight ∷ []) 8 false
unfolding arguments_of arguments_from argument_of is_shipped words_test floor_in is_decimal digits_only is_digit number_in read_on
case-other-eight = refl

pub case-eight-other : says (eight ∷ other ∷ []) 0 false
unfolding arguments_of arguments_from argument_of is_shipped words_test floor_in is_decimal digits_only is_digit number_in read_on
case-eight-other = refl

pub case-shipped-eight : says (shipped-word ∷ eight ∷ []) 8 true
unfolding arguments_of arguments_from argument_of is_shipped words_test floor_in is_decimal digits_only is_digit number_in read_on
case-shipped-eight = refl

pub case-eight-shipped : says (eight ∷ shipped-word ∷ []) 8 true
unfolding arguments_of arguments_from argument_of is_shipped words_test floor_in is_decimal digits_only is_digit number_in read_on
case-eight-shipped = refl

pub case-empty-word : says (eight ∷ [] ∷ []) 0 false
unfolding arguments_of arguments_from argument_of is_shipped words_test floor_in is_decimal digits_only is_digit number_in read_on
case-empty-word = refl

pub case-most : says (long (49 ∷ 53 ∷ []) ∷ []) 18446744073709551615 false
unfolding arguments_of arguments_from argument_of is_shipped words_test floor_in is_decimal digits_only is_digit number_in read_on
case-most = refl

pub case-over : says (long (49 ∷ 54 ∷ []) ∷ []) 0 false
unfolding arguments_of arguments_from argument_of is_shipped words_test floor_in is_decimal digits_only is_digit number_in read_on
case-over = refl
