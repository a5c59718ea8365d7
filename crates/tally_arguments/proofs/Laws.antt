-- Reading a word digit by digit, and one word after another.
use Prim.Native.Nat.{ℕ, ◌+◌, ◌-◌, ◌*◌, ◌<◌, ◌≤◌}
use mathlib.Core.Path.{◌≡◌, refl, sym, ap, ◌∙◌}
use mathlib.Core.Bool.{Bool, true, false}
use mathlib.Core.List.{List, [], ◌∷◌, ◌++◌}
use native.Mathlib.Nat.{le_trans}
use native.Mathlib.Numerals.{add-one}
use native.Mathlib.Omega.{arith}
use lib.Dec.{ltb, leb}
use lib.ListN.{length, drop, get_or, drop_of_length-le}
use lib.Seq.{drop-cons}
use borrow.Author.Tests.{le-leb, lt-leb, leb-true, ltb-true}
use Rattle.lists.specs.Tab.{pick}
use Rattle.lists.proofs.Tests.{true-not-false}
use Rattle.text.specs.Text.{read_on, number_in}
use Rattle.tally_arguments.specs.Arguments.{is_shipped, is_digit, digits_only, is_decimal, MOST, floor_in, argument_of, arguments_from}
use Rattle.tally_arguments.specs.declared.Call.{Call}

-- ---- the floor of a word, once its digits are known
pick_same : {A : Type 0} (b : Bool) (x : A) → x ≡ pick b x x
pick_same true x = refl
pick_same false x = refl

pub no-decimal : (w : List ℕ) → digits_only w ≡ false → 0 ≡ floor_in w
unfolding floor_in is_decimal
no-decimal [] e = refl
no-decimal (b ∷ s) e = rw e refl

pub too_large : (w : List ℕ) → MOST < number_in w → 0 ≡ floor_in w
unfolding floor_in
too_large w l = rw (lt-leb (number_in w) MOST l) (pick_same (is_decimal w) 0)

-- the empty word too, whose number is 0
pub decimal-is : (w : List ℕ) → digits_only w ≡ true → number_in w ≤ MOST → number_in w ≡ floor_in w
unfolding floor_in is_decimal number_in read_on
decimal-is [] e h = refl
decimal-is (b ∷ s) e h = rw (e, le-leb (number_in (b ∷ s)) MOST h) refl

pub number-grows : (s : List ℕ) (a : ℕ) → a ≤ read_on a s
unfolding read_on
number-grows [] a = omega arith
number-grows (d ∷ s) a = le_trans (omega arith) (number-grows s (a * 10 + (d - 48)))

-- ---- a reader before byte i of a word: what is left says of the word what the whole word does
pub record Reads (w : List ℕ) (i value : ℕ) : Type 0 where
  pub inside : i ≤ length w
  pub small : value ≤ MOST
  pub digits : digits_only (drop i w) ≡ digits_only w
  pub number : read_on value (drop i w) ≡ number_in w

pub reads-start : (w : List ℕ) → Reads w 0 0
unfolding number_in
reads-start w = record { inside = omega arith; small = omega arith; digits = refl; number = refl }

module _ {w : List ℕ} {i value : ℕ} (r : Reads w i value) (l : i < length w) where
  abbrev next : ℕ
  next = get_or w i 0

  left : drop i w ≡ next ∷ drop (i + 1) w
  left = drop-cons w i 0 l ∙ ap (λ (k : ℕ). next ∷ drop k w) (sym (add-one i))

  digits-left : pick (is_digit next) (digits_only (drop (i + 1) w)) false ≡ digits_only w
  unfolding digits_only
  digits-left = ap digits_only (sym left) ∙ r.digits

  number-left : read_on (value * 10 + (next - 48)) (drop (i + 1) w) ≡ number_in w
  unfolding read_on
  number-left = ap (read_on value) (sym left) ∙ r.number

  pub reads_more : is_digit next ≡ true → value * 10 + (next - 48) ≤ MOST → Reads w (i + 1) (value * 10 + (next - 48))
  reads_more e h =
      record {
        inside = omega (arith, l);
        small = h;
        digits = ap (λ (t : Bool). pick t (digits_only (drop (i + 1) w)) false) (sym e) ∙ digits-left;
        number = number-left;
      }

  pub reads_other : is_digit next ≡ false → 0 ≡ floor_in w
  reads_other e = no-decimal w (sym digits-left ∙ ap (λ (t : Bool). pick t (digits_only (drop (i + 1) w)) false) e)

  pub reads-large : MOST < value * 10 + (next - 48) → 0 ≡ floor_in w
  reads-large h = too_large w (omega (arith, h, number-left, number-grows (drop (i + 1) w) (value * 10 + (next - 48))))

pub reads_all : {w : List ℕ} {i value : ℕ} → Reads w i value → length w ≤ i → value ≡ floor_in w
unfolding read_on digits_only
reads_all {w} {i} {value} r h =
    let none : drop i w ≡ [] = drop_of_length-le w h in
    let n : value ≡ number_in w = ap (read_on value) (sym none) ∙ r.number in
    n ∙ decimal-is w (sym r.digits ∙ ap digits_only none) (omega (arith, n, r.small))

-- ---- one word after another
pub word-shipped : (c : Call) (w : List ℕ) → is_shipped w ≡ true → record { floor = c.floor; shipped = true } ≡ argument_of c w
unfolding argument_of
word-shipped c w e = rw e refl

pub word-floor : (c : Call) (w : List ℕ) {floor : ℕ} → is_shipped w ≡ false → floor ≡ floor_in w → record { floor = floor; shipped = c.shipped } ≡ argument_of c w
unfolding argument_of
word-floor c w e q = rw (e, q) refl

pub from-append : (c : Call) (us vs : List (List ℕ)) → arguments_from c (us ++ vs) ≡ arguments_from (arguments_from c us) vs
unfolding arguments_from
from-append c [] vs = refl
from-append c (u ∷ us) vs = from-append (argument_of c u) us vs

-- ---- a digit
pub is_digit_lem : (b : ℕ) → is_digit b ≡ true → (48 ≤ b) × (b ≤ 57)
unfolding is_digit
is_digit_lem b e = by (leb 48 b) refl e
  where
    by : (t : Bool) → leb 48 b ≡ t → pick t (ltb b 58) false ≡ true → (48 ≤ b) × (b ≤ 57)
    by true l e = (leb-true 48 b l, omega (arith, ltb-true b 58 e))
    by false l e = absurd (true-not-false (sym e))
