-- What the fixed columns of a row say: the row of X, Y and Z stands at its index, the two top bits, ZERO and the shift by
-- plain conditions on the numbers.
use mathlib.Core.Path.{◌≡◌, refl, sym, ap, ◌∙◌}
use mathlib.Core.Bool.{Bool, true, ◌&&◌}
use mathlib.Core.List.{List}
use Prim.Native.Nat.{ℕ, zero, suc, ◌+◌, ◌*◌, ◌/◌, ◌%◌, ◌^◌, ◌≤◌, ◌<◌}
use native.Mathlib.Nat.{div-add-mod', mod-lt, zero-lt-suc}
use native.Mathlib.Omega.{arith}
use borrow.Author.Tests.{le-leb, lt-leb, ne_eqb}
use lib.Dec.{leb, eqb}
use Rattle.lists.specs.Tab.{word, pick}
use Rattle.lists.proofs.Then.{by_le, at-three}
use Rattle.answer.specs.Refusal.{accepted}
use Rattle.answer.proofs.Laws.{new_word}
use Rattle.bitwise.specs.Columns.{NUM-ROWS, X, Y, Z, MSB8, MSB16, ZERO, SLL, SLLC}
use Rattle.bitwise.specs.Row.{row_of_xyz, bitwise_row, row-index, bitwise_row_refusal, bitwise_row_after}

-- the row of X, Y and Z stands at its index
pub row-of-index : (x y z : ℕ) → x < 256 → y < 256 → z < 16 → bitwise_row (row-index x y z) ≡ row_of_xyz x y z
unfolding bitwise_row
row-of-index x y z hx hy hz = at-three row_of_xyz (omega arith) (omega arith) (omega arith)

-- every index below 2^20 is that of its row's X, Y and Z
pub index-of-row : (i : ℕ) → i < NUM-ROWS → row-index (word (bitwise_row i) X) (word (bitwise_row i) Y) (word (bitwise_row i) Z) ≡ i
unfolding bitwise_row row_of_xyz
index-of-row i h = omega arith

-- and that is so of what `generate_bitwise_row` leaves, where it is accepted
pub index-left : (i : ℕ) (row : List ℕ) → bitwise_row_refusal i row ≡ accepted → i < NUM-ROWS
    → row-index (word (bitwise_row_after i row) X) (word (bitwise_row_after i row) Y) (word (bitwise_row_after i row) Z) ≡ i
unfolding bitwise_row row_of_xyz
index-left i row passed h =
    (λ t. row-index (new_word (bitwise_row i) row passed X (omega arith) t) (new_word (bitwise_row i) row passed Y (omega arith) t) (new_word (bitwise_row i) row passed Z (omega arith) t))
    ∙ index-of-row i h

-- a bit from a test
high : (top x : ℕ) → (top ≤ x → x / top % 2 ≡ 1) → (x < top → x / top % 2 ≡ 0) → x / top % 2 ≡ pick (leb top x) 1 0
high top x a b =
    by_le top x (λ l. a l ∙ sym (ap (λ (t : Bool). pick t 1 0) (le-leb top x l))) (λ l. b l ∙ sym (ap (λ (t : Bool). pick t 1 0) (lt-leb top x l)))

-- MSB8 is 1 exactly where X is 128 or more
pub msb8-is : (x y z : ℕ) → x < 256 → word (row_of_xyz x y z) MSB8 ≡ pick (leb 128 x) 1 0
unfolding row_of_xyz
msb8-is x y z hx = high 128 x (λ l. omega arith) (λ l. omega arith)

-- MSB16 is 1 exactly where X + 256 Y is 32,768 or more
pub msb16-is : (x y z : ℕ) → x < 256 → y < 256 → word (row_of_xyz x y z) MSB16 ≡ pick (leb 32768 (x + y * 256)) 1 0
unfolding row_of_xyz
msb16-is x y z hx hy = high 32768 (x + y * 256) (λ l. omega arith) (λ l. omega arith)

all-zero : (x y z : ℕ) → (eqb x 0 && (eqb y 0 && eqb z 0)) ≡ eqb (row-index x y z) 0
all-zero zero zero zero = refl
all-zero zero zero (suc z) = ap (λ (t : Bool). true && (true && t)) (ne_eqb (suc z) 0 (λ e. omega arith)) ∙ sym (ne_eqb (row-index 0 0 (suc z)) 0 (λ e. omega arith))
all-zero zero (suc y) z = ap (λ (t : Bool). true && (t && eqb z 0)) (ne_eqb (suc y) 0 (λ e. omega arith)) ∙ sym (ne_eqb (row-index 0 (suc y) z) 0 (λ e. omega arith))
all-zero (suc x) y z = ap (λ (t : Bool). t && (eqb y 0 && eqb z 0)) (ne_eqb (suc x) 0 (λ e. omega arith)) ∙ sym (ne_eqb (row-index (suc x) y z) 0 (λ e. omega arith))

-- ZERO is 1 exactly where the index is 0
pub zero_is : (x y z : ℕ) → word (row_of_xyz x y z) ZERO ≡ pick (eqb (row-index x y z) 0) 1 0
unfolding row_of_xyz
zero_is x y z = ap (λ (t : Bool). pick t 1 0) (all-zero x y z)

-- SLL and SLLC are the low sixteen bits and the rest of the halfword shifted: nothing is lost
pub shift_is : (x y z : ℕ) → word (row_of_xyz x y z) SLL + word (row_of_xyz x y z) SLLC * 65536 ≡ (x + y * 256) * 2 ^ z
unfolding row_of_xyz
shift_is x y z = omega (arith, div-add-mod' ((x + y * 256) * 2 ^ z) 65536)

pub sll-lt : (x y z : ℕ) → word (row_of_xyz x y z) SLL < 65536
unfolding row_of_xyz
sll-lt x y z = mod-lt _ (zero-lt-suc 65535)
