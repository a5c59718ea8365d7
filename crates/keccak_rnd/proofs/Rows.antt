-- The rows of an operation and of a list of operations, as the code stores them.
use mathlib.Core.Path.{◌≡◌, refl, sym, ap, ◌∙◌}
use mathlib.Core.List.{List}
use Prim.Native.Nat.{ℕ, ◌+◌, ◌-◌, ◌*◌, ◌/◌, ◌%◌, ◌^◌, ◌≤◌}
use native.Mathlib.Nat.{zero-add, add-sub_of_le, le-add_right, le_trans, mul-le-mul_left}
use native.Mathlib.Numerals.{add-one}
use native.Mathlib.Omega.{arith}
use lib.ListN.{length}
use lib.Seq.{sets}
use Rattle.lists.specs.Tab.{tab, table_of, cells_of}
use Rattle.lists.proofs.Laws.{sets-append, length-table, table-add, tab-same}
use Rattle.bits.specs.Bits.{word_at}
use Rattle.answer.specs.Limits.{MAX-OPS, MAX-ROUNDS}
use Rattle.fips202.specs.Lanes.{rnd_l, rounds_l}
use Rattle.keccak.specs.declared.KeccakOperation.{KeccakOperation}
use borrow.Author.Tests.{eq-eqb, ne_eqb}
use Rattle.keccak.specs.Height.{height}
use Rattle.keccak.specs.Row.{op_at}
use Rattle.keccak_rnd.specs.Row.{round_pad, op_row, round_row_at, padding-are-bytes}
use Rattle.keccak_rnd.specs.Parts.{row_after}
use Rattle.keccak_rnd.proofs.Cells.{length-round}
use Rattle.keccak_rnd.proofs.Completeness.{pad-word}
use Rattle.keccak_rnd.proofs.Table.{round-row-op, round-row-pad}

pub length-after : (first timestamp : ℕ) (s : List ℕ) (j : ℕ) → length (row_after first timestamp s j) ≡ 1480
unfolding row_after
length-after first timestamp s j = length-round (word_at timestamp) (first + j) (rounds_l first j s)

-- one round more
pub one_more : (first : ℕ) (s : List ℕ) (r : ℕ) → rnd_l (rounds_l first r s) (first + r) ≡ rounds_l first (r + 1) s
unfolding rounds_l
one_more first s r = ap (λ (k : ℕ). rounds_l first k s) (sym (add-one r))

-- the rows of an operation are those of its timestamp and input
pub op-block : (nr : ℕ) (o : KeccakOperation) → table_of nr 1480 (row_after (24 - nr) o.timestamp o.input) ≡ table_of nr 1480 (op_row nr o)
unfolding row_after op_row
op-block nr o = refl

-- zeros are padding rows
pub zero-rows : (m : ℕ) → tab (m * 1480) (λ k. 0) ≡ table_of m 1480 (λ i. round_pad)
unfolding table_of
zero-rows m = tab-same (m * 1480) (λ k. 0) (cells_of 1480 (λ i. round_pad)) (λ k _. sym (pad-word (k % 1480)))

-- the operations' rows, then the padding
pub rows : (nr : ℕ) (l t₁ t₂ ws : List ℕ) (n h : ℕ) → n * nr ≤ h → t₁ ≡ sets l 0 (table_of (n * nr) 1480 (λ q. op_row nr (op_at ws (q / nr)) (q % nr)))
    → t₂ ≡ sets t₁ (n * nr * 1480) (tab ((h - n * nr) * 1480) (λ k. 0)) → t₂ ≡ sets l 0 (table_of h 1480 (round_row_at nr n (op_at ws)))
rows nr l t₁ t₂ ws n h le e₁ e₂ =
    let row : ℕ → List ℕ = λ q. op_row nr (op_at ws (q / nr)) (q % nr) in
    let a : List ℕ = table_of (n * nr) 1480 row in
    let b : List ℕ = table_of (h - n * nr) 1480 (λ i. round_pad) in
    e₂ ∙ ap (λ (t : List ℕ). sets t (n * nr * 1480) (tab ((h - n * nr) * 1480) (λ k. 0))) e₁
    ∙ ap (sets (sets l 0 a) (n * nr * 1480)) (zero-rows (h - n * nr))
    ∙ ap (λ (k : ℕ). sets (sets l 0 a) k b) (sym (length-table (n * nr) 1480 row) ∙ sym (zero-add (length a)))
    ∙ sets-append l 0 a b
    ∙ ap (sets l 0)
    (sym (table-add (n * nr) (h - n * nr) 1480 (round_row_at nr n (op_at ws)) row (λ i. round_pad) (omega arith)
    (λ i c. round-row-op nr n (op_at ws) i c)
    (λ i c. round-row-pad nr n (op_at ws) (n * nr + i) (le-add_right (n * nr) i))))
    ∙ ap (λ (k : ℕ). sets l 0 (table_of k 1480 (round_row_at nr n (op_at ws)))) (add-sub_of_le le)

-- the padding's lookups, where there is no operation and where there is one
pub padding-none : (nr floor n : ℕ) → n ≡ 0 → 0 ≡ padding-are-bytes nr floor n
unfolding padding-are-bytes
padding-none nr floor n e = rw (eq-eqb n 0 e)

pub padding-some : (nr floor n : ℕ) {h : ℕ} → (n ≡ 0 → ⊥) → h ≡ height floor (n * nr) → (h - n * nr) * 220 ≡ padding-are-bytes nr floor n
unfolding padding-are-bytes
padding-some nr floor n e q = rw (ne_eqb n 0 e) (ap (λ (k : ℕ). (k - n * nr) * 220) q)

-- a list that a call accepts has at most 2^31 rows
pub few-rows : (nr n : ℕ) → nr ≤ MAX-ROUNDS → n ≤ MAX-OPS → n * nr ≤ 2 ^ 31
few-rows nr n h l = le_trans (mul-le-mul_left n h) (omega arith)
