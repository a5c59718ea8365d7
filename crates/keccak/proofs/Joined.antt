-- Two lists of operations, one after the other: the first list's operations, then the second's. So the rows of both are
-- the rows of the first and then those of the second, and parts of a list can be written into parts of one table.
use mathlib.Core.Path.{◌≡◌, sym, ap, ◌∙◌}
use mathlib.Core.List.{List, ◌++◌}
use Prim.Native.Nat.{ℕ, ◌+◌, ◌*◌, ◌%◌, ◌<◌}
use native.Mathlib.Nat.{add_assoc, add-zero}
use native.Mathlib.Omega.{arith}
use lib.ListN.{length, get_or, get_or-append, length-append}
use lib.Seq.{get_or-append-add}
use Rattle.lists.proofs.Laws.{tab-same, table-add}
use Rattle.keccak.specs.Row.{OP-WORDS, SEGMENT-WORD, op_at, core_row, core_rows}
use Rattle.keccak.specs.Refusals.{op_count}

-- an operation is known by its words
pub op_same : (a b : List ℕ) (i j : ℕ) → ((k : ℕ) → k < OP-WORDS → get_or a (OP-WORDS * i + k) 0 ≡ get_or b (OP-WORDS * j + k) 0) → op_at a i ≡ op_at b j
unfolding op_at
op_same a b i j e =
    λ t. record {
      timestamp = first t;
      state_addr = e 1 (omega arith) t;
      input = tab-same 25 (λ k. get_or a (OP-WORDS * i + 2 + k) 0) (λ k. get_or b (OP-WORDS * j + 2 + k) 0) (λ k l. lanes 2 k (omega arith)) t;
      output = tab-same 25 (λ k. get_or a (OP-WORDS * i + 27 + k) 0) (λ k. get_or b (OP-WORDS * j + 27 + k) 0) (λ k l. lanes 27 k (omega arith)) t;
      segment = e SEGMENT-WORD (omega arith) t;
    }
  where
    first : get_or a (OP-WORDS * i) 0 ≡ get_or b (OP-WORDS * j) 0
    first = ap (λ (n : ℕ). get_or a n 0) (sym (add-zero (OP-WORDS * i))) ∙ e 0 (omega arith) ∙ ap (λ (n : ℕ). get_or b n 0) (add-zero (OP-WORDS * j))

    lanes : (f k : ℕ) → f + k < OP-WORDS → get_or a (OP-WORDS * i + f + k) 0 ≡ get_or b (OP-WORDS * j + f + k) 0
    lanes f k h = ap (λ (n : ℕ). get_or a n 0) (add_assoc (OP-WORDS * i) f k) ∙ e (f + k) h ∙ ap (λ (n : ℕ). get_or b n 0) (sym (add_assoc (OP-WORDS * j) f k))

module _ (a b : List ℕ) (whole : length a % OP-WORDS ≡ 0) where
  pub count-joined : op_count (a ++ b) ≡ op_count a + op_count b
  count-joined = omega (arith, length-append a b)

  pub op-first : (i : ℕ) → i < op_count a → op_at (a ++ b) i ≡ op_at a i
  op-first i h = op_same (a ++ b) a i i (λ k l. get_or-append a b 0 (OP-WORDS * i + k) (omega arith))

  pub op-second : (i : ℕ) → op_at (a ++ b) (op_count a + i) ≡ op_at b i
  op-second i = op_same (a ++ b) b (op_count a + i) i (λ k l. ap (λ (n : ℕ). get_or (a ++ b) n 0) (omega arith) ∙ get_or-append-add a b (OP-WORDS * i + k) 0)

  pub core-rows-joined : core_rows (op_count (a ++ b)) (op_at (a ++ b)) ≡ core_rows (op_count a) (op_at a) ++ core_rows (op_count b) (op_at b)
  unfolding core_rows
  core-rows-joined =
      ap (λ (n : ℕ). core_rows n (op_at (a ++ b))) count-joined
      ∙ table-add (op_count a) (op_count b) 486 (λ i. core_row (op_at (a ++ b) i)) (λ i. core_row (op_at a i)) (λ i. core_row (op_at b i)) (omega arith)
      (λ i h. ap core_row (op-first i h)) (λ i _. ap core_row (op-second i))
