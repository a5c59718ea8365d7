-- What the calls of the core table leave, by words of the list and of the slice: operation i begins at word OP-WORDS * i of the
-- list, its row at word 486 i of the table, its keys at word 50 i.
use mathlib.Core.Path.{◌≡◌, sym, ap, subst, ◌∙◌}
use mathlib.Core.List.{List}
use Prim.Native.Nat.{ℕ, ◌+◌, ◌*◌, ◌/◌, ◌%◌, ◌^◌, ◌<◌}
use native.Mathlib.Omega.{arith}
use lib.ListN.{length, take, drop}
use Rattle.lists.specs.Tab.{word}
use Rattle.lists.proofs.Laws.{get_d-tab, word-row_at}
use Rattle.bits.specs.Bits.{word_at}
use Rattle.answer.specs.Refusal.{accepted}
use Rattle.answer.proofs.Laws.{new_word, new-words, old-words}
use Rattle.keccak.specs.Height.{height}
use Rattle.keccak.specs.Row.{OP-WORDS, op_at, core_row, core_table, key_word, is-wh-keys, key_words, pointer_key}
use Rattle.keccak.specs.Refusals.{op_count, core_row_refusal, core_trace_refusal, keys_refusal}
use Rattle.keccak.specs.Calls.{core_row_after, core_trace_after, keys_after}
use Rattle.keccak.proofs.Cells.{length-core, read-t0, read-mu}
use Rattle.keccak.proofs.Height.{height-ge}
use Rattle.keccak.proofs.Keys.{operation-key, length-keys}
use Rattle.keccak.proofs.Table.{core-row-op, length-core-table, core-table-row}

-- the first word of a row: the low half of its operation's timestamp
row-stamp : (ops : List ℕ) (i : ℕ) → word (core_row (op_at ops i)) 0 ≡ word ops (OP-WORDS * i) % 2 ^ 32
unfolding op_at word_at
row-stamp ops i = read-t0 (op_at ops i) ∙ omega arith

-- `keccak_row`
module _ (ops : List ℕ) (index : ℕ) (row : List ℕ) (passed : core_row_refusal (length row) ops index ≡ accepted) where
  abbrev new : List ℕ
  new = core_row (op_at ops index)

  pub row-starts : word (core_row_after ops index row) 0 ≡ word ops (OP-WORDS * index) % 2 ^ 32
  row-starts = new_word new row passed 0 (omega (arith, length-core (op_at ops index))) ∙ row-stamp ops index

  pub row-active : word (core_row_after ops index row) 485 ≡ 1
  row-active = new_word new row passed 485 (omega (arith, length-core (op_at ops index))) ∙ read-mu (op_at ops index)

  pub row-past : drop 486 (core_row_after ops index row) ≡ drop 486 row
  row-past = subst (λ (n : ℕ). drop n (core_row_after ops index row) ≡ drop n row) (length-core (op_at ops index)) (old-words new row passed)

-- `generate_keccak_trace`
module _ (floor : ℕ) (ops table : List ℕ) (passed : core_trace_refusal floor (length table) ops ≡ accepted) where
  abbrev made : List ℕ
  made = core_table floor (op_count ops) (op_at ops)

  pub table-starts : (i : ℕ) → i < op_count ops → word (core_trace_after floor ops table) (486 * i) ≡ word ops (OP-WORDS * i) % 2 ^ 32
  table-starts i l =
      let n = op_count ops in
      let h = height-ge floor n in
      let e : i * 486 + 0 ≡ 486 * i = omega arith in
      new_word made table passed (486 * i) (omega (arith, length-core-table n (op_at ops) floor))
      ∙ ap (word made) (sym e) ∙ sym (word-row_at 486 made i 0 (omega arith))
      ∙ ap (λ (r : List ℕ). word r 0) (core-table-row n (op_at ops) floor i (omega arith) ∙ core-row-op n (op_at ops) i l) ∙ row-stamp ops i

  -- its front is the table, word by word
  pub table-left : take (height floor (op_count ops) * 486) (core_trace_after floor ops table) ≡ made
  table-left =
      ap (λ (k : ℕ). take k (core_trace_after floor ops table)) (sym (length-core-table (op_count ops) (op_at ops) floor)) ∙ new-words made table passed

-- `is_wh_keys`: the key of the first lane, whose pointer is the address
module _ (ops out : List ℕ) (passed : keys_refusal (length out) ops ≡ accepted) where
  pub keys-start : (i : ℕ) → i < op_count ops → word (keys_after ops out) (50 * i) ≡ word ops (OP-WORDS * i + 1) / 2 ^ 32
  unfolding key_words pointer_key op_at
  keys-start i l =
      let n = op_count ops in
      let e : i * 50 + 0 ≡ 50 * i = omega arith in
      let z : word ops (OP-WORDS * i + 1) + 0 ≡ word ops (OP-WORDS * i + 1) = omega arith in
      new_word (key_words n (op_at ops)) out passed (50 * i) (omega (arith, length-keys n (op_at ops)))
      ∙ get_d-tab (n * 50) (λ k. key_word (is-wh-keys (op_at ops) (k / 2)) (k % 2)) (50 * i) 0 (omega arith)
      ∙ ap (λ (k : ℕ). key_word (is-wh-keys (op_at ops) (k / 2)) (k % 2)) (sym e) ∙ operation-key (op_at ops) i 0 (omega arith)
      ∙ ap (λ (a : ℕ). a / 2 ^ 32) z

  pub keys-past : drop (op_count ops * 50) (keys_after ops out) ≡ drop (op_count ops * 50) out
  keys-past =
      subst (λ (n : ℕ). drop n (keys_after ops out) ≡ drop n out) (length-keys (op_count ops) (op_at ops)) (old-words (key_words (op_count ops) (op_at ops)) out passed)
