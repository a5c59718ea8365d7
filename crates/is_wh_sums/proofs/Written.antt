-- Of what the calls leave: the IS_WH table that `generate_is_wh_trace` writes from the rows of `dedup_is_wh_rows` from the keys of
-- `is_wh_keys` receives each pair exactly as often as the core table of `generate_keccak_trace` sends it; and what
-- `collect_bitwise_from_is_wh` charges is what the IS_WH table sends.
use mathlib.Core.Bool.{Bool, true}
use mathlib.Core.List.{List}
use mathlib.Core.Path.{◌≡◌, sym, ap, ◌∙◌}
use Prim.Native.Nat.{ℕ, ◌+◌, ◌*◌, ◌^◌, ◌≤◌, ◌<◌}
use native.Mathlib.Omega.{arith}
use borrow.Author.Tests.{ne_eqb}
use lib.ListN.{length, take}
use Rattle.lists.specs.Tab.{pick, row_at}
use Rattle.answer.specs.Refusal.{accepted}
use Rattle.answer.proofs.Laws.{new-words}
use Rattle.tuple.specs.declared.Bus.{Bus}
use Rattle.tuple.specs.declared.Bus.TheVariants.{IsWh}
use Rattle.tuple.specs.declared.Side.TheVariants.{Sender, Receiver}
use Rattle.bitwise.specs.Charge.{place_counter, found, charged}
use Rattle.is_wh.specs.Tuples.{is_wh_tuple}
use Rattle.keccak.specs.Height.{height}
use Rattle.keccak.specs.Row.{op_at, key_words}
use Rattle.keccak.specs.Refusals.{op_count, keys_refusal, core_trace_refusal}
use Rattle.keccak.specs.Calls.{keys_after, core_trace_after}
use Rattle.keccak.proofs.Cells.{last-address}
use Rattle.keccak.proofs.Keys.{length-keys}
use Rattle.keccak.proofs.Refusals.{accepted-is}
use Rattle.keccak.proofs.Calls.{table-left}
use Rattle.is_wh_rows.specs.Rows.{codes, rows_of, flat}
use Rattle.is_wh_rows.specs.Lists.{GoodList}
use Rattle.is_wh_rows.specs.Calls.{dedup_refusal, rows_after}
use Rattle.is_wh_rows.proofs.Answers.{rows_start}
use Rattle.is_wh_trace.specs.Trace.{row_count, is_wh_height, is_wh_table, is_wh_trace_refusal, is_wh_trace_after}
use Rattle.is_wh_trace.proofs.Answers.{table-start}
use Rattle.is_wh_counts.specs.Counts.{sending_rows, is_wh_charged}
use Rattle.verdict.specs.CoreAndRound.{core_kind}
use Rattle.verdict.proofs.Tables.{table-rows}
use Rattle.bus_sums.specs.Sums.{shares, tuple_at, table_share, is_wh_layout, is_wh_kind}
use Rattle.is_wh_sums.proofs.Charge.{charged-is-sent}
use Rattle.is_wh_sums.proofs.Sent.{keys-good, pairs-balanced, row-sound}

-- ---- the keys of a list of operations
module _ (ops out : List ℕ) (wrote-keys : keys_refusal (length out) ops ≡ accepted) where
  abbrev pub keys_of : List ℕ
  keys_of = take (op_count ops * 50) (keys_after ops out)

  keys-are : keys_of ≡ key_words (op_count ops) (op_at ops)
  keys-are = ap (λ (n : ℕ). take n (keys_after ops out)) (sym (length-keys (op_count ops) (op_at ops))) ∙ new-words (key_words (op_count ops) (op_at ops)) out wrote-keys

  few : op_count ops ≤ 89478485
  unfolding keys_refusal
  few = ((accepted-is (length out) (op_count ops * 50) ops).0 wrote-keys).few

  low : (i : ℕ) → i < op_count ops → (op_at ops i).state_addr + 192 < 2 ^ 64
  unfolding keys_refusal
  low i l = (last-address (op_at ops i).state_addr).0 (((accepted-is (length out) (op_count ops * 50) ops).0 wrote-keys).low i l)

  -- no word of them is refused, and they are not too many
  pub keys-pass : GoodList 2 (key_words (op_count ops) (op_at ops))
  keys-pass = keys-good (op_count ops) (op_at ops) few low

  -- ---- their rows, and the two tables
  module _ (C S R : List ℕ) (wrote-rows : dedup_refusal (length C) (length S) (length R) keys_of ≡ accepted) where
    abbrev pub rows_written : List ℕ
    rows_written = take (3 * length (rows_of (codes keys_of))) (rows_after (length C) (length S) keys_of R)

    pub rows_are : rows_written ≡ flat (rows_of (codes (key_words (op_count ops) (op_at ops))))
    rows_are = rows_start keys_of C S R wrote-rows ∙ ap (λ (k : List ℕ). flat (rows_of (codes k))) keys-are

    pub written-balanced : (floor : ℕ) (T core : List ℕ) → is_wh_trace_refusal (length T) rows_written ≡ accepted → core_trace_refusal floor (length core) ops ≡ accepted
        → (nr : ℕ) (v : List ℕ)
        → table_share Receiver IsWh v is_wh_kind (take (is_wh_height rows_written * 4) (is_wh_trace_after rows_written T))
        ≡ table_share Sender IsWh v (core_kind nr) (take (height floor (op_count ops) * 486) (core_trace_after floor ops core))
    written-balanced floor T core wrote-table wrote-core nr v =
        let n = op_count ops in
        let op = op_at ops in
        ap (table_share Receiver IsWh v is_wh_kind) (table-start rows_written T wrote-table ∙ ap is_wh_table rows_are)
        ∙ pairs-balanced n op few low nr floor v
        ∙ sym (ap (table_share Sender IsWh v (core_kind nr)) (table-left floor ops core wrote-core))

-- ---- the counter of given values grows by how often the table sends them
pub collected-is-sent : (rows : List ℕ) → (row_count rows ≡ 0 → ⊥) → (b : Bus) (v : List ℕ) → found b v ≡ true
    → is_wh_charged rows (place_counter b v) ≡ table_share Sender b v is_wh_kind (is_wh_table rows)
unfolding is_wh_charged sending_rows shares tuple_at is_wh_table
collected-is-sent rows has b v h =
    ap (λ (t : Bool). charged (pick t 0 (is_wh_height rows)) 5 (λ r. is_wh_tuple (row_at 4 (is_wh_table rows) r)) (place_counter b v)) (ne_eqb (row_count rows) 0 has)
    ∙ charged-is-sent b v h (is_wh_height rows) 5 (λ r. is_wh_tuple (row_at 4 (is_wh_table rows) r)) (λ r i l k _. row-sound (row_at 4 (is_wh_table rows) r) i)
    ∙ ap (λ (k : ℕ). shares Sender b v k 5 (λ r. is_wh_tuple (row_at 4 (is_wh_table rows) r))) (sym (table-rows is_wh_layout (omega arith) (is_wh_height rows) _))
