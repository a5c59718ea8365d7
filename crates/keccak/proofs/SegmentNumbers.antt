-- Rows, tables and keys of a list do not depend on its segment numbers, and where every number fits no refusal does.
--     free              the one law: whatever is made of operations and is the same where each has segment number 0, is the same of two
--                       lists that differ in segment numbers only
--     row-free, rows-free, table-free, keys-free   of the core table
--     list-free, refusal-free   the checks of a call
--     row-call-free, rows-call-free, trace-call-free, keys-call-free   what each call of the core table refuses and leaves
use mathlib.Core.Path.{◌≡◌, refl, sym, ap, ◌∙◌}
use mathlib.Core.Bool.{not}
use mathlib.Core.List.{List}
use mathlib.Core.Option.{Option}
use Prim.Native.Nat.{ℕ, ◌+◌, ◌*◌, ◌/◌, ◌%◌, ◌≤◌, ◌<◌}
use native.Mathlib.Nat.{add-zero}
use native.Mathlib.Omega.{arith}
use lib.Dec.{eqb, ltb}
use lib.ListN.{length}
use Rattle.lists.specs.First.{first_at}
use Rattle.lists.specs.Tab.{word}
use Rattle.lists.proofs.Laws.{tab-same}
use Rattle.answer.specs.Refusal.{refuse_if, refuse_at, accepted, past_end, over_limit, too_short, not_floor, overwrite, afterwards}
use Rattle.answer.specs.declared.Refusal.{Refusal}
use Rattle.answer.specs.declared.Refusal.TheVariants.{NotWhole, HighAddress, Unaligned}
use Rattle.answer.proofs.Laws.{at-no}
use Rattle.keccak.specs.Columns.{NUM-COLUMNS}
use Rattle.keccak.specs.Height.{height}
use Rattle.keccak.specs.Row.{OP-WORDS, LAST-ADDRESS, op_at, core_groups, core_row, core_row_at, core_table, core_rows, is-wh-keys, key_words, KEY-WORDS}
use Rattle.keccak.specs.Refusals.{op_count, address_at, high_at, unaligned_at, not_whole, bad_address, bad_operation, operations_refusal}
use Rattle.keccak.specs.Refusals.{core_row_refusal, core_trace_refusal, core_rows_refusal, keys_refusal}
use Rattle.keccak.specs.SegmentNumbers.{ButSegments, ShortSegments}
use Rattle.keccak.specs.Calls.{core_row_after, core_trace_after, core_rows_after, keys_after}
use Rattle.keccak.specs.declared.KeccakOperation.{KeccakOperation}
use Rattle.keccak.proofs.Refusals.{none-wide}

-- an operation as if of segment 0
abbrev pub plain : KeccakOperation → KeccakOperation
plain o = record { timestamp = o.timestamp; state_addr = o.state_addr; input = o.input; output = o.output; segment = 0 }

-- a call whose checks find the same and that writes the same leaves the same
pub call-free : {x y : Option Refusal} {m n : List ℕ} (old : List ℕ) → x ≡ y → m ≡ n
    → (x ≡ y) × (afterwards x (overwrite m old) old ≡ afterwards y (overwrite n old) old)
call-free old e q = (e, λ t. afterwards (e t) (overwrite (q t) old) old)

module _ (a b : List ℕ) (but : ButSegments a b) where
  count_same : op_count a ≡ op_count b
  count_same = ap (λ (n : ℕ). n / OP-WORDS) but.long

  timestamp-same : (i : ℕ) → (op_at a i).timestamp ≡ (op_at b i).timestamp
  unfolding op_at
  timestamp-same i = rw add-zero at (but.words i 0 (omega arith))

  address_same : (i : ℕ) → address_at a i ≡ address_at b i
  unfolding op_at
  address_same i = but.words i 1 (omega arith)

  lanes-same : (f : ℕ) → f ≤ 27 → (i : ℕ) → (k : ℕ) → k < 25 → word a (OP-WORDS * i + f + k) ≡ word b (OP-WORDS * i + f + k)
  lanes-same f h i k l = let e : OP-WORDS * i + f + k ≡ OP-WORDS * i + (f + k) = omega arith in rw e (but.words i (f + k) (omega arith))

  op-plain : (i : ℕ) → plain (op_at a i) ≡ plain (op_at b i)
  unfolding op_at
  op-plain i =
      λ t. record {
        timestamp = timestamp-same i t;
        state_addr = address_same i t;
        input = tab-same 25 _ _ (lanes-same 2 (omega arith) i) t;
        output = tab-same 25 _ _ (lanes-same 27 (omega arith) i) t;
        segment = 0;
      }

  pub free : {A : Type 0} (f : ℕ → (ℕ → KeccakOperation) → A) → ((n : ℕ) (op : ℕ → KeccakOperation) → f n op ≡ f n (λ i. plain (op i)))
      → f (op_count a) (op_at a) ≡ f (op_count b) (op_at b)
  free f e = e (op_count a) (op_at a) ∙ (λ t. f (count_same t) (λ i. op-plain i t)) ∙ sym (e (op_count b) (op_at b))

  -- ---- what is written
  pub row-free : (i : ℕ) → core_row (op_at a i) ≡ core_row (op_at b i)
  unfolding core_row core_groups
  row-free i = free (λ n op. core_row (op i)) (λ n op. refl)

  pub rows-free : core_rows (op_count a) (op_at a) ≡ core_rows (op_count b) (op_at b)
  unfolding core_rows core_row core_groups
  rows-free = free core_rows (λ n op. refl)

  pub table-free : (floor : ℕ) → core_table floor (op_count a) (op_at a) ≡ core_table floor (op_count b) (op_at b)
  unfolding core_table core_row_at core_row core_groups
  table-free floor = free (core_table floor) (λ n op. refl)

  pub keys-free : key_words (op_count a) (op_at a) ≡ key_words (op_count b) (op_at b)
  unfolding key_words is-wh-keys
  keys-free = free key_words (λ n op. refl)

  -- ---- what is refused, where no segment number is
  addresses-free : (later : Option Refusal) → bad_address a later ≡ bad_address b later
  unfolding high_at unaligned_at
  addresses-free later =
      λ t. refuse_at (first_at (λ i. ltb LAST-ADDRESS (address_same i t)) (count_same t)) (λ i. HighAddress (address_same i t))
      (refuse_at (first_at (λ i. not (eqb (address_same i t % 8) 0)) (count_same t)) (λ i. Unaligned (address_same i t)) later)

  module _ (short-a : ShortSegments a) (short-b : ShortSegments b) where
    each_free : (later : Option Refusal) → bad_operation a later ≡ bad_operation b later
    each_free later = alone a short-a ∙ addresses-free later ∙ sym (alone b short-b)
      where
        alone : (ops : List ℕ) → ShortSegments ops → bad_operation ops later ≡ bad_address ops later
        alone ops short = ap (bad_address ops) (at-no _ (none-wide ops (op_count ops) short) refl)

    -- a call's checks, whichever it makes before the list's length and between that and the operations
    pub list-free : (before rooms : ℕ → Option Refusal → Option Refusal) (later : Option Refusal)
        → before (op_count a) (not_whole a (rooms (op_count a) (bad_operation a later))) ≡ before (op_count b) (not_whole b (rooms (op_count b) (bad_operation b later)))
    list-free before rooms later =
        λ t. before (count_same t) (refuse_if (not (eqb (but.long t % OP-WORDS) 0)) (NotWhole 2) (rooms (count_same t) (each_free later t)))

    pub refusal-free : (room : ℕ) (needed : ℕ → ℕ) → operations_refusal room (needed (op_count a)) a ≡ operations_refusal room (needed (op_count b)) b
    unfolding operations_refusal
    refusal-free room needed = list-free over_limit (λ n. too_short room (needed n)) accepted

    -- ---- the calls: what each refuses, and what it leaves
    pub row-call-free : (index : ℕ) (row : List ℕ)
        → (core_row_refusal (length row) a index ≡ core_row_refusal (length row) b index) × (core_row_after a index row ≡ core_row_after b index row)
    unfolding core_row_refusal
    row-call-free index row =
        call-free row (list-free (λ n later. over_limit n (past_end n index later)) (λ n. too_short (length row) NUM-COLUMNS) accepted) (row-free index)

    pub rows-call-free : (table : List ℕ)
        → (core_rows_refusal (length table) a ≡ core_rows_refusal (length table) b) × (core_rows_after a table ≡ core_rows_after b table)
    unfolding core_rows_refusal
    rows-call-free table = call-free table (refusal-free (length table) (λ n. n * NUM-COLUMNS)) rows-free

    pub trace-call-free : (floor : ℕ) (table : List ℕ)
        → (core_trace_refusal floor (length table) a ≡ core_trace_refusal floor (length table) b) × (core_trace_after floor a table ≡ core_trace_after floor b table)
    unfolding core_trace_refusal
    trace-call-free floor table =
        call-free table (ap (not_floor floor) (refusal-free (length table) (λ n. height floor n * NUM-COLUMNS))) (table-free floor)

    pub keys-call-free : (out : List ℕ) → (keys_refusal (length out) a ≡ keys_refusal (length out) b) × (keys_after a out ≡ keys_after b out)
    unfolding keys_refusal
    keys-call-free out = call-free out (refusal-free (length out) (λ n. n * KEY-WORDS)) keys-free
