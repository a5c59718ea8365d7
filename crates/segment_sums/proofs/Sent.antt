-- What `charge` adds is what both tables send, for every number of rounds: counter by counter, so that none is lost, and bus by bus.
--     sent-all                 all rows send where there is an operation, or the tables are shipped
--     both-add                 what both tables add to a counter is what is charged there
--     charged-sent             so the counter of given values grows by how often both tables send them
--     alu-found .. half-found  and what they send on the three buses is found in the bitwise table
--     bytes-sent .. alu-sent   so all counters of a bus grow by what both tables' rows send there
--     list-charged-sent, list-found   the same of a list that is charged
use mathlib.Core.Bool.{Bool, true, false, ◌&&◌}
use mathlib.Core.List.{List}
use mathlib.Core.Path.{◌≡◌, refl, sym, ap, ap₂, subst, ◌∙◌}
use Prim.Native.Nat.{ℕ, ◌+◌, ◌-◌, ◌*◌, ◌%◌, ◌^◌, ◌≤◌, ◌<◌}
use native.Mathlib.Omega.{arith}
use borrow.Author.Tests.{ne_eqb}
use lib.Dec.{eqb}
use lib.ListN.{length}
use Rattle.lists.specs.Tab.{pick, word}
use Rattle.lists.specs.Sum.{sum_below}
use Rattle.lists.proofs.Laws.{get_d-tab}
use Rattle.lists.proofs.Sum.{sum_same}
use Rattle.lists.proofs.Tests.{true-not-false}
use Rattle.lists.proofs.Then.{T_true, by_le}
use Rattle.field.specs.Elements.{ElementRow}
use Rattle.answer.specs.Refusal.{accepted, PowerFloor}
use Rattle.fips202.specs.Lanes.{Lanes}
use Rattle.tuple.specs.declared.Bus.{Bus}
use Rattle.tuple.specs.declared.Bus.TheVariants.{ByteAlu, AreBytes, IsHalfword}
use Rattle.tuple.specs.declared.Side.TheVariants.{Sender}
use Rattle.bitwise.specs.Columns.{NUM-COUNTERS}
use Rattle.bitwise.specs.Charge.{found, place_counter, charged_row, charged, charged_kind}
use Rattle.bitwise.proofs.Found.{alu-decides, bytes_decides, half-decides}
use Rattle.matching.specs.Matching.{FoundOn}
use Rattle.keccak.specs.Height.{height}
use Rattle.keccak.specs.Row.{OP-WORDS, LAST-ADDRESS, op_at, core_row_at, core_table}
use Rattle.keccak.specs.Refusals.{Acceptable, op_count}
use Rattle.keccak.specs.Tuples.{core_tuple, core_table_sum}
use Rattle.keccak.specs.declared.KeccakOperation.{KeccakOperation}
use Rattle.keccak.proofs.Height.{height-ge}
use Rattle.keccak.proofs.Sums.{core_share}
use Rattle.keccak.proofs.Table as core
use Rattle.keccak_rnd.specs.Row.{round_row_at, round_table, round_height}
use Rattle.keccak_rnd.specs.Tuples.{round_tuple, round_table_sum}
use Rattle.keccak_rnd.proofs.Sums.{round_share}
use Rattle.keccak_rnd.proofs.Table as round
use Rattle.segment_counts.specs.Segment.{sent_rows, segment_charged, list_charged, charge_refusal}
use Rattle.segment_counts.specs.Sums.{kind_sum}
use Rattle.segment_counts.proofs.Accepted.{charge-accepted}
use Rattle.segment_counts.proofs.Sums.{kind-sums-at}
use Rattle.verdict.specs.Kind.{rows, Lookups}
use Rattle.verdict.specs.CoreAndRound.{core_layout, round_layout, core_kind, round_kind}
use Rattle.verdict.proofs.Honest.{core-passes, round-passes}
use Rattle.verdict.proofs.Tables.{table-rows}
use Rattle.bus_sums.specs.Sums.{tuple_at, table_share}
use Rattle.bus_sums.proofs.Filling.{table-found}
use Rattle.is_wh_sums.proofs.Charge.{charged-is-sent}
use Rattle.segment_sums.proofs.Counters.{adds, lookups-sound}

pub sent-all : (shipped : Bool) (n h : ℕ) → (n ≡ 0 → shipped ≡ true) → sent_rows shipped n h ≡ h
unfolding sent_rows
sent-all true n h e = go (eqb n 0)
  where
    go : (t : Bool) → pick (t && false) 0 h ≡ h
    go true = refl
    go false = refl
sent-all false n h e = ap (λ (t : Bool). pick (t && true) 0 h) (ne_eqb n 0 (λ z. true-not-false (sym (e z))))

module _ (nr floor n : ℕ) (op : ℕ → KeccakOperation) where
  abbrev core-table : List ℕ
  core-table = core_table floor n op

  abbrev round-table : List ℕ
  round-table = round_table nr floor n op

  pub core-height : rows core_layout core-table ≡ height floor n
  unfolding core_table
  core-height = table-rows core_layout (omega arith) (height floor n) (core_row_at n op)

  pub round-height : rows round_layout round-table ≡ round_height nr floor n
  unfolding round_table
  round-height = table-rows round_layout (omega arith) (round_height nr floor n) (round_row_at nr n op)

  -- ---- what is added, where all rows send
  module _ (shipped : Bool) (all-send : n ≡ 0 → shipped ≡ true) (c : ℕ) where
    core-adds : adds (core_kind nr) core-table c ≡ charged (sent_rows shipped n (height floor n)) 84 (λ r. core_tuple nr 0 (core_row_at n op r)) c
    unfolding charged tuple_at
    core-adds =
        ap (λ (k : ℕ). sum_below k (λ r. charged_row 84 (tuple_at (core_kind nr) core-table r) c)) core-height
        ∙ sum_same (height floor n) (λ r. charged_row 84 (tuple_at (core_kind nr) core-table r) c) (λ r. charged_row 84 (core_tuple nr 0 (core_row_at n op r)) c)
        (λ r l. ap (λ (x : List ℕ). charged_row 84 (core_tuple nr 0 x) c) (core.core-table-row n op floor r l))
        ∙ ap (λ (k : ℕ). sum_below k (λ r. charged_row 84 (core_tuple nr 0 (core_row_at n op r)) c)) (sym (sent-all shipped n (height floor n) all-send))

    round-adds : adds round_kind round-table c ≡ charged (sent_rows shipped n (round_height nr floor n)) 1031 (λ q. round_tuple (round_row_at nr n op q)) c
    unfolding charged tuple_at
    round-adds =
        ap (λ (k : ℕ). sum_below k (λ q. charged_row 1031 (tuple_at round_kind round-table q) c)) round-height
        ∙ sum_same (round_height nr floor n) (λ q. charged_row 1031 (tuple_at round_kind round-table q) c) (λ q. charged_row 1031 (round_tuple (round_row_at nr n op q)) c)
        (λ q l. ap (λ (x : List ℕ). charged_row 1031 (round_tuple x) c) (round.round-table-row nr n op floor q l))
        ∙ ap (λ (k : ℕ). sum_below k (λ q. charged_row 1031 (round_tuple (round_row_at nr n op q)) c)) (sym (sent-all shipped n (round_height nr floor n) all-send))

    pub both-add : adds (core_kind nr) core-table c + adds round_kind round-table c ≡ segment_charged nr floor shipped n op c
    unfolding segment_charged
    both-add = ap₂ ◌+◌ core-adds round-adds

  -- ---- counter by counter, whatever the outputs are
  module _ (most : nr ≤ 24) (stamps : (i : ℕ) → i < n → (op i).timestamp < 2 ^ 64) (low : (i : ℕ) → i < n → (op i).state_addr ≤ LAST-ADDRESS)
      (aligned : (i : ℕ) → i < n → (op i).state_addr % 8 ≡ 0) (lanes : (i : ℕ) → i < n → Lanes (op i).input) where
    core-looks : Lookups (core_kind nr) core-table
    core-looks = (core-passes floor n op stamps nr low aligned).lookups

    round-looks : Lookups round_kind round-table
    round-looks = (round-passes floor n op stamps nr most lanes).lookups

    -- how often both tables send v on b
    abbrev pub sent_by : Bus → List ℕ → ℕ
    sent_by b v = table_share Sender b v (core_kind nr) core-table + table_share Sender b v round_kind round-table

    pub charged-sent : (shipped : Bool) → (n ≡ 0 → shipped ≡ true) → (b : Bus) (v : List ℕ) → found b v ≡ true → segment_charged nr floor shipped n op (place_counter b v) ≡ sent_by b v
    charged-sent shipped all-send b v h =
        sym (both-add shipped all-send (place_counter b v))
        ∙ ap₂ ◌+◌ (charged-is-sent b v h (rows core_layout core-table) 84 (tuple_at (core_kind nr) core-table) (lookups-sound (core_kind nr) core-table core-looks))
        (charged-is-sent b v h (rows round_layout round-table) 1031 (tuple_at round_kind round-table) (lookups-sound round_kind round-table round-looks))

    -- what is sent is found
    seen : (b : Bus) (v : List ℕ) → 1 ≤ sent_by b v → FoundOn b v
    seen b v l =
        by_le 1 (table_share Sender b v (core_kind nr) core-table)
        (λ k. table-found (core_kind nr) core-table b (λ r i lr li e. core-looks r i lr li) v k)
        (λ k. table-found round_kind round-table b (λ r i lr li e. round-looks r i lr li) v (omega arith))

    pub alu-found : (v : List ℕ) → 1 ≤ sent_by ByteAlu v → found ByteAlu v ≡ true
    unfolding FoundOn found
    alu-found v l = T_true _ ((alu-decides v).from (seen ByteAlu v l))

    pub bytes-found : (v : List ℕ) → 1 ≤ sent_by AreBytes v → found AreBytes v ≡ true
    unfolding FoundOn found
    bytes-found v l = T_true _ ((bytes_decides v).from (seen AreBytes v l))

    pub half-found : (v : List ℕ) → 1 ≤ sent_by IsHalfword v → found IsHalfword v ≡ true
    unfolding FoundOn found
    half-found v l = T_true _ ((half-decides v).from (seen IsHalfword v l))

-- ---- bus by bus
-- 220 of every row, of m active ones among h
by_rows : (n m h : ℕ) → m ≤ h → 4 * n + 220 * h ≡ n * 4 + (m * 220 + (h - m) * 220)
by_rows n m h l = omega arith

by-halves : (n m h : ℕ) → 25 * n ≡ n * 25 + (m * 0 + (h - m) * 0)
by-halves n m h = omega arith

by-alu : {x y z : ℕ} (n m h : ℕ) → x ≡ n + 200 * m → y ≡ 0 → z ≡ 608 * m → x + y + z ≡ n * 1 + (m * 808 + (h - m) * 0)
by-alu n m h a b c = omega (arith, a, b, c)

module _ (nr floor : ℕ) (shipped : Bool) (syscall n : ℕ) (op : ℕ → KeccakOperation) (most : nr ≤ 24) (lanes : (i : ℕ) → i < n → Lanes (op i).input)
    (all-send : n ≡ 0 → shipped ≡ true) where
  abbrev rows_send : Bus → ℕ
  rows_send b = core_table_sum Sender b nr syscall floor n op + round_table_sum Sender b nr floor n op

  by-shares : (b : Bus) → n * core_share Sender b 1 + (n * nr * round_share Sender b 1 + (round_height nr floor n - n * nr) * round_share Sender b 0) ≡ rows_send b
  by-shares b = sym (ap₂ ◌+◌ (core.table-sum n op Sender b nr syscall floor) (round.table-sum nr n op Sender b floor))

  abbrev sum : ℕ → ℕ
  sum k = charged_kind (segment_charged nr floor shipped n op) k

  by_kind : (k : ℕ) → k < 10 → sum k ≡ kind_sum nr floor shipped n k
  by_kind = kind-sums-at shipped n op lanes nr floor most

  pub bytes-sent : sum 3 ≡ rows_send AreBytes
  unfolding kind_sum
  bytes-sent =
      by_kind 3 (omega arith)
      ∙ ap (λ (h : ℕ). 4 * n + 220 * h) (sent-all shipped n (round_height nr floor n) all-send)
      ∙ by_rows n (n * nr) (round_height nr floor n) (height-ge floor (n * nr))
      ∙ by-shares AreBytes

  pub halves-sent : sum 4 ≡ rows_send IsHalfword
  unfolding kind_sum
  halves-sent = by_kind 4 (omega arith) ∙ by-halves n (n * nr) (round_height nr floor n) ∙ by-shares IsHalfword

  pub alu-sent : sum 7 + sum 8 + sum 9 ≡ rows_send ByteAlu
  unfolding kind_sum
  alu-sent = by-alu n (n * nr) (round_height nr floor n) (by_kind 7 (omega arith)) (by_kind 8 (omega arith)) (by_kind 9 (omega arith)) ∙ by-shares ByteAlu

-- ---- of a list that is charged, of words as they are lent
module _ (nr floor : ℕ) (ops counters : List ℕ) (taken : charge_refusal nr floor ops counters ≡ accepted) (lent : (k : ℕ) → word ops k < 2 ^ 64) where
  known : (1 ≤ nr) × (nr ≤ 24) × PowerFloor floor × Acceptable (length counters) NUM-COUNTERS ops × ElementRow NUM-COUNTERS counters
  known = (charge-accepted nr floor ops counters).0 taken

  list-stamps : (i : ℕ) → i < op_count ops → (op_at ops i).timestamp < 2 ^ 64
  unfolding op_at
  list-stamps i l = lent (OP-WORDS * i)

  list-lanes : (i : ℕ) → i < op_count ops → Lanes (op_at ops i).input
  unfolding op_at
  list-lanes i l j h = subst (λ (w : ℕ). w < 2 ^ 64) (sym (get_d-tab 25 (λ k. word ops (OP-WORDS * i + 2 + k)) j 0 h)) (lent (OP-WORDS * i + 2 + j))

  -- how often both tables, as they are written, send v on b
  abbrev pub list_sent : Bus → List ℕ → ℕ
  list_sent b v = table_share Sender b v (core_kind nr) (core_table floor (op_count ops) (op_at ops)) + table_share Sender b v round_kind (round_table nr floor (op_count ops) (op_at ops))

  pub list-charged-sent : (shipped : Bool) → (op_count ops ≡ 0 → shipped ≡ true) → (b : Bus) (v : List ℕ) → found b v ≡ true → list_charged nr floor shipped ops (place_counter b v) ≡ list_sent b v
  list-charged-sent = charged-sent nr floor (op_count ops) (op_at ops) known.1 list-stamps known.3.low known.3.aligned list-lanes

  pub list-found : (v : List ℕ) → (1 ≤ list_sent ByteAlu v → found ByteAlu v ≡ true) × (1 ≤ list_sent AreBytes v → found AreBytes v ≡ true) × (1 ≤ list_sent IsHalfword v → found IsHalfword v ≡ true)
  list-found v = (
    alu-found nr floor (op_count ops) (op_at ops) known.1 list-stamps known.3.low known.3.aligned list-lanes v,
    bytes-found nr floor (op_count ops) (op_at ops) known.1 list-stamps known.3.low known.3.aligned list-lanes v,
    half-found nr floor (op_count ops) (op_at ops) known.1 list-stamps known.3.low known.3.aligned list-lanes v,
  )
