-- Without any one of the 929 needed rules demand 3 would be false: two tables that deceive.
use mathlib.Core.Path.{◌≡◌, refl, sym, ap, ap₂, subst, ◌∙◌}
use mathlib.Core.Bool.{Bool, true, false, ◌&&◌}
use mathlib.Core.List.{List}
use Prim.Native.Nat.{ℕ, zero, suc, ◌+◌, ◌-◌, ◌%◌, ◌^◌, ◌≤◌, ◌<◌}
use native.Mathlib.Omega.{arith}
use lib.Dec.{eqb}
use lib.ListN.{length}
use Rattle.lists.specs.Tab.{pick, word, followed_by}
use Rattle.lists.specs.First.{count_below}
use Rattle.lists.specs.Select.{words_test}
use Rattle.lists.proofs.Count.{count_same}
use Rattle.lists.proofs.Laws.{length-tab, row_at-table}
use Rattle.lists.proofs.Then.{by_le, then-lt, then-ge}
use Rattle.field.specs.Field.{p, fadd}
use Rattle.bits.specs.Bits.{word_at, byte_at}
use Rattle.fips202.specs.Lanes.{lane, Lanes, rnd_l, rounds_l}
use Rattle.fips202.proofs.Steps.{length-grid}
use Rattle.fips202.proofs.Rounds.{rounds-lanes, length-rounds}
use Rattle.tuple.specs.declared.Side.{Side}
use Rattle.tuple.specs.declared.Side.TheVariants.{Sender, Receiver}
use Rattle.keccak.specs.Columns.{INPUT-STATE, OUTPUT-STATE}
use Rattle.keccak.specs.Row.{core_row, core_row_at, core_table, LAST-ADDRESS}
use Rattle.keccak.specs.Height.{height, next-power-of-two, doubled}
use Rattle.keccak.specs.Tuples.{keccak_values, core_sent, core_received, core_tuple}
use Rattle.keccak.specs.declared.KeccakOperation.{KeccakOperation}
use Rattle.keccak.proofs.Cells.{read-t0, read-t1, read-input, read-output, read-mu, low_word, high_word}
use Rattle.keccak.proofs.Reading.{keccak-same}
use Rattle.keccak_rnd.specs.Columns.{MU}
use Rattle.keccak_rnd.specs.Row.{round_row}
use Rattle.keccak_rnd.specs.Tuples.{out_lanes, round_received, round_sent, round_tuple}
use Rattle.keccak_rnd.proofs.Cells as written
use Rattle.keccak_rnd.proofs.Completeness.{round-written, round-words}
use Rattle.keccak_rnd.proofs.Step.{out-byte}
use Rattle.keccak_rnd_needed.specs.Needed.{needed, PassesBut}
use Rattle.keccak_rnd_needed.specs.Bent.{bent_row}
use Rattle.keccak_rnd_needed.proofs.Cells as bent
use Rattle.keccak_rnd_needed.proofs.Passing.{bent-passes}
use Rattle.keccak_rnd_needed.proofs.Falsity.{sent-byte, sent-lanes}
use Rattle.keccak_rnd_needed.proofs.Needed.{sends-false}
use Rattle.bus.specs.Bus.{rounds_from}
use Rattle.verdict.specs.Kind.{rows, row, is_active, active_tuples, Active, Balanced}
use Rattle.verdict.specs.CoreAndRound.{core_layout, round_layout, core_kind, round_kind}
use Rattle.verdict.specs.Claims.{Computed, SupposedAt, Answers}
use Rattle.verdict.specs.Honest.{flat_state}
use Rattle.verdict.proofs.Bytes.{bytes_of, columns, spread_same, lanes_of, lanes_bytes}
use Rattle.verdict.proofs.Rounds.{turn, walk-bytes, computed-right}
use Rattle.verdict.proofs.Honest.{table-supposed, row_made, made-active, flat-lanes}
use Rattle.verdict.proofs.Demand3.{demand3-at}
use Rattle.verdict.proofs.Tables.{table-rows, table-whole}
use Rattle.verdict.proofs.Tuples.{place, active_tuple_at, active-tuples-count, core-bus, round-bus}
use Rattle.needed_verdict.specs.NeededTables.{TableBut, Deceives, before, last_row, false_row, false_round, false_operation, false_core}

flat-size : length (flat_state 0) ≡ 25
unfolding flat_state
flat-size = length-tab 25 (λ k. 0)

-- ---- a chain of messages: what is sent and what is received differ only at its ends
hop : (f : ℕ → Bool) (n : ℕ) → pick {A = ℕ} (f 0) 1 0 + count_below (λ q. f (suc q)) n ≡ pick {A = ℕ} (f n) 1 0 + count_below f n
unfolding count_below
hop f zero = refl
hop f (suc n) = step (f (suc n)) (f n) (count_below (λ q. f (suc q)) n) (count_below f n) (pick (f 0) 1 0) (hop f n)
  where
    step : (a b : Bool) (m n i : ℕ) → i + m ≡ pick {A = ℕ} b 1 0 + n → i + pick a (m + 1) m ≡ pick {A = ℕ} a 1 0 + pick b (n + 1) n
    step true true m n i e = omega arith
    step true false m n i e = omega arith
    step false true m n i e = omega arith
    step false false m n i e = omega arith

-- ---- the Keccak tuples of a row, by its states
abbrev message : (ℕ → ℕ) → ℕ → List ℕ → List ℕ
message stamp r s = keccak_values (stamp 0) (stamp 1) r (λ x y b. byte_at (lane s x y) b)

next-round : (m r : ℕ) → m ≡ r → r < 24 → fadd m 1 ≡ r + 1
next-round m r e l = omega arith

module _ (stamp : ℕ → ℕ) (r : ℕ) (s : List ℕ) where
  written-received : round_received (round_row stamp r s) ≡ message stamp r s
  unfolding round_received
  written-received = keccak-same _ _ (written.read-t0 stamp r s) (written.read-t1 stamp r s) (written.read-round stamp r s) (written.read-start stamp r s)

  bent-received : (j : ℕ) → round_received (bent_row j stamp r s) ≡ message stamp r s
  unfolding round_received
  bent-received j = keccak-same _ _ (bent.read-t0 j stamp r s) (bent.read-t1 j stamp r s) (bent.read-round j stamp r s) (bent.read-start j stamp r s)

  module _ (hs : Lanes s) (hr : r < 24) where
    written-sent : round_sent (round_row stamp r s) ≡ message stamp (r + 1) (rnd_l s r)
    unfolding round_sent
    written-sent =
        keccak-same _ _ (written.read-t0 stamp r s) (written.read-t1 stamp r s) (next-round _ r (written.read-round stamp r s) hr)
        (out-byte (round_row stamp r s) r s hs (written.written-cells stamp r s) hr)

    bent-sent : (j : ℕ) → round_sent (bent_row j stamp r s) ≡ message stamp (r + 1) (out_lanes (bent_row j stamp r s))
    unfolding round_sent
    bent-sent j =
        keccak-same _ _ (bent.read-t0 j stamp r s) (bent.read-t1 j stamp r s) (next-round _ r (bent.read-round j stamp r s) hr) (sent-byte j stamp r s hs hr)

round-values : (y : List ℕ) → ((round_tuple y 0).values ≡ round_received y) × ((round_tuple y 1).values ≡ round_sent y)
unfolding round_tuple followed_by
round-values y = (refl, refl)

core-values : (nr : ℕ) (y : List ℕ) → ((core_tuple nr 0 y 2).values ≡ core_sent nr y) × ((core_tuple nr 0 y 3).values ≡ core_received y)
unfolding core_tuple followed_by
core-values nr y = (refl, refl)

-- a row that is written passes all rules, so all but j
written-but : (j : ℕ) (stamp : ℕ → ℕ) (r : ℕ) (s : List ℕ) → Lanes s → r < 32 → stamp 0 < p → stamp 1 < p → PassesBut j (round_row stamp r s)
written-but j stamp r s hs hr h0 h1 =
    let ok = round-written stamp r s hs hr in
    record {
      size = written.length-round stamp r s;
      below = round-words stamp r s h0 h1 hr hs;
      on = written.read-mu stamp r s;
      values = λ i l _. ok.values i l;
      lookups = λ i l _. ok.lookups i l;
    }

module _ (j k t a : ℕ) (s : List ℕ) (hk : k < 24) (ht : t < 2 ^ 64) (hs : Lanes s) (size : length s ≡ 25) where
  abbrev core : List ℕ
  core = false_core j k t a s

  abbrev round : List ℕ
  round = false_round j k t s

  abbrev o : KeccakOperation
  o = false_operation j k t a s

  abbrev sent-last : List ℕ
  sent-last = out_lanes (last_row j k t s)

  before-lanes : (q : ℕ) → q ≤ k → Lanes (before k s q)
  unfolding before
  before-lanes q l = rounds-lanes (24 - suc k) q (omega arith) s hs

  before-next : (q : ℕ) → before k s (suc q) ≡ rnd_l (before k s q) (24 - suc k + q)
  unfolding before rounds_l
  before-next q = refl

  -- ---- the rows of the round table
  rows_are : rows round_layout round ≡ suc k
  unfolding false_round
  rows_are = table-rows round_layout (omega arith) (suc k) (false_row j k t s)

  row-early : (q : ℕ) → q < k → false_row j k t s q ≡ round_row (word_at t) (23 - k + q) (before k s q)
  unfolding false_row
  row-early q l = then-lt k q _ _ l

  row_last : false_row j k t s k ≡ last_row j k t s
  unfolding false_row
  row_last = subst (λ (n : ℕ). followed_by k (λ q. round_row (word_at t) (23 - k + q) (before k s q)) (λ q. last_row j k t s) n ≡ last_row j k t s) (zero_more k) (then-ge k 0 _ _)
    where
      zero_more : (k : ℕ) → k + 0 ≡ k
      zero_more k = omega arith

  each_row : (P : List ℕ → Type 0) → ((q : ℕ) → q < k → P (round_row (word_at t) (23 - k + q) (before k s q))) → P (last_row j k t s) → (q : ℕ) → q < suc k → P (false_row j k t s q)
  each_row P f g q l =
      by_le k q
      (λ m. let e : k ≡ q = omega arith in subst (λ (n : ℕ). P (false_row j k t s n)) e (subst P (sym row_last) g))
      (λ m. subst P (sym (row-early q m)) (f q m))

  row-passes : (q : ℕ) → q < suc k → PassesBut j (false_row j k t s q)
  row-passes =
      each_row (PassesBut j) (λ q l. written-but j (word_at t) (23 - k + q) (before k s q) (before-lanes q (omega arith)) (omega arith) (low_word t) (high_word t ht))
      (bent-passes j (word_at t) 23 (before k s k) (before-lanes k (omega arith)) (omega arith) (low_word t) (high_word t ht))

  row_is : (q : ℕ) → q < suc k → row round_layout round q ≡ false_row j k t s q
  unfolding false_round
  row_is q l = row_at-table (suc k) 1480 (false_row j k t s) q l (row-passes q l).size

  round_whole : length round % 1480 ≡ 0
  unfolding false_round
  round_whole = table-whole round_layout (omega arith) (suc k) (false_row j k t s)

  passes-but : TableBut j round
  passes-but =
      record {
        whole = round_whole;
        each = λ q l. let g : q < suc k = omega (arith, rows_are) in subst (PassesBut j) (sym (row_is q g)) (row-passes q g);
      }

  -- ---- the messages: what row q receives is message q, and what it sends message q + 1
  M : ℕ → List ℕ
  M = followed_by (suc k) (λ q. message (word_at t) (23 - k + q) (before k s q)) (λ q. message (word_at t) 24 sent-last)

  m-early : (q : ℕ) → q < suc k → M q ≡ message (word_at t) (23 - k + q) (before k s q)
  unfolding M
  m-early q l = then-lt (suc k) q _ _ l

  m-last : M (suc k) ≡ message (word_at t) 24 sent-last
  unfolding M
  m-last = subst (λ (n : ℕ). M n ≡ message (word_at t) 24 sent-last) (zero_more (suc k)) (then-ge (suc k) 0 _ _)
    where
      zero_more : (k : ℕ) → k + 0 ≡ k
      zero_more k = omega arith

  last-received : round_received (false_row j k t s k) ≡ M k
  last-received =
      let e : 23 - k + k ≡ 23 = omega arith in
      ap round_received row_last ∙ bent-received (word_at t) 23 (before k s k) j ∙ sym (m-early k (omega arith) ∙ ap (λ (n : ℕ). message (word_at t) n (before k s k)) e)

  last-sent : round_sent (false_row j k t s k) ≡ M (suc k)
  last-sent = ap round_sent row_last ∙ bent-sent (word_at t) 23 (before k s k) (before-lanes k (omega arith)) (omega arith) j ∙ sym m-last

  row-received : (q : ℕ) → q < suc k → round_received (false_row j k t s q) ≡ M q
  row-received q l =
      by_le k q
      (λ m. let e : k ≡ q = omega arith in subst (λ (n : ℕ). round_received (false_row j k t s n) ≡ M n) e last-received)
      (λ m. ap round_received (row-early q m) ∙ written-received (word_at t) (23 - k + q) (before k s q) ∙ sym (m-early q l))

  row-sent : (q : ℕ) → q < suc k → round_sent (false_row j k t s q) ≡ M (suc q)
  row-sent q l =
      by_le k q
      (λ m. let e : k ≡ q = omega arith in subst (λ (n : ℕ). round_sent (false_row j k t s n) ≡ M (suc n)) e last-sent)
      (λ m.
      let e : 24 - suc k + q ≡ 23 - k + q = omega arith in
      let f : 23 - k + suc q ≡ 23 - k + q + 1 = omega arith in
      ap round_sent (row-early q m) ∙ written-sent (word_at t) (23 - k + q) (before k s q) (before-lanes q (omega arith)) (omega arith)
      ∙ sym (m-early (suc q) (omega arith) ∙ ap₂ (message (word_at t)) f (before-next q ∙ ap (rnd_l (before k s q)) e)))

  -- ---- the counts
  round-counted : (side : Side) (at : ℕ → List ℕ) → ((q : ℕ) → q < suc k → (round_tuple (false_row j k t s q) (place round-bus side)).values ≡ at q) → (v : List ℕ)
      → active_tuples round_kind side round v ≡ count_below (λ q. words_test v (at q)) (suc k)
  unfolding active_tuple_at is_active
  round-counted side at e v =
      active-tuples-count round-bus side round v
      ∙ ap (count_below (active_tuple_at round_kind (place round-bus side) round v)) rows_are
      ∙ count_same (active_tuple_at round_kind (place round-bus side) round v) (λ q. words_test v (at q)) (suc k) (λ q l.
      ap (λ (y : List ℕ). eqb (word y MU) 1 && words_test v (round_tuple y (place round-bus side)).values) (row_is q l)
      ∙ ap₂ (λ (n : ℕ) (u : List ℕ). eqb n 1 && words_test v u) (row-passes q l).on (e q l))

  core-rows : rows core_layout core ≡ 1
  unfolding false_core core_table height next-power-of-two doubled
  core-rows = table-rows core_layout (omega arith) 1 (core_row_at 1 (λ i. o))

  core-row : row core_layout core 0 ≡ core_row o
  unfolding false_core
  core-row = row_made 1 1 (λ i. o) 0 (omega arith)

  core-counted : (side : Side) (v w : List ℕ) → (core_tuple (suc k) 0 (core_row o) (place (core-bus (suc k)) side)).values ≡ w → active_tuples (core_kind (suc k)) side core v ≡ pick (words_test v w) 1 0
  unfolding active_tuple_at count_below is_active
  core-counted side v w e =
      active-tuples-count (core-bus (suc k)) side core v
      ∙ ap (count_below (active_tuple_at (core_kind (suc k)) (place (core-bus (suc k)) side) core v)) core-rows
      ∙ ap (λ (y : List ℕ). pick {A = ℕ} (eqb (word y 485) 1 && words_test v (core_tuple (suc k) 0 y (place (core-bus (suc k)) side)).values) 1 0) core-row
      ∙ ap₂ (λ (n : ℕ) (u : List ℕ). pick {A = ℕ} (eqb n 1 && words_test v u) 1 0) (read-mu o) e

  core-first : core_sent (suc k) (core_row o) ≡ M 0
  unfolding core_sent before rounds_l
  core-first =
      let e : 24 - suc k ≡ 23 - k + 0 = omega arith in
      keccak-same _ _ (read-t0 o) (read-t1 o) e (read-input o) ∙ sym (m-early 0 (omega arith))

  core-last : core_received (core_row o) ≡ M (suc k)
  unfolding core_received
  core-last = keccak-same _ _ (read-t0 o) (read-t1 o) refl (read-output o) ∙ sym m-last

  in-balance : Balanced (core_kind (suc k)) round_kind core round
  unfolding Balanced
  in-balance v =
      ap₂ ◌+◌ (core-counted Sender v (M 0) ((core-values (suc k) (core_row o)).0 ∙ core-first))
      (round-counted Sender (λ q. M (suc q)) (λ q l. (round-values (false_row j k t s q)).1 ∙ row-sent q l) v)
      ∙ hop (λ q. words_test v (M q)) (suc k)
      ∙ sym (ap₂ ◌+◌ (core-counted Receiver v (M (suc k)) ((core-values (suc k) (core_row o)).1 ∙ core-last))
      (round-counted Receiver M (λ q l. (round-values (false_row j k t s q)).0 ∙ row-received q l) v))

  -- ---- its output is not Keccak-p of its input
  last-lanes : Lanes sent-last
  last-lanes = sent-lanes j (word_at t) 23 (before k s k) (before-lanes k (omega arith)) (omega arith)

  last-size : length sent-last ≡ 25
  unfolding out_lanes
  last-size = length-grid _

  not-computed : needed j ≡ true → Computed (suc k) (core_row o) → ⊥
  unfolding bytes_of before
  not-computed n c =
      let input-is : columns INPUT-STATE (core_row o) ≡ bytes_of s = spread_same _ _ (read-input o) in
      let output-is : columns OUTPUT-STATE (core_row o) ≡ bytes_of sent-last = spread_same _ _ (read-output o) in
      let whole : 24 - suc k + suc k ≤ 24 = omega arith in
      let same : bytes_of sent-last ≡ bytes_of (before k s (suc k))
      = sym output-is ∙ computed-right (suc k) (omega arith) (core_row o) c ∙ ap (rounds_from turn (24 - suc k) (suc k)) input-is ∙ walk-bytes (24 - suc k) (suc k) whole s size hs in
      let e : sent-last ≡ before k s (suc k)
      = sym (lanes_bytes sent-last last-size last-lanes) ∙ ap lanes_of same ∙ lanes_bytes (before k s (suc k)) (length-rounds (24 - suc k) (suc k) s size) (rounds-lanes (24 - suc k) (suc k) whole s hs) in
      let last : 24 - suc k + k ≡ 23 = omega arith in
      sends-false j (word_at t) 23 (before k s k) (before-lanes k (omega arith)) (omega arith) n
      (λ x y hx hy. ap (λ (l : List ℕ). lane l x y) (e ∙ before-next k ∙ ap (rnd_l (before k s k)) last))

  core-on : Active core_layout core 0
  unfolding false_core
  core-on = made-active 1 1 (λ i. o) 0 (omega arith)

  core-supposed : a ≤ LAST-ADDRESS → a % 8 ≡ 0 → SupposedAt (suc k) core
  unfolding false_core
  core-supposed low aligned =
      table-supposed 1 1 (λ i. o) (record { few = omega arith; stamp = λ i l. ht; low = λ i l. low; aligned = λ i l. aligned; differ = λ i g l m e. omega arith }) (suc k)

  -- ---- THE TABLES
  pub each-deceives : needed j ≡ true → a ≤ LAST-ADDRESS → a % 8 ≡ 0 → Deceives j (suc k) core round
  each-deceives n low aligned =
      record {
        supposed = core-supposed low aligned;
        passes = passes-but;
        balanced = in-balance;
        on = core-on;
        wrong = λ c. not-computed n (subst (Computed (suc k)) core-row c);
      }

-- in short, for every number of rounds: here of the zero state, at timestamp 0 and address 0
pub rule-needed : (j : ℕ) → needed j ≡ true → (nr : ℕ) → 1 ≤ nr → nr ≤ 24 → (core : List ℕ) × (round : List ℕ) × Deceives j nr core round
rule-needed j n zero some most = absurd (omega arith)
rule-needed j n (suc k) some most =
    (false_core j k 0 0 (flat_state 0), false_round j k 0 (flat_state 0), each-deceives j k 0 0 (flat_state 0) most (omega arith) (flat-lanes 0 (omega arith)) flat-size n (omega arith) refl)

-- with all rules no table deceives
pub none-deceives : (nr : ℕ) → 1 ≤ nr → nr ≤ 24 → (core round : List ℕ) (j : ℕ) → Deceives j nr core round → Answers nr core round → ⊥
none-deceives nr some most core round j d ok = d.wrong ((demand3-at nr 4 some most core d.supposed).exists.0 (round, ok) 0 d.on)
