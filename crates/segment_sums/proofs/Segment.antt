-- An honest segment passes on every bus: the five tables of right operations, the bitwise counters charged with `charge` and then with
-- `collect_bitwise_from_is_wh` from zeros and the constants updated by the number of operations, are as a prover's check wants them.
--     constant-is      each constant is counted as often as it is sent, whatever stands in the IS_WH table
--     segment-holds    the sums of every bus agree, with nothing left to choose
--     segment-idle     and kinds of lookups that are not sent are counted nowhere
use mathlib.Core.Bool.{Bool, true, ◌&&◌}
use mathlib.Core.List.{List, [], ◌∷◌}
use mathlib.Core.Option.{none}
use mathlib.Core.Path.{◌≡◌, refl, sym, ap, ap₂, ◌∙◌}
use Prim.Native.Nat.{ℕ, suc, ◌+◌, ◌-◌, ◌*◌, ◌/◌, ◌%◌, ◌^◌, ◌≤◌, ◌<◌}
use native.Mathlib.Nat.{add-zero, zero-add, mod-eq_of_lt}
use native.Mathlib.Omega.{arith}
use borrow.Author.Tests.{eq-eqb, ne_eqb}
use lib.Dec.{eqb}
use lib.ListN.{length}
use Rattle.lists.specs.Tab.{pick, word, row_at}
use Rattle.lists.specs.Sum.{sum_below}
use Rattle.lists.specs.First.{first_at}
use Rattle.lists.proofs.Count.{count-hit}
use Rattle.lists.proofs.Tests.{true-and}
use Rattle.lists.proofs.Then.{by_le}
use Rattle.field.specs.Field.{p}
use Rattle.answer.specs.Limits.{MAX-OPS}
use Rattle.tuple.specs.declared.Bus.TheVariants.{IsWh, KeccakRc}
use Rattle.tuple.specs.declared.Side.TheVariants.{Sender, Receiver}
use Rattle.bitwise.specs.Columns.{NUM-COUNTERS}
use Rattle.bitwise.specs.Charge.{charged, charged_counters}
use Rattle.bitwise.proofs.Charge.{Sound}
use Rattle.bitwise.proofs.Charged.{charged-at, charged-twice}
use Rattle.keccak_rc.specs.Row.{rc_row}
use Rattle.keccak_rc.specs.Table.{updated}
use Rattle.keccak_rc.proofs.Table.{updated-used, updated-early, updated-late}
use Rattle.is_wh.specs.Tuples.{is_wh_tuple}
use Rattle.is_wh_rows.specs.Rows.{Row, codes, rows_of, flat}
use Rattle.is_wh_rows.specs.Lists.{bad_at, GoodList}
use Rattle.is_wh_rows.specs.Meaning.{times_sent, times_counted}
use Rattle.is_wh_rows.proofs.Lists.{none-bad}
use Rattle.is_wh_rows.proofs.Counts.{all-counted}
use Rattle.keccak.specs.Row.{core_table, key_words}
use Rattle.keccak.specs.declared.KeccakOperation.{KeccakOperation}
use Rattle.keccak.proofs.Height.{height-le}
use Rattle.keccak.proofs.Keys.{length-keys}
use Rattle.keccak.proofs.Cells.{pad-mu}
use Rattle.keccak.proofs.Table.{core-table-row, core-row-pad}
use Rattle.is_wh_trace.specs.Trace.{row_count, is_wh_height, is_wh_table}
use Rattle.is_wh_trace.proofs.Deduped.{rows-counted}
use Rattle.is_wh_counts.specs.Counts.{sending_rows, is_wh_charged}
use Rattle.keccak_rnd.specs.Row.{round_table}
use Rattle.keccak_rnd.proofs.Rows.{few-rows}
use Rattle.segment_counts.specs.Segment.{segment_charged}
use Rattle.verdict.specs.Kind.{rows, row}
use Rattle.verdict.specs.Failures.{Says}
use Rattle.verdict.specs.CoreAndRound.{core_layout, core_kind, round_kind}
use Rattle.verdict.specs.Honest.{RightOperation}
use Rattle.verdict.specs.declared.Verdict.TheVariants.{Holds}
use Rattle.verdict.proofs.Failures.{verdict-says}
use Rattle.verdict.proofs.Honest.{table-holds}
use Rattle.verdict.proofs.Tables.{table-rows}
use Rattle.bus_sums.specs.Buses.{core_line}
use Rattle.bus_sums.specs.Sums.{shares, tuple_at, table_share, is_wh_layout, is_wh_kind, Constrained, SumsHold, nobody, MAX-PAIRS}
use Rattle.bus_sums.proofs.Shares.{no_line}
use Rattle.bus_sums.proofs.Buses.{core-line, no-core, no-is-wh}
use Rattle.bus_sums.proofs.Filling.{sent_on}
use Rattle.is_wh_sums.proofs.Sent.{keys-good, list-good, pairs-balanced, row-sound, rows-sent}
use Rattle.segment_sums.proofs.Counters.{adds, PairsFound, total, bus_at, Unsending, total-idle, counted-hold}
use Rattle.segment_sums.proofs.Sent.{core-height, round-height, both-add}
use Rattle.segment_sums.proofs.Constants.{constant-used, constant-unused}

-- the rows of the keys of some operation
module _ (n : ℕ) (op : ℕ → KeccakOperation) (has : 1 ≤ n) (none-refused : first_at (bad_at 2 (key_words n op)) (length (key_words n op)) ≡ none) where
  abbrev keys : List ℕ
  keys = key_words n op

  first-sent : 1 ≤ times_sent (word keys 0) (word keys 1) keys
  unfolding times_sent
  first-sent =
      count-hit (λ i. (eqb (word keys (2 * i)) (word keys 0) && eqb (word keys (2 * i + 1)) (word keys 1))) (length keys / 2) 0 (omega (arith, length-keys n op, has))
      (true-and (eqb (word keys 0) (word keys 0)) (eqb (word keys 1) (word keys 1)) (eq-eqb (word keys 0) (word keys 0) refl) (eq-eqb (word keys 1) (word keys 1) refl))

  some-rows : row_count (flat (rows_of (codes keys))) ≡ 0 → ⊥
  unfolding times_counted
  some-rows e = go (rows_of (codes keys)) refl (sym (rows-counted keys none-refused) ∙ e)
    where
      go : (rs : List Row) → rows_of (codes keys) ≡ rs → length (rows_of (codes keys)) ≡ 0 → ⊥
      go [] q z = omega (arith, first-sent, all-counted keys none-refused (word keys 0) (word keys 1), ap (times_counted (word keys 0) (word keys 1)) q)
      go (r ∷ rs) q z = let l : length (rows_of (codes keys)) ≡ suc (length rs) = ap length q in omega (arith, l, z)

module _ (nr floor n : ℕ) (some : 1 ≤ nr) (most : nr ≤ 24) (low-floor : floor ≤ 65536) (few : n ≤ MAX-OPS) (op : ℕ → KeccakOperation)
    (right : (i : ℕ) → i < n → RightOperation nr (op i)) (differ : (i j : ℕ) → i < j → j < n → (op i).timestamp ≡ (op j).timestamp → ⊥) where
  abbrev pub core : List ℕ
  core = core_table floor n op

  abbrev pub round : List ℕ
  round = round_table nr floor n op

  pub holds : Says (core_kind nr) round_kind core round (Holds n)
  holds = (verdict-says nr core round (Holds n)).0 (table-holds nr floor n some most few op right differ)

  pub core-constrained : Constrained (core_kind nr) core
  core-constrained =
      let h = holds.0 in
      record { whole = h.whole; below = h.below; values = h.values; few = omega (arith, core-height nr floor n op, height-le floor n, low-floor, few) }

  pub round-constrained : Constrained round_kind round
  round-constrained =
      let h = holds.2 in
      record { whole = h.whole; below = h.below; values = h.values; few = omega (arith, round-height nr floor n op, height-le floor (n * nr), low-floor, few-rows nr n most few) }

  -- ---- the constants: of a table whose rows past round 23 count nothing, beside any IS_WH table
  module _ (K : List ℕ) (room : 320 ≤ length K) (late-zero : (r : ℕ) → 24 ≤ r → r < 32 → word K (r * 10 + 9) ≡ 0) where
    pub constant-is : (is-wh : List ℕ) (r : ℕ) → r < 32 → word (updated nr n K) (r * 10 + 9) ≡ sent_on nr core round is-wh KeccakRc (rc_row r)
    unfolding sent_on
    constant-is is-wh r l =
        by_le 24 r
        (λ late. updated-late nr n K r late ∙ late-zero r late l ∙ sym (sends 0 (constant-unused nr n floor op most r (λ _ h. omega (arith, late, h))) (omega arith)))
        (λ real. by_le (24 - nr) r
        (λ used. updated-used nr n K room r used real ∙ sym (sends n (constant-used nr n floor op most r used real) (omega (arith, few))))
        (λ early. updated-early nr n K room r early ∙ sym (sends 0 (constant-unused nr n floor op most r (λ h _. omega (arith, early, h))) (omega arith))))
      where
        sends : (m : ℕ) → table_share Sender KeccakRc (rc_row r) round_kind round ≡ m → m < p
            → (table_share Sender KeccakRc (rc_row r) (core_kind nr) core + table_share Sender KeccakRc (rc_row r) round_kind round + table_share Sender KeccakRc (rc_row r) is_wh_kind is-wh) % p ≡ m
        sends m e b =
            let s : table_share Sender KeccakRc (rc_row r) (core_kind nr) core + table_share Sender KeccakRc (rc_row r) round_kind round + table_share Sender KeccakRc (rc_row r) is_wh_kind is-wh ≡ m =
            omega (arith, e, no-core Sender KeccakRc (rc_row r) (λ m. refl) nr core, no-is-wh Sender KeccakRc (rc_row r) (λ m. refl) is-wh) in
            ap (λ (k : ℕ). k % p) s ∙ mod-eq_of_lt b

  -- ---- a segment with an operation: the rows of the IS_WH table, and the table
  module _ (has : 1 ≤ n) where
    abbrev pub list : List ℕ
    list = flat (rows_of (codes (key_words n op)))

    abbrev pub is-wh : List ℕ
    is-wh = is_wh_table list

    fits : (i : ℕ) → i < n → (op i).state_addr + 192 < 2 ^ 64
    fits i l = omega (arith, (right i l).low)

    good : GoodList 3 list
    good = list-good n op few fits

    some-list : row_count list ≡ 0 → ⊥
    some-list = some-rows n op has (none-bad 2 (key_words n op) (keys-good n op few fits).below)

    pairs-height : rows is_wh_layout is-wh ≡ is_wh_height list
    unfolding is_wh_table
    pairs-height = table-rows is_wh_layout (omega arith) (is_wh_height list) _

    few-pairs : rows is_wh_layout is-wh ≤ MAX-PAIRS
    few-pairs = omega (arith, pairs-height, height-le 4 (row_count list), good.few)

    pairs-adds : (c : ℕ) → adds is_wh_kind is-wh c ≡ is_wh_charged list c
    unfolding is_wh_charged sending_rows tuple_at
    pairs-adds c =
        ap (λ (k : ℕ). charged k 5 (λ r. is_wh_tuple (row_at 4 is-wh r)) c) (pairs-height ∙ sym (ap (λ (t : Bool). pick t 0 (is_wh_height list)) (ne_eqb (row_count list) 0 some-list)))

    -- ---- the tables' lookups
    pair-sound : (r i : ℕ) → Sound (tuple_at is_wh_kind is-wh r i)
    unfolding tuple_at
    pair-sound r i = row-sound (row is_wh_layout is-wh r) i

    pairs-found : PairsFound is-wh
    unfolding tuple_at
    pairs-found r i l g e = rows-sent list good r i (omega (arith, l, pairs-height)) g e

    abbrev all : ℕ → ℕ
    all = total nr core round is-wh holds.0.lookups holds.2.lookups pair-sound pairs-found

    all-is : (shipped : Bool) (c : ℕ) → all c ≡ segment_charged nr floor shipped n op c + is_wh_charged list c
    unfolding total
    all-is shipped c = ap₂ ◌+◌ (both-add nr floor n op shipped (λ e. absurd (omega (arith, e, has))) c) (pairs-adds c)

    -- ---- the counters, from zero
    module _ (shipped : Bool) (Z : List ℕ) (long : NUM-COUNTERS ≤ length Z) (zeros : (c : ℕ) → c < NUM-COUNTERS → word Z c ≡ 0) where
      abbrev pub counters : List ℕ
      counters = charged_counters (charged_counters Z (segment_charged nr floor shipped n op)) (is_wh_charged list)

      counter-is : (c : ℕ) → c < NUM-COUNTERS → word counters c ≡ all c % p
      counter-is c l =
          let both : ℕ → ℕ = λ c. segment_charged nr floor shipped n op c + is_wh_charged list c in
          ap (λ (x : List ℕ). word x c) (charged-twice Z (segment_charged nr floor shipped n op) (is_wh_charged list) long)
          ∙ charged-at Z both c l
          ∙ ap (λ (z : ℕ). (z + both c) % p) (zeros c l)
          ∙ ap (λ (k : ℕ). k % p) (zero-add (both c) ∙ sym (all-is shipped c))

      -- wherever a prover keeps these words
      pub segment-holds : (K : List ℕ) → 320 ≤ length K → ((r : ℕ) → 24 ≤ r → r < 32 → word K (r * 10 + 9) ≡ 0)
          → (mu : ℕ → ℕ → ℕ) (constant : ℕ → ℕ) → ((i k : ℕ) → i < 1048576 → k < 10 → mu i k ≡ word counters (i * 10 + k))
          → ((r : ℕ) → r < 32 → constant r ≡ word (updated nr n K) (r * 10 + 9))
          → SumsHold nr core round (record { bitwise = mu; constants = constant; is-wh = is-wh }) nobody
      segment-holds K room late-zero mu constant mu-is row_is =
          counted-hold nr core round is-wh holds.0.lookups holds.2.lookups pair-sound pairs-found mu constant
          (λ i k li lk. mu-is i k li lk ∙ counter-is (i * 10 + k) (omega arith)) (λ r l. row_is r l ∙ constant-is K room late-zero is-wh r l)
          core-constrained round-constrained holds.3 few-pairs (pairs-balanced n op few fits nr floor)

      -- and a kind of lookup that none of them sends is counted nowhere
      pub segment-idle : (mu : ℕ → ℕ → ℕ) → ((i k : ℕ) → i < 1048576 → k < 10 → mu i k ≡ word counters (i * 10 + k))
          → (i k : ℕ) → i < 1048576 → k < 10 → Unsending (bus_at k) → mu i k ≡ 0
      segment-idle mu mu-is i k li lk quiet =
          mu-is i k li lk ∙ counter-is (i * 10 + k) (omega arith)
          ∙ total-idle nr core round is-wh holds.0.lookups holds.2.lookups pair-sound pairs-found i k lk quiet

  -- ---- no operation, shipped: "No sends, no table" (tables/is_wh.rs), so there is no IS_WH table
  module _ (none_made : n ≡ 0) where
    -- no row of it sends
    none-sound : (r i : ℕ) → Sound (tuple_at is_wh_kind [] r i)
    unfolding tuple_at
    none-sound r i = row-sound (row is_wh_layout [] r) i

    none_found : PairsFound []
    none_found r i l g e = absurd (omega (arith, l))

    abbrev alone : ℕ → ℕ
    alone = total nr core round [] holds.0.lookups holds.2.lookups none-sound none_found

    alone-is : (c : ℕ) → alone c ≡ segment_charged nr floor true n op c
    unfolding total charged sum_below
    alone-is c = add-zero (adds (core_kind nr) core c + adds round_kind round c) ∙ both-add nr floor n op true (λ e. refl) c

    -- a row of the core table is a padding row, and sends no pair
    none-paired : (v : List ℕ) → table_share Receiver IsWh v is_wh_kind [] ≡ table_share Sender IsWh v (core_kind nr) core
    unfolding shares sum_below tuple_at
    none-paired v =
        sym (no_line Sender IsWh v (rows core_layout core) 84 (tuple_at (core_kind nr) core)
        (λ r l. core-line Sender IsWh nr (row core_layout core r)
        ∙ ap (core_line Sender IsWh) (ap (λ (x : List ℕ). word x 485) (core-table-row n op floor r (omega (arith, l, core-height nr floor n op)) ∙ core-row-pad n op r (omega (arith, none_made))) ∙ pad-mu)))

    module _ (Z : List ℕ) (zeros : (c : ℕ) → c < NUM-COUNTERS → word Z c ≡ 0) (K : List ℕ) (room : 320 ≤ length K)
        (late-zero : (r : ℕ) → 24 ≤ r → r < 32 → word K (r * 10 + 9) ≡ 0) where
      pub empty_holds : (mu : ℕ → ℕ → ℕ) (constant : ℕ → ℕ)
          → ((i k : ℕ) → i < 1048576 → k < 10 → mu i k ≡ word (charged_counters Z (segment_charged nr floor true n op)) (i * 10 + k))
          → ((r : ℕ) → r < 32 → constant r ≡ word (updated nr n K) (r * 10 + 9))
          → SumsHold nr core round (record { bitwise = mu; constants = constant; is-wh = [] }) nobody
      empty_holds mu constant mu-is row_is =
          counted-hold nr core round [] holds.0.lookups holds.2.lookups none-sound none_found mu constant
          (λ i k li lk.
          let c = i * 10 + k in
          let l : c < NUM-COUNTERS = omega arith in
          mu-is i k li lk ∙ charged-at Z (segment_charged nr floor true n op) c l
          ∙ ap (λ (z : ℕ). (z + segment_charged nr floor true n op c) % p) (zeros c l)
          ∙ ap (λ (m : ℕ). m % p) (zero-add (segment_charged nr floor true n op c) ∙ sym (alone-is c)))
          (λ r l. row_is r l ∙ constant-is K room late-zero [] r l)
          core-constrained round-constrained holds.3 (omega arith) none-paired
