-- The same of what the calls leave, for one number of rounds and one floor: for a list of right operations, the tables that the calls
-- write into lent slices, the bitwise table filled from counters that `charge` and `collect_bitwise_from_is_wh` charged from zero, and
-- the constants after `update_multiplicities`, pass on every bus. So does what the calls leave of no operation, where it is shipped, with no IS_WH
-- table, and with none but that.
use mathlib.Core.Bool.{Bool, true}
use mathlib.Core.List.{List, []}
use mathlib.Core.Logic.{inr, ⊎_elim}
use mathlib.Core.Path.{◌≡◌, refl, sym, ap, subst, ◌∙◌}
use Prim.Native.Nat.{ℕ, ◌+◌, ◌-◌, ◌*◌, ◌≤◌, ◌<◌}
use native.Mathlib.Omega.{arith}
use lib.ListN.{length, take, drop, get_or, length-append, get_or-append}
use Rattle.lists.specs.Tab.{word, tab, tab_from}
use Rattle.lists.proofs.Laws.{word-row_at}
use Rattle.lists.proofs.Then.{by_le}
use Rattle.answer.specs.Refusal.{accepted, overwrite}
use Rattle.answer.proofs.Refusals.{floor-most}
use Rattle.answer.proofs.Overwrite.{left}
use Rattle.bitwise.specs.Columns.{NUM-COUNTERS}
use Rattle.bitwise.specs.Charge.{charged_counters}
use Rattle.bitwise.specs.Table.{filled, fill_refusal, fill_after}
use Rattle.bitwise.proofs.Charge.{charged-elements}
use Rattle.bitwise.proofs.Table.{filled-count}
use Rattle.keccak_rc.specs.Row.{rc_row}
use Rattle.keccak_rc.specs.Table.{rc_table, updated, rc_trace_refusal, rc_trace_after, update_refusal, update_after}
use Rattle.keccak_rc.proofs.Table.{length-rc_table, rc_table-row, updated-used, updated-early, updated-late}
use Rattle.is_wh_rows.specs.Rows.{codes, rows_of, flat}
use Rattle.is_wh_rows.specs.Calls.{dedup_refusal}
use Rattle.keccak.specs.Height.{height}
use Rattle.keccak.specs.Row.{op_at, key_words, core_table}
use Rattle.keccak.specs.Refusals.{op_count, keys_refusal, core_trace_refusal}
use Rattle.keccak.specs.Calls.{core_trace_after}
use Rattle.keccak.proofs.Calls as core
use Rattle.is_wh_trace.specs.Trace.{is_wh_height, is_wh_table, is_wh_trace_refusal, is_wh_trace_after}
use Rattle.is_wh_trace.proofs.Answers.{table-start}
use Rattle.is_wh_counts.specs.Counts.{is_wh_charged, grown_counters, collect_refusal, collect_after}
use Rattle.is_wh_counts.proofs.Grown.{grown-elements}
use Rattle.keccak_rnd.specs.Row.{round_table, round_height}
use Rattle.keccak_rnd.specs.Refusals.{round_trace_refusal}
use Rattle.keccak_rnd.specs.Calls.{round_trace_after}
use Rattle.keccak_rnd.proofs.Written as round
use Rattle.segment_counts.specs.Segment.{list_charged, charge_refusal, charge_after}
use Rattle.segment_counts.proofs.Accepted.{charge-accepted}
use Rattle.segment_counts.proofs.Stays.{charge-stays}
use Rattle.verdict.specs.Honest.{RightOperation}
use Rattle.verdict.specs.Kind.{rows}
use Rattle.bus_sums.specs.Sums.{is_wh_layout, SumsHold, nobody}
use Rattle.is_wh_sums.proofs.Written.{keys_of, rows_written, rows_are}
use Rattle.segment_sums.proofs.Segment.{segment-holds, segment-idle, empty_holds}
use Rattle.segment_sums.proofs.Counters.{bus_at, Unsending}
use Rattle.segment_sums.proofs.Unpaired.{unpaired}

-- the constants of n operations, as they are written
module _ (nr n : ℕ) (K : List ℕ) (wrote-constants : rc_trace_refusal K ≡ accepted) (set-constants : update_refusal nr (rc_trace_after K) n ≡ accepted) where
  constants-length : 320 ≤ length (overwrite rc_table K)
  unfolding overwrite
  constants-length = omega (arith, length-append rc_table (drop (length rc_table) K), length-rc_table)

  late-zero : (r : ℕ) → 24 ≤ r → r < 32 → word (overwrite rc_table K) (r * 10 + 9) ≡ 0
  unfolding overwrite rc_row tab tab_from
  late-zero r _ l =
      get_or-append rc_table (drop (length rc_table) K) 0 (r * 10 + 9) (omega (arith, length-rc_table))
      ∙ sym (word-row_at 10 rc_table r 9 (omega arith)) ∙ ap (λ (x : List ℕ). get_or x 9 0) (rc_table-row r l)

  constants-are : update_after nr (rc_trace_after K) n ≡ updated nr n (overwrite rc_table K)
  constants-are = left (updated nr n (rc_trace_after K)) (rc_trace_after K) set-constants ∙ ap (updated nr n) (left (overwrite rc_table K) K wrote-constants)

  -- the multiplicity of round r
  constant-word : (r : ℕ) → word (update_after nr (rc_trace_after K) n) (r * 10 + 9) ≡ word (updated nr n (overwrite rc_table K)) (r * 10 + 9)
  constant-word r = ap (λ (l : List ℕ). word l (r * 10 + 9)) constants-are

-- multiplicity k of row i, as it stands in a table that was filled from counters
filled-word : (counters B : List ℕ) → fill_refusal counters B ≡ accepted → (i k : ℕ) → i < 1048576 → k < 10 → word (fill_after counters B) (i * 21 + (11 + k)) ≡ word counters (i * 10 + k)
filled-word counters B fills i k li lk = ap (λ (l : List ℕ). word l (i * 21 + (11 + k))) (left (filled counters B) B fills) ∙ filled-count counters B i k li lk

module _ (nr floor : ℕ) (ops : List ℕ) (has : 1 ≤ op_count ops) (right : (i : ℕ) → i < op_count ops → RightOperation nr (op_at ops i))
    (differ : (i j : ℕ) → i < j → j < op_count ops → (op_at ops i).timestamp ≡ (op_at ops j).timestamp → ⊥) where
  abbrev n : ℕ
  n = op_count ops

  -- the core table and the round table, as they are written
  module _ (T U : List ℕ) (wrote-core : core_trace_refusal floor (length T) ops ≡ accepted) (wrote-round : round_trace_refusal nr floor (length U) ops ≡ accepted) where
    abbrev pub core_written : List ℕ
    core_written = take (height floor n * 486) (core_trace_after floor ops T)

    abbrev pub round_written : List ℕ
    round_written = take (round_height nr floor n * 1480) (round_trace_after nr floor ops U)

    core_is : core_written ≡ core_table floor n (op_at ops)
    core_is = core.table-left floor ops T wrote-core

    round_is : round_written ≡ round_table nr floor n (op_at ops)
    round_is = round.table-left nr floor ops U wrote-round

    -- the rows of the IS_WH table, and the table
    module _ (out : List ℕ) (wrote-keys : keys_refusal (length out) ops ≡ accepted) (C S R : List ℕ)
        (wrote-rows : dedup_refusal (length C) (length S) (length R) (keys_of ops out wrote-keys) ≡ accepted) where
      abbrev pub pair_rows : List ℕ
      pair_rows = rows_written ops out wrote-keys C S R wrote-rows

      abbrev list : List ℕ
      list = flat (rows_of (codes (key_words n (op_at ops))))

      list-is : pair_rows ≡ list
      list-is = rows_are ops out wrote-keys C S R wrote-rows

      module _ (W : List ℕ) (wrote-pairs : is_wh_trace_refusal (length W) pair_rows ≡ accepted) where
        abbrev pub pairs_written : List ℕ
        pairs_written = take (is_wh_height pair_rows * 4) (is_wh_trace_after pair_rows W)

        pairs_is : pairs_written ≡ is_wh_table list
        pairs_is = table-start pair_rows W wrote-pairs ∙ ap is_wh_table list-is

        -- the constants
        module _ (K : List ℕ) (wrote-constants : rc_trace_refusal K ≡ accepted) (set-constants : update_refusal nr (rc_trace_after K) n ≡ accepted) where
          -- the counters, from zero, and the bitwise table
          module _ (shipped : Bool) (Z B : List ℕ) (zeros : (c : ℕ) → c < NUM-COUNTERS → word Z c ≡ 0) (charged : charge_refusal nr floor ops Z ≡ accepted)
              (collected : collect_refusal pair_rows (charge_after nr floor shipped ops Z) ≡ accepted)
              (fills : fill_refusal (collect_after pair_rows (charge_after nr floor shipped ops Z)) B ≡ accepted) where
            abbrev pub counters : List ℕ
            counters = collect_after pair_rows (charge_after nr floor shipped ops Z)

            counters-are : counters ≡ charged_counters (charged_counters Z (list_charged nr floor shipped ops)) (is_wh_charged list)
            unfolding collect_after
            counters-are =
                left (grown_counters (charge_after nr floor shipped ops Z) (is_wh_charged pair_rows)) (charge_after nr floor shipped ops Z) collected
                ∙ ap (λ (l : List ℕ). grown_counters l (is_wh_charged pair_rows)) (left (charged_counters Z (list_charged nr floor shipped ops)) Z charged)
                ∙ grown-elements (charged_counters Z (list_charged nr floor shipped ops)) (is_wh_charged pair_rows)
                (charged-elements Z (list_charged nr floor shipped ops) ((charge-accepted nr floor ops Z).0 charged).3.long)
                ∙ ap (λ (l : List ℕ). charged_counters (charged_counters Z (list_charged nr floor shipped ops)) (is_wh_charged l)) list-is

            pub calls-hold : SumsHold nr core_written round_written
                (record {
                  bitwise = λ i k. word (fill_after counters B) (i * 21 + (11 + k));
                  constants = λ r. word (update_after nr (rc_trace_after K) n) (r * 10 + 9);
                  is-wh = pairs_written;
                }) nobody
            calls-hold =
                let mu : ℕ → ℕ → ℕ = λ i k. word (fill_after counters B) (i * 21 + (11 + k)) in
                let constant : ℕ → ℕ = λ r. word (update_after nr (rc_trace_after K) n) (r * 10 + 9) in
                let ok = (charge-accepted nr floor ops Z).0 charged in
                subst (λ (c : List ℕ). SumsHold nr c round_written (record { bitwise = mu; constants = constant; is-wh = pairs_written }) nobody) (sym core_is)
                (subst (λ (r : List ℕ). SumsHold nr (core_table floor n (op_at ops)) r (record { bitwise = mu; constants = constant; is-wh = pairs_written }) nobody) (sym round_is)
                (subst (λ (w : List ℕ). SumsHold nr (core_table floor n (op_at ops)) (round_table nr floor n (op_at ops)) (record { bitwise = mu; constants = constant; is-wh = w }) nobody) (sym pairs_is)
                (segment-holds nr floor n ok.0 ok.1 (floor-most floor ok.2) ok.3.few (op_at ops) right differ has
                shipped Z ok.3.long zeros
                (overwrite rc_table K) (constants-length nr n K wrote-constants set-constants) (late-zero nr n K wrote-constants set-constants) mu constant
                (λ i k li lk. filled-word counters B fills i k li lk ∙ ap (λ (l : List ℕ). word l (i * 10 + k)) counters-are)
                (λ r _. constant-word nr n K wrote-constants set-constants r))))

            pub calls-idle : (i k : ℕ) → i < 1048576 → k < 10 → Unsending (bus_at k) → word (fill_after counters B) (i * 21 + (11 + k)) ≡ 0
            calls-idle =
                let ok = (charge-accepted nr floor ops Z).0 charged in
                segment-idle nr floor n ok.0 ok.1 (floor-most floor ok.2) ok.3.few (op_at ops) right differ has
                shipped Z ok.3.long zeros (λ i k. word (fill_after counters B) (i * 21 + (11 + k)))
                (λ i k li lk. filled-word counters B fills i k li lk ∙ ap (λ (l : List ℕ). word l (i * 10 + k)) counters-are)

-- ---- an empty list, shipped: both tables as they are written, no IS_WH table, the constants after `update_multiplicities` with 0, and the
-- bitwise table filled from counters that `charge` charged from zero
module _ (nr floor : ℕ) (T U : List ℕ) (wrote-core : core_trace_refusal floor (length T) [] ≡ accepted) (wrote-round : round_trace_refusal nr floor (length U) [] ≡ accepted)
    (K : List ℕ) (wrote-constants : rc_trace_refusal K ≡ accepted) (set-constants : update_refusal nr (rc_trace_after K) 0 ≡ accepted)
    (Z B : List ℕ) (zeros : (c : ℕ) → c < NUM-COUNTERS → word Z c ≡ 0) (charged : charge_refusal nr floor [] Z ≡ accepted)
    (fills : fill_refusal (charge_after nr floor true [] Z) B ≡ accepted) where
  -- no constant is counted
  pub empty-constants : (r : ℕ) → r < 32 → word (update_after nr (rc_trace_after K) 0) (r * 10 + 9) ≡ 0
  empty-constants r l =
      constant-word nr 0 K wrote-constants set-constants r
      ∙ by_le 24 r
      (λ late. updated-late nr 0 (overwrite rc_table K) r late ∙ late-zero nr 0 K wrote-constants set-constants r late l)
      (λ real. by_le (24 - nr) r
      (λ used. updated-used nr 0 (overwrite rc_table K) (constants-length nr 0 K wrote-constants set-constants) r used real)
      (λ early. updated-early nr 0 (overwrite rc_table K) (constants-length nr 0 K wrote-constants set-constants) r early))

  pub empty-calls-hold : SumsHold nr (take (height floor 0 * 486) (core_trace_after floor [] T)) (take (round_height nr floor 0 * 1480) (round_trace_after nr floor [] U))
      (record {
        bitwise = λ i k. word (fill_after (charge_after nr floor true [] Z) B) (i * 21 + (11 + k));
        constants = λ r. 0;
        is-wh = [];
      }) nobody
  empty-calls-hold =
      let mu : ℕ → ℕ → ℕ = λ i k. word (fill_after (charge_after nr floor true [] Z) B) (i * 21 + (11 + k)) in
      let ok = (charge-accepted nr floor [] Z).0 charged in
      subst (λ (c : List ℕ). SumsHold nr c (take (round_height nr floor 0 * 1480) (round_trace_after nr floor [] U)) (record { bitwise = mu; constants = λ r. 0; is-wh = [] }) nobody)
      (sym (core.table-left floor [] T wrote-core))
      (subst (λ (r : List ℕ). SumsHold nr (core_table floor 0 (op_at [])) r (record { bitwise = mu; constants = λ r. 0; is-wh = [] }) nobody)
      (sym (round.table-left nr floor [] U wrote-round))
      (empty_holds nr floor 0 ok.0 ok.1 (floor-most floor ok.2) (omega arith) (op_at []) (λ i l. absurd (omega (arith, l))) (λ i j l g. absurd (omega (arith, g))) refl
      Z zeros (overwrite rc_table K) (constants-length nr 0 K wrote-constants set-constants) (late-zero nr 0 K wrote-constants set-constants) mu (λ r. 0)
      (λ i k li lk.
      filled-word (charge_after nr floor true [] Z) B fills i k li lk
      ∙ ap (λ (l : List ℕ). word l (i * 10 + k)) (left (charged_counters Z (list_charged nr floor true [])) Z charged))
      (λ r l. sym (sym (constant-word nr 0 K wrote-constants set-constants r) ∙ empty-constants r l))))

-- ---- counters that `charge` alone charged from zero, whatever the list: beside them no row of an IS_WH table passes
module _ (nr floor : ℕ) (shipped : Bool) (ops Z B : List ℕ) (zeros : (c : ℕ) → c < NUM-COUNTERS → word Z c ≡ 0) (fills : fill_refusal (charge_after nr floor shipped ops Z) B ≡ accepted) where
  none-twenty : (i : ℕ) → i < 1048576 → word (fill_after (charge_after nr floor shipped ops Z) B) (i * 21 + (11 + 5)) ≡ 0
  none-twenty i l =
      filled-word (charge_after nr floor shipped ops Z) B fills i 5 l (omega arith)
      ∙ charge-stays nr floor shipped ops Z (i * 10 + 5) (inr (⊎_elim (λ e. omega arith) (⊎_elim (λ e. omega arith) (⊎_elim (λ e. omega arith) (λ e. omega arith)))))
      ∙ zeros (i * 10 + 5) (omega arith)

  pub charged-unpaired : (core round : List ℕ) (constant : ℕ → ℕ) (pairs : List ℕ)
      → SumsHold nr core round (record { bitwise = λ i k. word (fill_after (charge_after nr floor shipped ops Z) B) (i * 21 + (11 + k)); constants = constant; is-wh = pairs }) nobody
      → rows is_wh_layout pairs ≡ 0
  charged-unpaired core round constant pairs =
      unpaired nr core round (record { bitwise = λ i k. word (fill_after (charge_after nr floor shipped ops Z) B) (i * 21 + (11 + k)); constants = constant; is-wh = pairs }) none-twenty
