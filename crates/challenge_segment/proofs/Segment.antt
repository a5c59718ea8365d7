-- The five tables as the calls fill them, for a list of right operations, at a prover's challenges: where other tables answer the Memw and
-- Ecall tuples of the core rows, the check passes at all pairs but |A| n, n the number of all tuples.
use mathlib.Core.Bool.{Bool}
use mathlib.Core.List.{List}
use mathlib.Core.Path.{◌≡◌, refl}
use Prim.Native.Nat.{ℕ, ◌+◌, ◌*◌, ◌≤◌, ◌<◌}
use native.Mathlib.Omega.{arith}
use lib.ListN.{length, take}
use Rattle.lists.specs.Tab.{word}
use Rattle.field.specs.Field.{p}
use Rattle.answer.specs.Refusal.{accepted}
use Rattle.bitwise.specs.Columns.{NUM-COUNTERS}
use Rattle.bitwise.specs.Tuples.{kind_at}
use Rattle.bitwise.specs.Table.{fill_refusal, fill_after}
use Rattle.keccak_rc.specs.Table.{rc_trace_refusal, rc_trace_after, update_refusal, update_after}
use Rattle.is_wh_rows.specs.Calls.{dedup_refusal}
use Rattle.keccak.specs.Height.{height}
use Rattle.keccak.specs.Row.{op_at}
use Rattle.keccak.specs.Refusals.{op_count, keys_refusal, core_trace_refusal}
use Rattle.keccak.specs.Calls.{core_trace_after}
use Rattle.is_wh_trace.specs.Trace.{is_wh_height, is_wh_trace_refusal, is_wh_trace_after}
use Rattle.is_wh_counts.specs.Counts.{collect_refusal, collect_after}
use Rattle.keccak_rnd.specs.Row.{round_height}
use Rattle.keccak_rnd.specs.Refusals.{round_trace_refusal}
use Rattle.keccak_rnd.specs.Calls.{round_trace_after}
use Rattle.segment_counts.specs.Segment.{charge_refusal, charge_after}
use Rattle.verdict.specs.Honest.{RightOperation}
use Rattle.bus_sums.specs.Sums.{Fillings}
use Rattle.is_wh_sums.proofs.Written.{keys_of, rows_written}
use Rattle.segment_sums.proofs.Calls.{calls-hold, calls-idle}
use Rattle.challenge.specs.Domain.{Domain}
use Rattle.challenge.specs.Check.{Distinct, Entry, TotalsAgree, passing}
use Rattle.challenge.proofs.Often.{most-pass}
use Rattle.challenge_sums.specs.Entries.{all_entries}
use Rattle.challenge_sums.specs.Outside.{Answers, Idle}
use Rattle.challenge_sums.proofs.Honest.{all-agree}

module _ (nr floor : ℕ) (ops : List ℕ) (has : 1 ≤ op_count ops) (right : (i : ℕ) → i < op_count ops → RightOperation nr (op_at ops i))
    (differ : (i j : ℕ) → i < j → j < op_count ops → (op_at ops i).timestamp ≡ (op_at ops j).timestamp → ⊥)
    (T U : List ℕ) (wrote-core : core_trace_refusal floor (length T) ops ≡ accepted) (wrote-round : round_trace_refusal nr floor (length U) ops ≡ accepted)
    (out : List ℕ) (wrote-keys : keys_refusal (length out) ops ≡ accepted) (C S R : List ℕ)
    (wrote-rows : dedup_refusal (length C) (length S) (length R) (keys_of ops out wrote-keys) ≡ accepted)
    (W : List ℕ) (wrote-pairs : is_wh_trace_refusal (length W) (rows_written ops out wrote-keys C S R wrote-rows) ≡ accepted)
    (K : List ℕ) (wrote-constants : rc_trace_refusal K ≡ accepted) (set-constants : update_refusal nr (rc_trace_after K) (op_count ops) ≡ accepted)
    (shipped : Bool) (Z B : List ℕ) (zeros : (c : ℕ) → c < NUM-COUNTERS → word Z c ≡ 0) (charged : charge_refusal nr floor ops Z ≡ accepted)
    (collected : collect_refusal (rows_written ops out wrote-keys C S R wrote-rows) (charge_after nr floor shipped ops Z) ≡ accepted)
    (fills : fill_refusal (collect_after (rows_written ops out wrote-keys C S R wrote-rows) (charge_after nr floor shipped ops Z)) B ≡ accepted) where
  -- the tables, as they are left
  abbrev pub core_left : List ℕ
  core_left = take (height floor (op_count ops) * 486) (core_trace_after floor ops T)

  abbrev pub round_left : List ℕ
  round_left = take (round_height nr floor (op_count ops) * 1480) (round_trace_after nr floor ops U)

  abbrev pub fillings_left : Fillings
  fillings_left = record {
    bitwise = λ i k. word (fill_after (collect_after (rows_written ops out wrote-keys C S R wrote-rows) (charge_after nr floor shipped ops Z)) B) (i * 21 + (11 + k));
    constants = λ r. word (update_after nr (rc_trace_after K) (op_count ops)) (r * 10 + 9);
    is-wh = take (is_wh_height (rows_written ops out wrote-keys C S R wrote-rows) * 4) (is_wh_trace_after (rows_written ops out wrote-keys C S R wrote-rows) W);
  }

  pub left-idle : Idle fillings_left.bitwise
  unfolding kind_at
  left-idle =
      let quiet = calls-idle nr floor ops has right differ T U wrote-core wrote-round out wrote-keys C S R wrote-rows W wrote-pairs K wrote-constants set-constants shipped Z B zeros charged collected fills in
      record {
        msb8 = λ i l. quiet i 0 l (omega arith) ((λ m. refl), (λ m. refl), (λ m. refl));
        msb16 = λ i l. quiet i 1 l (omega arith) ((λ m. refl), (λ m. refl), (λ m. refl));
        zeros = λ i l. quiet i 2 l (omega arith) ((λ m. refl), (λ m. refl), (λ m. refl));
        hwsl = λ i l. quiet i 6 l (omega arith) ((λ m. refl), (λ m. refl), (λ m. refl));
      }

  module _ (more : List Entry) (answers : Answers nr core_left more) where
    abbrev pub left : List Entry
    left = all_entries nr core_left round_left fillings_left more

    -- what is sent and what is received of all words agree
    pub segment-agrees : TotalsAgree p left
    segment-agrees =
        all-agree nr core_left round_left fillings_left more answers
        (calls-hold nr floor ops has right differ T U wrote-core wrote-round out wrote-keys C S R wrote-rows W wrote-pairs K wrote-constants set-constants shipped Z B zeros charged collected fills)
        left-idle

    pub segment-at-challenges : (D : Domain p) → D.number p ≡ D.none → (αs zs : List D.F) → Distinct zs →
        length αs * length zs ≤ passing D left αs zs + length αs * length left
    segment-at-challenges D wraps = most-pass D wraps left segment-agrees
