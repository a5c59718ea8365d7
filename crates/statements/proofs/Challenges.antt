-- What the one sum says that a prover adds up: for each tuple of each row of each table a fraction, at two challenges. Here the step from that
-- sum to the sums of every tuple, which the page has above it (`SumsHold`), and so to demand 3. The tables are fixed; pairs of challenges are counted.
--     Domain p           what is used of the field that challenges are drawn from (challenge/specs/Domain.antt)
--     Entry, total       a tuple as a prover sees it, with its bus in front; how often given words are sent, or received
--     passing D es A Z   how many pairs of challenges, α from A and z from Z, pass for the entries es
--     Fits, AllFit       as many values as the bus has, at most K, all of them words below p
--     all_entries         the tuples of the five tables, and of other tables
--     Answers, Idle      other tables answer the core rows' Memw and Ecall tuples; nothing is counted that is not sent (challenge_sums/specs/Outside.antt)
--     In                 being an element of a list (challenge_field/specs/Elements.antt)
use mathlib.Core.Path.{◌≡◌}
use mathlib.Core.Bool.{Bool, true}
use mathlib.Core.Logic.{◌⊎◌, ◌↔◌}
use mathlib.Core.List.{List, [], map}
use Prim.Native.Nat.{ℕ, suc, ◌+◌, ◌*◌, ◌%◌, ◌^◌, ◌≤◌, ◌<◌}
use lib.ListN.{length, take}
use Rattle.lists.specs.Tab.{word}
use Rattle.field.specs.Field.{p}
use Rattle.field.proofs.Prime as prime
use Rattle.answer.specs.Refusal.{accepted}
use Rattle.tuple.specs.declared.Bus.{Bus}
use Rattle.tuple.specs.declared.Side.TheVariants.{Sender, Receiver}
use Rattle.bitwise.specs.Columns.{NUM-COUNTERS}
use Rattle.bitwise.specs.Table.{fill_refusal, fill_after}
use Rattle.keccak_rc.specs.Table as constants
use Rattle.is_wh_rows.specs.Calls.{dedup_refusal}
use Rattle.keccak.specs.Height.{height}
use Rattle.keccak.specs.Row.{op_at}
use Rattle.keccak.specs.Refusals.{op_count, keys_refusal, core_trace_refusal}
use Rattle.keccak.specs.Calls.{core_trace_after}
use Rattle.is_wh_trace.specs.Trace.{is_wh_height, is_wh_trace_refusal, is_wh_trace_after}
use Rattle.is_wh_counts.specs.Counts.{collect_refusal, collect_after}
use Rattle.keccak_rnd.specs.Row.{round_height}
use Rattle.keccak_rnd.specs.Refusals.{round_trace_refusal}
use Rattle.keccak_rnd.specs.Calls.{round_trace_after}
use Rattle.segment_counts.specs.Segment.{charge_refusal, charge_after}
use Rattle.verdict.specs.Honest.{RightOperation}
use Rattle.is_wh_sums.proofs.Written.{keys_of, rows_written}
use Rattle.verdict.specs.Kind.{rows, Elements, DistinctTimestamps}
use Rattle.verdict.specs.Claims.{EachActive, Addressed, Computed}
use Rattle.verdict.specs.CoreAndRound.{core_kind, round_kind, core_layout, round_layout}
use Rattle.bus_sums.specs.Sums.{Fillings, Constrained, SumsHold, Agree, Ours, nobody, is_wh_layout, MAX-PAIRS}
use Rattle.challenge.specs.Domain.{Domain}
use Rattle.challenge.specs.Check.{Distinct, Entry, AllFit, TotalsAgree, Sum, fraction, joined, passes, passing, total}
use Rattle.challenge.proofs.Bound as bound
use Rattle.challenge.proofs.Often as often
use Rattle.challenge.proofs.Words as below-p
use Rattle.challenge_sums.specs.Entries.{all_entries, Others, sent_by, PassesOften}
use Rattle.challenge_sums.specs.Outside.{outside, Answers, mirrored, Idle}
use Rattle.challenge_sums.proofs.Receipt as receipt
use Rattle.challenge_sums.proofs.Honest as honest
use Rattle.challenge_field.specs.Elements.{In}
use Rattle.challenge_field.proofs.Field as field
use Rattle.challenge_segment.proofs.Seldom as figure
use Rattle.challenge_segment.proofs.Segment as segment

-- ---- p is prime: a product of two words below p is 0 mod p only where one of them is 0
pub no-divisors : (a b : ℕ) → a < p → b < p → a * b % p ≡ 0 → (a ≡ 0) ⊎ (b ≡ 0)
no-divisors = prime.no-divisors

-- so the words below p are a field as the statements below suppose it
pub words-of-challenges : Domain p
words-of-challenges = below-p.words

-- ---- any tables, any field
module _ {p : ℕ} (D : Domain p) where
  -- quotients that a prover writes into its columns, of one fraction or of several each: where they add up to 0, the check passes
  pub quotients-pass : (gs : List (List Entry)) (α z : D.F) → Sum D z (map (map (fraction D α)) gs) D.none → passes D (joined gs) α z ≡ true
  quotients-pass = bound.quotients-pass D

  module _ (width : ℕ → ℕ) (K : ℕ) (es : List Entry) (fit : AllFit p width K es) where
    -- where for some words the sums differ mod p, few pairs pass
    pub few-pass : (ws : List ℕ) → ¬ (total Sender ws es % p ≡ total Receiver ws es % p) →
        (A Z : List D.F) → Distinct A → Distinct Z → passing D es A Z ≤ length es * K * length Z + length A * length es
    few-pass = bound.few-pass D width K es fit

    -- of all pairs from q elements at most one in c, where n (K + 1) c is at most q
    pub one_in : (ws : List ℕ) → ¬ (total Sender ws es % p ≡ total Receiver ws es % p) →
        (A Z : List D.F) → Distinct A → Distinct Z → (q c : ℕ) → length A ≡ q → length Z ≡ q → length es * suc K * c ≤ q →
        passing D es A Z * c ≤ q * q
    one_in = bound.one_in D width K es fit

    -- and where more pass, the sums of all words agree
    pub sums-agree : (A Z : List D.F) → Distinct A → Distinct Z → length es * K * length Z + length A * length es < passing D es A Z →
        TotalsAgree p es
    sums-agree = bound.sums-agree D width K es fit

  -- the other way: where they agree, all pairs pass but |A| n
  module _ (wraps : D.number p ≡ D.none) (es : List Entry) where
    pub most-pass : TotalsAgree p es → (A Z : List D.F) → Distinct Z → length A * length Z ≤ passing D es A Z + length A * length es
    most-pass = often.most-pass D wraps es

    -- so they agree exactly where many pairs pass
    pub exactly : (width : ℕ → ℕ) (K : ℕ) → AllFit p width K es → (A Z : List D.F) → Distinct A → Distinct Z → (q : ℕ) → length A ≡ q → length Z ≡ q →
        length es * suc (suc K) < q → TotalsAgree p es ↔ (length es * suc K * q < passing D es A Z)
    exactly = often.exactly D wraps es

-- ---- these tables, whoever filled them, and other tables of which `Others` is supposed (there may be none: `no-others`)
pub no-others : (width : ℕ → ℕ) × Others width 203 []
no-others = receipt.alone

module _ (D : Domain p) (nr : ℕ) (core round : List ℕ) (w : Fillings) (more : List Entry) (width : ℕ → ℕ) (K : ℕ)
    (core-constrained : Constrained (core_kind nr) core) (round-constrained : Constrained round_kind round)
    (few-pairs : rows is_wh_layout w.is-wh ≤ MAX-PAIRS) (is-wh-below : Elements w.is-wh) (others : Others width K more) where
  -- where a tuple's sums on one of the seven buses do not agree, at most one pair of challenges in c passes
  pub seldom-of : (n q c : ℕ) → length (all_entries nr core round w more) ≤ n → n * suc K * c ≤ q →
      (A Z : List D.F) → Distinct A → Distinct Z → length A ≡ q → length Z ≡ q →
      (b : Bus) → Ours b → (v : List ℕ) → ¬ Agree nr core round w (sent_by more) b v → passing D (all_entries nr core round w more) A Z * c ≤ q * q
  seldom-of = receipt.seldom-of D nr core round w more width K core-constrained round-constrained few-pairs is-wh-below others

  -- for a segment of at most 131,072 round rows, in a field of p^3 elements: one pair in 2^157
  pub seldom-segment : rows core_layout core ≤ 8192 → rows round_layout round ≤ 131072 → rows is_wh_layout w.is-wh ≤ 262144 → length more ≡ 0 → K ≡ 203 →
      (A Z : List D.F) → Distinct A → Distinct Z → length A ≡ p * p * p → length Z ≡ p * p * p →
      (b : Bus) → Ours b → (v : List ℕ) → ¬ Agree nr core round w (sent_by more) b v →
      passing D (all_entries nr core round w more) A Z * 2 ^ 157 ≤ p * p * p * (p * p * p)
  seldom-segment = receipt.seldom-segment D nr core round w more width K core-constrained round-constrained few-pairs is-wh-below others

  -- and within the bounds of SumsHold, with at most 2^44 tuples of other tables: one in 2^137
  pub seldom : length more ≤ 2 ^ 44 → K ≤ 255 → (A Z : List D.F) → Distinct A → Distinct Z → length A ≡ p * p * p → length Z ≡ p * p * p →
      (b : Bus) → Ours b → (v : List ℕ) → ¬ Agree nr core round w (sent_by more) b v →
      passing D (all_entries nr core round w more) A Z * 2 ^ 137 ≤ p * p * p * (p * p * p)
  seldom = receipt.seldom D nr core round w more width K core-constrained round-constrained few-pairs is-wh-below others

  -- where more pairs pass than the bound, every sum agrees, and so, where timestamps differ, every active core row is computed
  pub challenge-sums : PassesOften D K (all_entries nr core round w more) → SumsHold nr core round w (sent_by more)
  challenge-sums = receipt.challenge-sums D nr core round w more width K core-constrained round-constrained few-pairs is-wh-below others

  pub challenge-computed : PassesOften D K (all_entries nr core round w more) → DistinctTimestamps core_layout core → 1 ≤ nr → nr ≤ 24 →
      EachActive (λ x. Computed nr x × Addressed x) core
  challenge-computed = receipt.challenge-computed D nr core round w more width K core-constrained round-constrained few-pairs is-wh-below others

-- ---- fields that exist. That of the Rust's prover (tables/types.rs): w³ = 2, every element is a + b w + c w² for a, b, c below p,
-- and these are p^3
abbrev pub cubic : Domain p
cubic = field.cubic-words

pub cubic-wraps : cubic.number p ≡ cubic.none
cubic-wraps = field.cubic-wrap

pub cubic-root : (w : cubic.F) × (cubic.times (cubic.times w w) w ≡ cubic.number 2)
    × ((u : cubic.F) → (a : ℕ) × (b : ℕ) × (c : ℕ) × (a < p) × (b < p) × (c < p)
    × (u ≡ cubic.plus (cubic.plus (cubic.number a) (cubic.times (cubic.number b) w)) (cubic.times (cubic.number c) (cubic.times w w))))
cubic-root = (field.cubic-root, field.cubic-root-is, field.cubic-spans)

abbrev pub cubic-elements : List cubic.F
cubic-elements = field.elements

pub cubic-elements-are : Distinct cubic-elements × (length cubic-elements ≡ p * p * p) × ((u : cubic.F) → In u cubic-elements)
cubic-elements-are = (field.elements-distinct, field.elements-length, field.elements-all)

-- and one of p^2 elements: w² = 7
abbrev pub quadratic : Domain p
quadratic = field.quadratic-words

pub quadratic-root : (w : quadratic.F) × (quadratic.times w w ≡ quadratic.number 7)
    × ((u : quadratic.F) → (a : ℕ) × (b : ℕ) × (a < p) × (b < p) × (u ≡ quadratic.plus (quadratic.number a) (quadratic.times (quadratic.number b) w)))
quadratic-root = (field.quadratic-root, field.quadratic-root-is, field.quadratic-spans)

abbrev pub quadratic-elements : List quadratic.F
quadratic-elements = field.pairs

pub quadratic-elements-are : Distinct quadratic-elements × (length quadratic-elements ≡ p * p) × ((u : quadratic.F) → In u quadratic-elements)
quadratic-elements-are = (field.pairs-distinct, field.pairs-length, field.pairs-all)

-- so for a segment, alone, and challenges from all of the field: where some sum does not agree, at most one pair in 2^157, and in 2^93, passes
module _ (nr : ℕ) (core round : List ℕ) (w : Fillings)
    (core-constrained : Constrained (core_kind nr) core) (round-constrained : Constrained round_kind round) (is-wh-below : Elements w.is-wh) where
  pub cubic-seldom : rows core_layout core ≤ 8192 → rows round_layout round ≤ 131072 → rows is_wh_layout w.is-wh ≤ 262144 →
      (b : Bus) → Ours b → (v : List ℕ) → ¬ Agree nr core round w nobody b v →
      passing cubic (all_entries nr core round w []) cubic-elements cubic-elements * 2 ^ 157 ≤ p * p * p * (p * p * p)
  cubic-seldom = figure.cubic-seldom nr core round w core-constrained round-constrained is-wh-below

  pub quadratic-seldom : rows core_layout core ≤ 8192 → rows round_layout round ≤ 131072 → rows is_wh_layout w.is-wh ≤ 262144 →
      (b : Bus) → Ours b → (v : List ℕ) → ¬ Agree nr core round w nobody b v →
      passing quadratic (all_entries nr core round w []) quadratic-elements quadratic-elements * 2 ^ 93 ≤ p * p * (p * p)
  quadratic-seldom = figure.quadratic-seldom nr core round w core-constrained round-constrained is-wh-below

-- ---- the other way: where SumsHold, and other tables answer what the core rows say on Memw and Ecall, all words' sums agree
pub answered : (nr : ℕ) (core round : List ℕ) (w : Fillings) (more : List Entry) → Answers nr core more → SumsHold nr core round w nobody → Idle w.bitwise →
    TotalsAgree p (all_entries nr core round w more)
answered = honest.all-agree

-- there are such tables: the same tuples on the other side
pub answers-exist : (nr : ℕ) (core : List ℕ) → Answers nr core (mirrored (outside nr core))
answers-exist = honest.mirror

-- an honest segment, as the calls leave it (`segment-passes`): with tables that answer it, all pairs of challenges pass but |A| n
pub segment-at-challenges : (nr floor : ℕ) (ops : List ℕ) → 1 ≤ op_count ops → ((i : ℕ) → i < op_count ops → RightOperation nr (op_at ops i)) →
    ((i j : ℕ) → i < j → j < op_count ops → (op_at ops i).timestamp ≡ (op_at ops j).timestamp → ⊥) →
    (T U : List ℕ) → core_trace_refusal floor (length T) ops ≡ accepted → round_trace_refusal nr floor (length U) ops ≡ accepted →
    (out : List ℕ) (wrote-keys : keys_refusal (length out) ops ≡ accepted) (C S R : List ℕ)
    (wrote-rows : dedup_refusal (length C) (length S) (length R) (keys_of ops out wrote-keys) ≡ accepted)
    (W : List ℕ) → is_wh_trace_refusal (length W) (rows_written ops out wrote-keys C S R wrote-rows) ≡ accepted →
    (K : List ℕ) → constants.rc_trace_refusal K ≡ accepted → constants.update_refusal nr (constants.rc_trace_after K) (op_count ops) ≡ accepted →
    (shipped : Bool) (Z B : List ℕ) → ((c : ℕ) → c < NUM-COUNTERS → word Z c ≡ 0) → charge_refusal nr floor ops Z ≡ accepted →
    collect_refusal (rows_written ops out wrote-keys C S R wrote-rows) (charge_after nr floor shipped ops Z) ≡ accepted →
    fill_refusal (collect_after (rows_written ops out wrote-keys C S R wrote-rows) (charge_after nr floor shipped ops Z)) B ≡ accepted →
    let core : List ℕ = take (height floor (op_count ops) * 486) (core_trace_after floor ops T) in
    let round : List ℕ = take (round_height nr floor (op_count ops) * 1480) (round_trace_after nr floor ops U) in
    let w : Fillings =
    record {
      bitwise = λ i k. word (fill_after (collect_after (rows_written ops out wrote-keys C S R wrote-rows) (charge_after nr floor shipped ops Z)) B) (i * 21 + (11 + k));
      constants = λ r. word (constants.update_after nr (constants.rc_trace_after K) (op_count ops)) (r * 10 + 9);
      is-wh = take (is_wh_height (rows_written ops out wrote-keys C S R wrote-rows) * 4) (is_wh_trace_after (rows_written ops out wrote-keys C S R wrote-rows) W);
    } in
    (more : List Entry) → Answers nr core more → (D : Domain p) → D.number p ≡ D.none → (αs zs : List D.F) → Distinct zs →
    length αs * length zs ≤ passing D (all_entries nr core round w more) αs zs + length αs * length (all_entries nr core round w more)
segment-at-challenges = segment.segment-at-challenges
