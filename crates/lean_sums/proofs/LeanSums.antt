-- What a prover's sums say where the rows of the round table send the kept tuples alone.
--     lean-sums-core, lean-sums-answer   the core table passes its lookups, and the round table its kept ones, and the Keccak bus balances
--     lean-sums-computed                 so with timestamps that differ every active core row is computed, at its addresses
--     lean-sums-one-way                  and the active round rows are ours, in some order
use mathlib.Core.Bool.{Bool, true, false}
use mathlib.Core.List.{List}
use mathlib.Core.Path.{◌≡◌, refl, sym, ap, subst, ◌∙◌}
use Prim.Native.Nat.{ℕ, ◌≤◌}
use native.Mathlib.Omega.{arith}
use Rattle.answer.specs.Limits.{MAX-OPS}
use Rattle.lists.specs.Tab.{pick}
use Rattle.lists.specs.Sum.{sum_below}
use Rattle.lists.proofs.Sum.{sum_same, sum-le}
use Rattle.lists.proofs.Tests.{true-not-false}
use Rattle.tuple.specs.Tuple.{same_bus}
use Rattle.tuple.specs.declared.Bus.{Bus}
use Rattle.tuple.specs.declared.Bus.TheVariants.{Keccak}
use Rattle.tuple.specs.declared.Side.{Side}
use Rattle.tuple.specs.declared.Side.TheVariants.{Receiver}
use Rattle.matching.specs.Matching.{Matched}
use Rattle.keccak_rnd.specs.Tuples.{round_tuple}
use Rattle.keccak_rnd_lean.specs.Lean.{kept}
use Rattle.keccak_rnd_lean.proofs.Enough.{kept-below}
use Rattle.verdict.specs.Kind.{rows, row, Passes, actives, DistinctTimestamps}
use Rattle.verdict.specs.CoreAndRound.{core_layout, round_layout, core_kind, round_kind}
use Rattle.verdict.specs.Claims.{EachActive, ShortTimestamp, Addressed, Computed, our_rounds}
use Rattle.verdict.specs.Unique.{EquallyOften}
use Rattle.verdict.specs.declared.Verdict.TheVariants.{Holds}
use Rattle.verdict.proofs.Tuples.{round-bus}
use Rattle.verdict.proofs.Failures.{verdict-says}
use Rattle.verdict.proofs.Demand3.{holds-computed}
use Rattle.lean_verdict.specs.LeanTables.{LeanAnswers}
use Rattle.lean_verdict.proofs.LeanTables.{zeroed, lean-answers, lean-one-way}
use Rattle.bus_sums.specs.Sums.{Fillings, share, shares, tuple_at, table_share}
use Rattle.bus_sums.proofs.Shares.{share-most, share-none}
use Rattle.bus_sums.proofs.Buses.{no-round}
use Rattle.bus_sums.proofs.Constrained.{round-few, round-carried}
use Rattle.bus_sums.proofs.Sound.{SumsOf, core-found, round-found, even-found}
use Rattle.lean_sums.specs.LeanSums.{unsent, kept_tuple, kept_kind, lean_total, LeanSumsHold}

-- ---- a kept tuple
pub kept-is : (x : List ℕ) (i : ℕ) → kept i ≡ true → kept_tuple x i ≡ round_tuple x i
unfolding kept_tuple
kept-is x i e = ap (λ (b : Bool). pick b (round_tuple x i) (unsent (round_tuple x i))) e

pub dropped-is : (x : List ℕ) (i : ℕ) → kept i ≡ false → kept_tuple x i ≡ unsent (round_tuple x i)
unfolding kept_tuple
dropped-is x i e = ap (λ (b : Bool). pick b (round_tuple x i) (unsent (round_tuple x i))) e

module _ (s : Side) (v x : List ℕ) (i : ℕ) where
  dropped-none : (b : Bus) → kept i ≡ false → share s b v (kept_tuple x i) ≡ 0
  dropped-none b e = ap (share s b v) (dropped-is x i e) ∙ (let a = share-most s b v (unsent (round_tuple x i)) in omega (arith, a))

  kept-share-le : (b : Bus) → share s b v (kept_tuple x i) ≤ share s b v (round_tuple x i)
  kept-share-le b = go (kept i) refl
    where
      go : (c : Bool) → kept i ≡ c → share s b v (kept_tuple x i) ≤ share s b v (round_tuple x i)
      go true e = let q = ap (share s b v) (kept-is x i e) in omega (arith, q)
      go false e = let q = dropped-none b e in omega (arith, q)

  -- both Keccak tuples are kept
  kept-keccak : share s Keccak v (kept_tuple x i) ≡ share s Keccak v (round_tuple x i)
  kept-keccak = go (kept i) refl
    where
      go : (c : Bool) → kept i ≡ c → share s Keccak v (kept_tuple x i) ≡ share s Keccak v (round_tuple x i)
      go true e = ap (share s Keccak v) (kept-is x i e)
      go false e =
          dropped-none Keccak e
          ∙ sym (share-none s Keccak v (round_tuple x i)
          (λ o. true-not-false
          (ap (λ (c : Bus). same_bus c Keccak) o.bus
          ∙ round-bus.others x i (λ q. true-not-false (sym (kept-below i (omega arith)) ∙ e)) (λ q. true-not-false (sym (kept-below i (omega arith)) ∙ e)))))

-- ---- a table
module _ (s : Side) (v round : List ℕ) where
  pub lean-share-le : (b : Bus) → table_share s b v kept_kind round ≤ table_share s b v round_kind round
  unfolding shares tuple_at
  lean-share-le b =
      sum-le (rows round_layout round) (λ r. sum_below 1031 (λ i. share s b v (kept_tuple (row round_layout round r) i))) (λ r. sum_below 1031 (λ i. share s b v (round_tuple (row round_layout round r) i)))
      (λ r l. sum-le 1031 (λ i. share s b v (kept_tuple (row round_layout round r) i)) (λ i. share s b v (round_tuple (row round_layout round r) i)) (λ i g. kept-share-le s v (row round_layout round r) i b))

  pub lean-share-keccak : table_share s Keccak v kept_kind round ≡ table_share s Keccak v round_kind round
  unfolding shares tuple_at
  lean-share-keccak =
      sum_same (rows round_layout round) (λ r. sum_below 1031 (λ i. share s Keccak v (kept_tuple (row round_layout round r) i))) (λ r. sum_below 1031 (λ i. share s Keccak v (round_tuple (row round_layout round r) i)))
      (λ r l. sum_same 1031 (λ i. share s Keccak v (kept_tuple (row round_layout round r) i)) (λ i. share s Keccak v (round_tuple (row round_layout round r) i)) (λ i g. kept-keccak s v (row round_layout round r) i))

-- ---- soundness
module _ (nr : ℕ) (core round : List ℕ) (w : Fillings) (others : Bus → List ℕ → ℕ) (h : LeanSumsHold nr core round w others) where
  sums : SumsOf kept_kind nr core round w others
  unfolding lean_total
  sums =
      record {
        core-constrained = h.core-constrained;
        few = λ s b v. omega (arith, lean-share-le s v round b, round-few round h.round-constrained s b v);
        quiet = λ b q v. omega (arith, lean-share-le Receiver v round b, no-round Receiver b v q.round round);
        few-pairs = h.few-pairs;
        few-others = h.few-others;
        agree = h.agree;
      }

  pub lean-sums-core : Passes (core_kind nr) core
  lean-sums-core =
      let c = h.core-constrained in
      record { whole = c.whole; below = c.below; values = c.values; lookups = core-found kept_kind nr core round w others sums }

  pub lean-sums-answer : LeanAnswers nr core round
  lean-sums-answer =
      let c = h.round-constrained in
      record {
        passes =
            record {
              whole = c.whole;
              below = c.below;
              each = λ r l.
                  record {
                    values = λ i g. c.values r i l g;
                    lookups = λ i g k. subst Matched (kept-is (row round_layout round r) i k) (round-found kept_kind nr core round w others sums r i l g);
                  };
            };
        balanced = even-found kept_kind nr core round w others sums (λ s v. lean-share-keccak s v round ∙ round-carried round h.round-constrained s v) h.no-others;
      }

  module _ (apart : DistinctTimestamps core_layout core) (some : 1 ≤ nr) (most : nr ≤ 24) where
    -- the round table, its inactive rows put to zero, has all 1,031 lookups
    pub lean-sums-computed : EachActive (λ x. Computed nr x × Addressed x) core
    lean-sums-computed =
        let a = lean-answers nr core round lean-sums-answer in
        holds-computed nr some most core (zeroed round) (actives core_layout core)
        ((verdict-says nr core (zeroed round) (Holds (actives core_layout core))).1 (lean-sums-core, apart, a.passes, a.balanced, refl))

    pub lean-sums-one-way : actives core_layout core ≤ MAX-OPS → EachActive ShortTimestamp core → (floor : ℕ) → EquallyOften round_layout round (our_rounds nr floor core)
    lean-sums-one-way few stamps floor =
        lean-one-way nr some most core (record { passes = lean-sums-core; few = few; apart = apart; stamps = stamps }) floor round lean-sums-answer
