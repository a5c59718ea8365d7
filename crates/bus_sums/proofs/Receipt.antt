-- THE THEOREM: what a prover's sums say, and that a prover can always make them.
--     sums-core, sums-answer    where the sums agree mod p, the core table passes its lookups, and the round table passes
--                               its own and balances the Keccak bus
--     sums-verdict, sums-computed   so with timestamps that differ the verdict holds, and every active core row is
--                               computed, at its addresses
--     sums-claims               with short timestamps and few active rows all that demand 3 claims is so
--     sums-exactly              there are fillings for which the sums agree exactly where both tables pass and balance
--     sums-holds                so exactly where the verdict holds, if timestamps differ
--     sums-demand               and there are a round table and fillings exactly where the core table's lookups pass and
--                               every active row is computed; ours-filled: our round table is then such a one
--     witness-sums              the tables that are written for one operation have fillings
use mathlib.Core.List.{List}
use mathlib.Core.Logic.{◌↔◌}
use mathlib.Core.Path.{◌≡◌, refl, sym, subst}
use Prim.Native.Nat.{ℕ, ◌*◌, ◌^◌, ◌≤◌}
use native.Mathlib.Nat.{mul-le-mul}
use native.Mathlib.Omega.{arith}
use Rattle.answer.specs.Limits.{MAX-OPS}
use Rattle.tuple.specs.declared.Bus.{Bus}
use Rattle.keccak.specs.Height.{height}
use Rattle.keccak.specs.Row.{op_at, core_table, core_row_at}
use Rattle.keccak.specs.Refusals.{op_count}
use Rattle.keccak.proofs.Height.{height-le}
use Rattle.keccak_rnd.specs.Row.{round_table, round_height, round_row_at}
use Rattle.verdict.specs.Kind.{rows, Passes, Lookups, actives, DistinctTimestamps}
use Rattle.verdict.specs.CoreAndRound.{core_layout, round_layout, core_kind, verdict_at}
use Rattle.verdict.specs.Claims.{EachActive, ShortTimestamp, Addressed, Computed, Answers, ClaimsAt, operations, our_rounds}
use Rattle.verdict.specs.declared.Verdict.TheVariants.{Holds}
use Rattle.verdict.specs.Honest.{witness, one_core, one_round}
use Rattle.verdict.proofs.Failures.{verdict-says}
use Rattle.verdict.proofs.Honest.{witness-right, one_holds}
use Rattle.verdict.proofs.Tables.{table-rows}
use Rattle.verdict.proofs.Demand3.{holds-computed, demand3-at}
use Rattle.bus_sums.specs.Sums.{Fillings, Constrained, SumsHold, Filled, nobody, MAX-ROWS}
use Rattle.bus_sums.proofs.Sound.{core-lookups, round-lookups, balanced}
use Rattle.bus_sums.proofs.Complete.{complete}

-- ---- soundness
module _ (nr : ℕ) (core round : List ℕ) (w : Fillings) (others : Bus → List ℕ → ℕ) (h : SumsHold nr core round w others) where
  -- the core table passes its lookups too, and the round table is one that answers it: it passes, and the bus balances
  pub sums-core : Passes (core_kind nr) core
  sums-core =
      let c = h.core-constrained in
      record { whole = c.whole; below = c.below; values = c.values; lookups = core-lookups nr core round w others h }

  pub sums-answer : Answers nr core round
  sums-answer =
      let c = h.round-constrained in
      record {
        passes = record { whole = c.whole; below = c.below; values = c.values; lookups = round-lookups nr core round w others h };
        balanced = balanced nr core round w others h;
      }

  -- where the timestamps differ: the verdict holds, and in every active core row OUTPUT is Keccak-f of INPUT
  module _ (apart : DistinctTimestamps core_layout core) where
    pub sums-verdict : verdict_at nr core round ≡ Holds (actives core_layout core)
    sums-verdict = (verdict-says nr core round (Holds (actives core_layout core))).1 (sums-core, apart, sums-answer.passes, sums-answer.balanced, refl)

    module _ (some : 1 ≤ nr) (most : nr ≤ 24) where
      pub sums-computed : EachActive (λ x. Computed nr x × Addressed x) core
      sums-computed = holds-computed nr some most core round (actives core_layout core) sums-verdict

      -- all that demand 3 claims, for any floor of the round table's height
      pub sums-claims : actives core_layout core ≤ MAX-OPS → EachActive ShortTimestamp core → (floor : ℕ) → ClaimsAt nr floor core
      sums-claims few stamps floor = demand3-at nr floor some most core (record { passes = sums-core; few = few; apart = apart; stamps = stamps })

-- ---- exactly
module _ (nr : ℕ) (core round : List ℕ) (few-core : rows core_layout core ≤ 2 ^ 35) (few-round : rows round_layout round ≤ 2 ^ 35) where
  pub sums-exactly : Filled nr core round ↔ (Passes (core_kind nr) core × Answers nr core round)
  sums-exactly = (
    (λ (w, f, h). (sums-core nr core round w nobody h, sums-answer nr core round w nobody h)),
    (λ (c, a). complete nr core round c a (omega (arith, few-core)) (omega (arith, few-round))),
  )

  -- the verdict holds exactly where there are fillings and the timestamps differ
  pub sums-holds : (Filled nr core round × DistinctTimestamps core_layout core) ↔ (verdict_at nr core round ≡ Holds (actives core_layout core))
  sums-holds = (
    (λ ((w, f, h), apart). sums-verdict nr core round w nobody h apart),
    (λ e. let g = (verdict-says nr core round (Holds (actives core_layout core))).0 e in (sums-exactly.1 (g.0, record { passes = g.2; balanced = g.3 }), g.1)),
  )

-- the tables that are written for one operation: what is supposed above can be met
pub witness-sums : Filled 24 (one_core witness) (one_round witness)
unfolding core_table round_table
witness-sums =
    let a = table-rows core_layout (omega arith) (height 4 1) (core_row_at 1 (λ i. witness)) in
    let b = table-rows round_layout (omega arith) (round_height 24 4 1) (round_row_at 24 1 (λ i. witness)) in
    let g = (verdict-says 24 (one_core witness) (one_round witness) (Holds 1)).0 (one_holds witness witness-right) in
    (sums-exactly 24 (one_core witness) (one_round witness) (omega (arith, a, height-le 4 1)) (omega (arith, b, height-le 4 (1 * 24)))).1 (g.0, record { passes = g.2; balanced = g.3 })

-- a core table that meets its constraints, with at most 89,478,485 active rows whose timestamps differ, both words of
-- each below 2^32: nothing is supposed of its lookups
module _ (nr : ℕ) (some : 1 ≤ nr) (most : nr ≤ 24) (core : List ℕ) (constrained : Constrained (core_kind nr) core)
    (few : actives core_layout core ≤ MAX-OPS) (apart : DistinctTimestamps core_layout core) (stamps : EachActive ShortTimestamp core) where
  -- our round table is not too high
  ours-few : (floor : ℕ) → floor ≤ 65536 → op_count (operations core) ≡ actives core_layout core → rows round_layout (our_rounds nr floor core) ≤ MAX-ROWS
  unfolding our_rounds round_table
  ours-few floor low e =
      let n : ℕ = op_count (operations core) in
      let a = table-rows round_layout (omega arith) (round_height nr floor n) (round_row_at nr n (op_at (operations core))) in
      let b = height-le floor (n * nr) in
      let c : n * nr ≤ MAX-OPS * 24 = mul-le-mul (subst (λ (m : ℕ). m ≤ MAX-OPS) (sym e) few) most in
      omega (arith, a, b, c)

  -- it has fillings where the core table's lookups pass and its active rows are computed, for every floor
  pub ours-filled : (floor : ℕ) → floor ≤ 65536 → Lookups (core_kind nr) core → EachActive (Computed nr) core → Filled nr core (our_rounds nr floor core)
  ours-filled floor low ok right =
      let c : Passes (core_kind nr) core = record { whole = constrained.whole; below = constrained.below; values = constrained.values; lookups = ok } in
      let d = demand3-at nr floor some most core (record { passes = c; few = few; apart = apart; stamps = stamps }) in
      complete nr core (our_rounds nr floor core) c (d.ours right) constrained.few (ours-few floor low d.operations-count)

  pub sums-demand : ((round : List ℕ) × Filled nr core round) ↔ (Lookups (core_kind nr) core × EachActive (Computed nr) core)
  sums-demand = (
    (λ (round, (w, f, h)). ((sums-core nr core round w nobody h).lookups, λ r a. (sums-computed nr core round w nobody h apart some most r a).0)),
    (λ (ok, right). (our_rounds nr 4 core, ours-filled 4 (omega arith) ok right)),
  )
