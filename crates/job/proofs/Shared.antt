-- A timestamp that is active in two segments: of one written segment twice both hold, and the job's verdict names core row 4, the second
-- segment's first.
use mathlib.Core.Path.{◌≡◌, refl, sym, ap, ◌∙◌}
use mathlib.Core.List.{List, ◌++◌}
use Prim.Native.Nat.{ℕ, zero, suc}
use native.Mathlib.Omega.{arith}
use Rattle.lists.specs.Tab.{word}
use Rattle.lists.specs.Sum.{sum_below}
use Rattle.lists.proofs.Then.{by_le}
use Rattle.keccak.specs.Columns.{TIMESTAMP-0, TIMESTAMP-1, MU}
use Rattle.verdict.specs.Kind.{rows, row, Active}
use Rattle.verdict.specs.CoreAndRound.{core_layout, round_layout, core_kind, round_kind, verdict_at}
use Rattle.verdict.specs.Honest.{witness, one_core, one_round}
use Rattle.verdict.specs.declared.Verdict.TheVariants.{Holds, Repeated}
use Rattle.verdict.proofs.Failures.{verdict-says}
use Rattle.verdict.proofs.Honest.{made-active, active-made, witness-right, one_holds}
use Rattle.verdict.proofs.Job.{join-rows, join-left, join-passes}
use Rattle.job.specs.Report.{row_count, job_segment, verdict_on, Split, Checked, SegmentsHold}
use Rattle.job.proofs.Together.{shared-named}
use Rattle.job.proofs.Misfiled.{right_counts, first_part, second-part, one-core, one-round, one-lengths}

abbrev pub twice_core : List ℕ
twice_core = one_core witness ++ one_core witness

abbrev pub twice_round : List ℕ
twice_round = one_round witness ++ one_round witness

twice-checked : Checked twice_core twice_round
twice-checked =
    let s = (verdict-says 24 (one_core witness) (one_round witness) (Holds 1)).0 (one_holds witness witness-right) in
    let c = join-passes (core_kind 24) (omega arith) (one_core witness) (one_core witness) s.0.whole s.0 s.0 in
    let r = join-passes round_kind (omega arith) (one_round witness) (one_round witness) s.2.whole s.2 s.2 in
    record { core-whole = c.whole; round_whole = r.whole; core-below = c.below; round-below = r.below }

twice-split : Split twice_core twice_round right_counts
unfolding sum_below row_count
twice-split =
    let c = join-rows core_layout (omega arith) (one_core witness) (one_core witness) (one-core witness).1 in
    let r = join-rows round_layout (omega arith) (one_round witness) (one_round witness) (one-round witness).1 in
    record { pairs = refl; core-sum = omega (arith, c, (one-core witness).0); round-sum = omega (arith, r, (one-round witness).0) }

-- both segments are the written one
core-first : (job_segment twice_core twice_round right_counts 0).core-table ≡ one_core witness
unfolding sum_below row_count
core-first = first_part core_layout (one_core witness) (one_core witness) 4 4 (one-lengths witness).0 (one-lengths witness).0

core-second : (job_segment twice_core twice_round right_counts 1).core-table ≡ one_core witness
unfolding sum_below row_count
core-second = second-part core_layout (one_core witness) (one_core witness) 4 4 (one-lengths witness).0 (one-lengths witness).0

pub twice-hold : SegmentsHold 24 twice_core twice_round right_counts (λ i. 1)
unfolding verdict_on sum_below row_count
twice-hold zero l =
    (λ t. verdict_at 24 (core-first t) (first_part round_layout (one_round witness) (one_round witness) 32 32 (one-lengths witness).1 (one-lengths witness).1 t)) ∙ one_holds witness witness-right
twice-hold (suc zero) l =
    (λ t. verdict_at 24 (core-second t) (second-part round_layout (one_round witness) (one_round witness) 32 32 (one-lengths witness).1 (one-lengths witness).1 t)) ∙ one_holds witness witness-right
twice-hold (suc (suc i)) l = absurd (omega arith)

-- the first row of a table that is the written one
as_written : (t : List ℕ) → t ≡ one_core witness → Active core_layout t 0
as_written t e =
    let a = made-active 4 1 (λ i. witness) 0 (omega arith) in
    record { there = omega (arith, a.there, ap (λ (x : List ℕ). rows core_layout x) e); on = ap (λ (x : List ℕ). word (row core_layout x 0) MU) e ∙ a.on }

pub twice-named : verdict_at 24 twice_core twice_round ≡ Repeated 4
unfolding sum_below row_count
twice-named =
    let f : ℕ → ℕ → ℕ = λ k i. word (row core_layout (job_segment twice_core twice_round right_counts i).core-table 0) k in
    let same : (k : ℕ) → f k 0 ≡ f k 1 = λ k. ap (λ (x : List ℕ). word (row core_layout x 0) k) (core-first ∙ sym core-second) in
    let s = shared-named 24 twice_core twice_round right_counts twice-checked twice-split (λ i. 1) twice-hold 0 1 (omega arith) (omega arith) 0 0
    (as_written _ core-first) (as_written _ core-second) (same TIMESTAMP-0, same TIMESTAMP-1) in
    let r = s.2 in
    let e : s.0 ≡ 4 =
    by_le 4 s.0 (λ h. omega (arith, h, s.1)) (λ h.
    let z = join-left core_layout (omega arith) (one_core witness) (one_core witness) (one-core witness).1 s.0 (omega (arith, h, (one-core witness).0)) in
    let a : Active core_layout (one_core witness) s.0 =
    record { there = omega (arith, h, (one-core witness).0); on = sym (ap (λ (x : List ℕ). word x MU) z) ∙ r.active.on } in
    absurd (omega (arith, active-made 4 1 (λ i. witness) s.0 a, r.before))) in
    s.3 ∙ ap Repeated e
