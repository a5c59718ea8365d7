-- What the verdicts on the segments and on the job say of one another.
--     part-checked  a segment of tables that are not refused is not refused
--     together      every segment holds and no timestamp is active in two: the job holds, and its count is the sum
--     shared-named  every segment holds and a timestamp is active in two: the job's verdict names a row that repeats one
--     held-apart    where the job holds, no timestamp is active in two segments
--     held-computed where the job holds, the active core rows of each segment are computed, wherever their round rows were filed
--     held-balance  where the job holds, a segment holds or its verdict names an unbalanced tuple
--     place-most    no verdict of a report is a refusal
use mathlib.Core.Path.{◌≡◌, refl, sym, ap, subst, ◌∙◌}
use mathlib.Core.Logic.{◌⊎◌}
use mathlib.Core.Option.{Option, none, some}
use mathlib.Core.List.{List, [], ◌∷◌, Memᴰ}
use Prim.Native.Nat.{ℕ, ◌+◌, ◌≤◌, ◌<◌}
use native.Mathlib.Omega.{arith}
use Rattle.lists.specs.Tab.{word}
use Rattle.lists.specs.Sum.{sum_below}
use Rattle.lists.proofs.Sum.{sum_same}
use Rattle.bus.proofs.Listed.{mem-tab}
use Rattle.verdict.specs.Kind.{Kind, rows, row, actives, Active, SameTimestamp, DistinctTimestamps, Passes}
use Rattle.verdict.specs.Verdict.{verdict_words, stage, from_round_balance, from_core_balance, from_round_lookup, from_round_value, from_repeat, from_core_lookup, from_core_value}
use Rattle.verdict.specs.CoreAndRound.{core_layout, round_layout, core_kind, round_kind, verdict_at}
use Rattle.verdict.specs.Claims.{EachActive, Computed, Addressed}
use Rattle.verdict.specs.Failures.{RepeatsAt, ToCoreBalance}
use Rattle.verdict.specs.Job.{Segment, job_core, Separate}
use Rattle.verdict.specs.declared.Verdict.{Verdict}
use Rattle.verdict.specs.declared.Verdict.TheVariants.{Holds, Repeated, Unbalanced}
use Rattle.verdict.specs.declared.Table.TheVariants.{Core, Round}
use Rattle.verdict.proofs.Demand3.{holds-computed}
use Rattle.verdict.proofs.Failures.{verdict-says, timestamp-twice, by-balance, of-passes}
use Rattle.verdict.proofs.Job.{join-passes, job-holds}
use Rattle.verdict.proofs.Tables.{RowPasses, passes-row, row-passes}
use Rattle.judge.proofs.Passed.{verdict-passed}
use Rattle.keccak.specs.Columns.{TIMESTAMP-0, TIMESTAMP-1}
use Rattle.job.specs.Report.{segment_count, core_rows, round_rows, part_at, job_segment, segments, verdict_on, Split, Checked, SegmentsHold, Apart}
use Rattle.job.proofs.Sums.{sum-next, sum-rises}
use Rattle.job.proofs.Parts.{part-whole, parts-checked}
use Rattle.job.proofs.Whole.{part-there, there, table-row, table-active, core-joined, round-joined, actives-joined, apart-joined}

-- a part of a table that passes, passes
part-passes : (K : Kind) → 0 < K.layout.width → (ws : List ℕ) (f : ℕ → ℕ) (n : ℕ) → sum_below n f ≡ rows K.layout ws → Passes K ws →
    (i : ℕ) → i < n → Passes K (part_at K.layout ws f i)
part-passes K wide ws f n sum h i l =
    row-passes K wide (part_at K.layout ws f i) (part-whole K.layout ws (sum_below i f) (f i) (part-there K.layout ws f n sum i l))
    (λ q g. subst (RowPasses K) (sym (table-row K.layout ws f n sum wide i l q g)) (passes-row K wide ws h (sum_below i f + q) (there K.layout ws f n sum wide i l q g).1))

-- segments that pass make a core table that passes
passes-joined : (nr : ℕ) (gs : List Segment) → ((g : Segment) → Memᴰ g gs → Passes (core_kind nr) g.core-table) → Passes (core_kind nr) (job_core gs)
unfolding job_core
passes-joined nr [] h =
    record { whole = refl; below = λ k l. absurd (omega arith); values = λ r i l g. absurd (omega arith); lookups = λ r i l g. absurd (omega arith) }
passes-joined nr (g ∷ gs) h =
    let p = h g (Memᴰ.head refl) in
    join-passes (core_kind nr) (omega arith) g.core-table (job_core gs) p.whole p (passes-joined nr gs (λ k m. h k (Memᴰ.tail m)))

module _ (nr : ℕ) (core round counts : List ℕ) (tables : Checked core round) (split : Split core round counts) where
  abbrev n : ℕ
  n = segment_count counts

  abbrev core_of : ℕ → List ℕ
  core_of i = (job_segment core round counts i).core-table

  abbrev round_of : ℕ → List ℕ
  round_of i = (job_segment core round counts i).round-table

  -- where row q of segment i stands in the job's core table
  abbrev place : ℕ → ℕ → ℕ
  place i q = sum_below i (core_rows counts) + q

  active-at : (i : ℕ) → i < n → (q : ℕ) → Active core_layout (core_of i) q → Active core_layout core (place i q)
  active-at = table-active core_layout core (core_rows counts) n split.core-sum (omega arith)

  row-at : (i : ℕ) → i < n → (q : ℕ) → q < rows core_layout (core_of i) → row core_layout (core_of i) q ≡ row core_layout core (place i q)
  row-at = table-row core_layout core (core_rows counts) n split.core-sum (omega arith)

  -- a row of an earlier segment stands before one of a later segment
  earlier : (i j : ℕ) → i < j → j < n → (q r : ℕ) → q < rows core_layout (core_of i) → place i q < place j r
  earlier i j l g q r h =
      let t = there core_layout core (core_rows counts) n split.core-sum (omega arith) i (omega (arith, l, g)) q h in
      omega (arith, t.0, sum-next (core_rows counts) i, sum-rises (core_rows counts) (i + 1) j (omega (arith, l)))

  same_at : (i j : ℕ) → i < n → j < n → (q r : ℕ) → q < rows core_layout (core_of i) → r < rows core_layout (core_of j) →
      SameTimestamp (row core_layout (core_of i) q) (row core_layout (core_of j) r) → SameTimestamp (row core_layout core (place i q)) (row core_layout core (place j r))
  same_at i j l g q r a b e =
      let x = row-at i l q a in
      let y = row-at j g r b in (
        sym (ap (λ (z : List ℕ). word z TIMESTAMP-0) x) ∙ e.0 ∙ ap (λ (z : List ℕ). word z TIMESTAMP-0) y,
        sym (ap (λ (z : List ℕ). word z TIMESTAMP-1) x) ∙ e.1 ∙ ap (λ (z : List ℕ). word z TIMESTAMP-1) y,
      )

  -- a segment of tables that are not refused is not refused
  pub part-checked : (i : ℕ) → i < n → Checked (core_of i) (round_of i)
  part-checked i l =
      parts-checked core round (sum_below i (core_rows counts)) (core_rows counts i) (sum_below i (round_rows counts)) (round_rows counts i)
      (part-there core_layout core (core_rows counts) n split.core-sum i l) (part-there round_layout round (round_rows counts) n split.round-sum i l) tables

  -- ---- the segments hold
  module _ (m : ℕ → ℕ) (hold : SegmentsHold nr core round counts m) where
    -- what a segment that holds says
    core-passes : (i : ℕ) → i < n → Passes (core_kind nr) (core_of i) × (m i ≡ actives core_layout (core_of i))
    unfolding verdict_on
    core-passes i l = let s = (verdict-says nr (core_of i) (round_of i) (Holds (m i))).0 (hold i l) in (s.0, s.4)

    pub together : Apart core round counts → verdict_at nr core round ≡ Holds (sum_below n m)
    unfolding verdict_on
    together apart =
        let segs : List Segment = segments core round counts in
        sym (λ t. verdict_at nr (core-joined core round counts tables.core-whole split t) (round-joined core round counts tables.round_whole split t))
        ∙ job-holds nr segs (λ g mem.
        let r = mem-tab n (job_segment core round counts) mem in
        (m r.0, (λ t. verdict_at nr (r.2 t).core-table (r.2 t).round-table) ∙ hold r.0 r.1)) (apart-joined n (job_segment core round counts) apart)
        ∙ ap Holds (actives-joined (job_segment core round counts) n ∙ sum_same n (λ i. actives core_layout (core_of i)) m (λ i l. sym (core-passes i l).1))

    all_pass : Passes (core_kind nr) core
    all_pass =
        subst (Passes (core_kind nr)) (core-joined core round counts tables.core-whole split)
        (passes-joined nr (segments core round counts) (λ g mem.
        let r = mem-tab n (job_segment core round counts) mem in
        subst (λ (x : Segment). Passes (core_kind nr) x.core-table) (sym r.2) (core-passes r.0 r.1).0))

    pub shared-named : (i j : ℕ) → i < j → j < n → (q r : ℕ) → Active core_layout (core_of i) q → Active core_layout (core_of j) r →
        SameTimestamp (row core_layout (core_of i) q) (row core_layout (core_of j) r) →
        (s : ℕ) × (s ≤ place j r) × RepeatsAt core_layout core s × (verdict_at nr core round ≡ Repeated s)
    shared-named i j l g q r a b e =
        let p = all_pass in
        let k : i < n = omega (arith, l, g) in
        timestamp-twice (core_kind nr) round_kind core round
        (((tables.core-whole, tables.round_whole, tables.core-below, tables.round-below), p.values), p.lookups)
        (place i q) (place j r) (earlier i j l g q r a.there) (active-at i k q a) (active-at j g r b) (same_at i j k g q r a.there b.there e)

  -- ---- the job holds
  module _ (m : ℕ) (holds : verdict_at nr core round ≡ Holds m) where
    says : ToCoreBalance (core_kind nr) round_kind core round
    says = of-passes (core_kind nr) round_kind core round ((verdict-says nr core round (Holds m)).0 holds)

    distinct : DistinctTimestamps core_layout core
    distinct = says.0.0.1

    pub held-apart : Apart core round counts
    unfolding Separate DistinctTimestamps
    held-apart i j l g q r a b e =
        let k : i < n = omega (arith, l, g) in
        distinct (place i q) (place j r) (earlier i j l g q r a.there) (active-at i k q a) (active-at j g r b) (same_at i j k g q r a.there b.there e)

    pub held-computed : 1 ≤ nr → nr ≤ 24 → (i : ℕ) → i < n → EachActive (λ x. Computed nr x × Addressed x) (core_of i)
    held-computed least most i l q a =
        subst (λ x. Computed nr x × Addressed x) (sym (row-at i l q a.there)) (holds-computed nr least most core round m holds (place i q) (active-at i l q a))

    -- the timestamps of a segment differ, as those of the job do
    part-distinct : (i : ℕ) → i < n → DistinctTimestamps core_layout (core_of i)
    unfolding DistinctTimestamps
    part-distinct i l q r g a b e =
        distinct (place i q) (place i r) (omega (arith, g)) (active-at i l q a) (active-at i l r b) (same_at i i l l q r a.there b.there e)

    pub held-balance : (i : ℕ) → i < n →
        (verdict_on nr core round counts i ≡ Holds (actives core_layout (core_of i)))
        ⊎ ((r k : ℕ) × ((verdict_on nr core round counts i ≡ Unbalanced Core r k) ⊎ (verdict_on nr core round counts i ≡ Unbalanced Round r k)))
    unfolding verdict_on
    held-balance i l =
        let s = (verdict-says nr core round (Holds m)).0 holds in
        let c = part-passes (core_kind nr) (omega arith) core (core_rows counts) n split.core-sum s.0 i l in
        let r = part-passes round_kind (omega arith) round (round_rows counts) n split.round-sum s.2 i l in
        by-balance (core_kind nr) round_kind (core_of i) (round_of i)
        ((((((c.whole, r.whole, c.below, r.below), c.values), c.lookups), part-distinct i l), r.values), r.lookups)

-- ---- no refusal
stage-all : {A : Type 0} (P : Verdict → Type 0) (o : Option A) (f : A → Verdict) (v : Verdict) → ((a : A) → P (f a)) → P v → P (stage o f v)
unfolding stage
stage-all P none f v h g = g
stage-all P (some a) f v h g = h a

pub place-most : (nr : ℕ) (core round : List ℕ) → Checked core round → word (verdict_words (verdict_at nr core round)) 0 ≤ 6
unfolding from_core_value from_core_lookup from_repeat from_round_value from_round_lookup from_core_balance from_round_balance
place-most nr core round h =
    let P : Verdict → Type 0 = λ v. word (verdict_words v) 0 ≤ 6 in
    subst P (sym (verdict-passed nr core round h.core-whole h.round_whole h.core-below h.round-below))
    (stage-all P _ _ _ (λ a. omega arith)
    (stage-all P _ _ _ (λ a. omega arith)
    (stage-all P _ _ _ (λ a. omega arith)
    (stage-all P _ _ _ (λ a. omega arith)
    (stage-all P _ _ _ (λ a. omega arith)
    (stage-all P _ _ _ (λ a. omega arith)
    (stage-all P _ _ _ (λ a. omega arith)
    (omega arith))))))))
