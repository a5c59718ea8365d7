-- The segments of a list of counts that splits two tables: one after the other they are the tables.
--     part-there        the rows of segment i are there
--     tab-joined        a table's parts, joined
--     core-joined, round-joined   the job of the segments is the two tables: "all core rows and all round rows one after the other"
--     table-row         row q of segment i is the row of the table that stands so far behind the segments before it
--     table-active      where it is active there, it is active in the table
--     actives-joined    the active core rows, added up
--     apart-joined      segments that are apart by their indices are apart as a list
use mathlib.Core.Path.{◌≡◌, refl, sym, ap, ap₂, subst, ◌∙◌}
use mathlib.Core.List.{List, [], ◌∷◌, ◌++◌, append_assoc, append-nil}
use Prim.Native.Nat.{ℕ, zero, suc, ◌+◌, ◌*◌, ◌≤◌, ◌<◌}
use native.Mathlib.Nat.{add-mul, zero-mul, div-add-mod'}
use native.Mathlib.Omega.{arith}
use lib.ListN.{length, take}
use lib.Seq.{take-add, take_all}
use Rattle.lists.specs.Tab.{word, tab, tab_from}
use Rattle.lists.specs.Sum.{sum_below}
use Rattle.lists.proofs.Laws.{tab-add}
use Rattle.bus.proofs.Listed.{mem-tab}
use Rattle.verdict.specs.Kind.{Layout, rows, row, actives, Active, Whole}
use Rattle.verdict.specs.CoreAndRound.{core_layout, round_layout}
use Rattle.verdict.specs.Job.{Segment, job_core, job_round, job_actives, Separate, SegmentsApart}
use Rattle.job.specs.Report.{segment_count, core_rows, round_rows, rows_from, part_at, job_segment, segments, Split}
use Rattle.job.proofs.Sums.{sum-next, sum-rises}
use Rattle.job.proofs.Parts.{part-rows, part-row}

-- ---- one table and its parts
module _ (A : Layout) (ws : List ℕ) (f : ℕ → ℕ) (n : ℕ) (sum : sum_below n f ≡ rows A ws) where
  pub part-there : (i : ℕ) → i < n → sum_below i f + f i ≤ rows A ws
  part-there i l = omega (arith, sum, sum-next f i, sum-rises f (i + 1) n (omega (arith, l)))

  module _ (some : 0 < A.width) (i : ℕ) (l : i < n) where
    pub there : (q : ℕ) → q < rows A (part_at A ws f i) → (q < f i) × (sum_below i f + q < rows A ws)
    there q g =
        let e = part-rows A ws (sum_below i f) (f i) (part-there i l) some in
        (omega (arith, g, e), omega (arith, g, e, part-there i l))

    pub table-row : (q : ℕ) → q < rows A (part_at A ws f i) → row A (part_at A ws f i) q ≡ row A ws (sum_below i f + q)
    table-row q g = part-row A ws (sum_below i f) (f i) (part-there i l) some q (there q g).0

    pub table-active : (q : ℕ) → Active A (part_at A ws f i) q → Active A ws (sum_below i f + q)
    table-active q a = record { there = (there q a.there).1; on = sym (ap (λ (x : List ℕ). word x A.mu) (table-row q a.there)) ∙ a.on }

-- ---- segments, joined
-- J joins what t gives of each segment
module _ (J : List Segment → List ℕ) (t : Segment → List ℕ) (none : J [] ≡ []) (more : (g : Segment) (gs : List Segment) → J (g ∷ gs) ≡ t g ++ J gs) where
  join-append : (gs hs : List Segment) → J (gs ++ hs) ≡ J gs ++ J hs
  join-append [] hs = ap (λ (x : List ℕ). x ++ J hs) (sym none)
  join-append (g ∷ gs) hs =
      more g (gs ++ hs) ∙ ap (λ (x : List ℕ). t g ++ x) (join-append gs hs) ∙ sym (append_assoc (t g) (J gs) (J hs)) ∙ ap (λ (x : List ℕ). x ++ J hs) (sym (more g gs))

  join_one : (g : Segment) → J (g ∷ []) ≡ t g
  join_one g = more g [] ∙ ap (λ (x : List ℕ). t g ++ x) none ∙ append-nil (t g)

  module _ (A : Layout) (ws : List ℕ) (f : ℕ → ℕ) (seg : ℕ → Segment) (is : (i : ℕ) → t (seg i) ≡ part_at A ws f i) where
    pub tab-joined : (n : ℕ) → J (tab n seg) ≡ take (sum_below n f * A.width) ws
    unfolding tab tab_from sum_below rows_from
    tab-joined zero = none ∙ sym (ap (λ (k : ℕ). take k ws) (zero-mul A.width))
    tab-joined (suc n) =
        let w : ℕ = A.width in
        let e : suc n ≡ n + 1 = omega arith in
        ap (λ (k : ℕ). J (tab k seg)) e ∙ ap J (tab-add n 1 seg (λ k. seg n) (λ k l. ap seg (omega arith)))
        ∙ join-append (tab n seg) (seg n ∷ [])
        ∙ ap₂ (λ (x y : List ℕ). x ++ y) (tab-joined n) (join_one (seg n) ∙ is n)
        ∙ sym (ap (λ (k : ℕ). take k ws) (add-mul (sum_below n f) (f n) w) ∙ take-add (sum_below n f * w) (f n * w) ws)

    pub all-joined : (n : ℕ) → Whole A ws → sum_below n f ≡ rows A ws → J (tab n seg) ≡ ws
    all-joined n whole sum =
        tab-joined n
        ∙ take_all (sum_below n f * A.width) ws (omega (arith, ap (λ (k : ℕ). k * A.width) sum, div-add-mod' (length ws) A.width, whole))

-- ---- the job of the segments
module _ (core round counts : List ℕ) where
  abbrev core_of : ℕ → List ℕ
  core_of i = (job_segment core round counts i).core-table

  pub core-joined : Whole core_layout core → Split core round counts → job_core (segments core round counts) ≡ core
  unfolding job_core
  core-joined whole split =
      all-joined job_core (λ g. g.core-table) refl (λ g gs. refl) core_layout core (core_rows counts) (job_segment core round counts) (λ i. refl) (segment_count counts) whole split.core-sum

  pub round-joined : Whole round_layout round → Split core round counts → job_round (segments core round counts) ≡ round
  unfolding job_round
  round-joined whole split =
      all-joined job_round (λ g. g.round-table) refl (λ g gs. refl) round_layout round (round_rows counts) (job_segment core round counts) (λ i. refl) (segment_count counts) whole split.round-sum

-- the active core rows
actives-append : (gs hs : List Segment) → job_actives (gs ++ hs) ≡ job_actives gs + job_actives hs
unfolding job_actives
actives-append [] hs = omega arith
actives-append (g ∷ gs) hs = omega (arith, actives-append gs hs)

pub actives-joined : (seg : ℕ → Segment) (n : ℕ) → job_actives (tab n seg) ≡ sum_below n (λ i. actives core_layout (seg i).core-table)
unfolding job_actives tab tab_from sum_below
actives-joined seg zero = refl
actives-joined seg (suc n) =
    let e : suc n ≡ n + 1 = omega arith in
    ap (λ (k : ℕ). job_actives (tab k seg)) e ∙ ap job_actives (tab-add n 1 seg (λ k. seg n) (λ k l. ap seg (omega arith)))
    ∙ actives-append (tab n seg) (seg n ∷ []) ∙ omega (arith, actives-joined seg n)

-- segments that are apart
pub apart-joined : (n : ℕ) (seg : ℕ → Segment) → ((i j : ℕ) → i < j → j < n → Separate core_layout (seg i).core-table (seg j).core-table) → SegmentsApart (tab n seg)
unfolding tab tab_from
apart-joined zero seg h = tt
apart-joined (suc n) seg h =
    let e : suc n ≡ 1 + n = omega arith in
    let q : tab (suc n) seg ≡ seg 0 ∷ tab n (λ k. seg (suc k)) = ap (λ (k : ℕ). tab k seg) e ∙ tab-add 1 n seg (λ k. seg (suc k)) (λ k l. ap seg (omega arith)) in
    subst SegmentsApart (sym q) (
      (λ g m.
          let r = mem-tab n (λ k. seg (suc k)) m in
          subst (λ (x : Segment). Separate core_layout (seg 0).core-table x.core-table) (sym r.2) (h 0 (suc r.0) (omega arith) (omega (arith, r.1)))),
      apart-joined n (λ k. seg (suc k)) (λ i j l g. h (suc i) (suc j) (omega arith) (omega arith)),
    )
