-- "A job can hold while a segment fails, because a round row was filed with the wrong segment".
--     holds-only, holds-each    with nothing supposed: where two tables hold, each active round row has the timestamp of an active core row,
--                       and nr of them have that of each
--     stranger-fails    the job holds and a segment has an active round row whose timestamp no active core row of it has: its verdict names
--                       an unbalanced tuple
--     missing-fails     so it does where not nr of its active round rows have the timestamp of an active core row of it
--     misfiled-fails    so a round row that was filed with another segment than its core row makes both fail
--     two-filed, two-right   two written segments, the second one's first round row filed with the first: the job holds and both segments fail,
--                       which hold where it is filed with the second
use mathlib.Core.Path.{◌≡◌, refl, sym, ap, ◌∙◌}
use mathlib.Core.Bool.{Bool, true, ◌&&◌}
use mathlib.Core.Logic.{◌⊎◌, inl, inr}
use mathlib.Core.List.{List, [], ◌∷◌, ◌++◌, append-nil}
use Prim.Native.Nat.{ℕ, ◌+◌, ◌-◌, ◌*◌, ◌%◌, ◌≤◌, ◌<◌}
use native.Mathlib.Nat.{zero-mul}
use native.Mathlib.Omega.{arith}
use borrow.Author.Tests.{eq-eqb}
use lib.ListN.{length, take, drop}
use lib.Seq.{take_at, drop_at, take_all}
use Rattle.lists.specs.Tab.{word}
use Rattle.lists.specs.First.{count_below}
use Rattle.lists.specs.Sum.{sum_below}
use Rattle.lists.proofs.Count.{count_same, count_add, count-hit}
use Rattle.lists.proofs.Tests.{true-and}
use Rattle.lists.proofs.Then.{by_le}
use Rattle.bits.specs.Bits.{word_at}
use Rattle.keccak.specs.Columns.{TIMESTAMP-0, TIMESTAMP-1}
use Rattle.keccak.specs.Height.{height, next-power-of-two, doubled}
use Rattle.keccak.specs.Row.{core_row_at, core_table}
use Rattle.keccak.specs.declared.KeccakOperation.{KeccakOperation}
use Rattle.keccak.proofs.Table.{length-core-table}
use Rattle.keccak_rnd.specs.Columns as round
use Rattle.keccak_rnd.specs.Row.{round_pad, op_row, round_row_at, round_height, round_table}
use Rattle.keccak_rnd.proofs.Cases.{heights}
use Rattle.keccak_rnd.proofs.Cells as cells
use Rattle.keccak_rnd.proofs.Table.{round-row-at, round-table-row, length-round-table}
use Rattle.verdict.specs.Kind.{Layout, rows, row, is_active, Active, SameTimestamp, same_stamp, stamped_at, stamped}
use Rattle.verdict.specs.CoreAndRound.{core_layout, round_layout, core_kind, round_kind, verdict_at}
use Rattle.verdict.specs.Honest.{witness, last_witness, one_core, one_round}
use Rattle.verdict.specs.Job.{Separate, job_core, job_round}
use Rattle.verdict.specs.declared.Verdict.{Verdict}
use Rattle.verdict.specs.declared.Verdict.TheVariants.{Holds, Unbalanced}
use Rattle.verdict.specs.declared.Table.TheVariants.{Core, Round}
use Rattle.verdict.proofs.Bytes.{Bytes200}
use Rattle.verdict.proofs.Failures.{verdict-says}
use Rattle.verdict.proofs.Honest.{made-active, made-t0, made-t1, witness-right, last-right, one_holds}
use Rattle.verdict.proofs.Instances.{segments-hold}
use Rattle.verdict.proofs.Job.{join-rows, join-right}
use Rattle.verdict.proofs.Judge.{is-active}
use Rattle.verdict.proofs.Rounds.{core_of, round_of, write, turn, facts}
use Rattle.verdict.proofs.Tables.{table-rows, table-whole}
use Rattle.verdict.proofs.TwoTables.{total, only}
use Rattle.job.specs.Report.{segment_count, core_rows, round_rows, row_count, rows_from, job_segment, verdict_on, Split, Checked, AcceptableJob}
use Rattle.job.proofs.Sums.{sum-next, sum-rises}
use Rattle.job.proofs.Parts.{part-rows}
use Rattle.job.proofs.Together.{held-apart, held-balance}
use Rattle.job.proofs.Whole.{part-there, there, table-row, table-active}

-- the verdict names an unbalanced tuple
abbrev pub IsUnbalanced : Verdict → Type 0
IsUnbalanced v = (r k : ℕ) × ((v ≡ Unbalanced Core r k) ⊎ (v ≡ Unbalanced Round r k))

-- ---- two tables that hold
module _ (nr : ℕ) (some : 1 ≤ nr) (most : nr ≤ 24) (core round : List ℕ) (n : ℕ) (holds : verdict_at nr core round ≡ Holds n) where
  pub holds-only : (q : ℕ) → Active round_layout round q → (r : ℕ) × Active core_layout core r × SameTimestamp (row round_layout round q) (row core_layout core r)
  holds-only q a =
      let g = (verdict-says nr core round (Holds n)).0 holds in
      only nr some most (core_kind nr) round_kind turn Bytes200 core_of round_of write round_pad (facts nr) core g.1 round g.2 g.3 q a

  pub holds-each : (r : ℕ) → Active core_layout core r → stamped round_layout round (row core_layout core r) ≡ nr
  holds-each r a =
      let g = (verdict-says nr core round (Holds n)).0 holds in
      total nr some most (core_kind nr) round_kind turn Bytes200 core_of round_of write round_pad (facts nr) core g.1 round g.2 g.3 r a

-- ---- counts of a part
-- where a test passes outside of d indices from a on, fewer pass among these than of all
outside : (t : ℕ → Bool) (n a d k : ℕ) → a + d ≤ n → k < n → (k < a) ⊎ (a + d ≤ k) → t k ≡ true → count_below (λ i. t (a + i)) d < count_below t n
outside t n a d k l g side hit =
    let e : a + d + (n - (a + d)) ≡ n = omega arith in
    let all : count_below t n ≡ count_below t a + count_below (λ i. t (a + i)) d + count_below (λ i. t (a + d + i)) (n - (a + d)) =
    sym (ap (count_below t) e) ∙ count_add t (a + d) (n - (a + d)) ∙ ap (λ (m : ℕ). m + count_below (λ i. t (a + d + i)) (n - (a + d))) (count_add t a d) in
    elim side [
      | inl h ↦ omega (arith, all, count-hit t a k h hit)
      | inr h ↦ (let f : a + d + (k - (a + d)) ≡ k = omega arith in
          omega (arith, all, count-hit (λ i. t (a + d + i)) (n - (a + d)) (k - (a + d)) (omega arith) (ap t f ∙ hit)))
    ]

-- ---- a job that holds
module _ (nr : ℕ) (some : 1 ≤ nr) (most : nr ≤ 24) (core round counts : List ℕ) (tables : Checked core round) (split : Split core round counts)
    (m : ℕ) (holds : verdict_at nr core round ≡ Holds m) where
  abbrev n : ℕ
  n = segment_count counts

  abbrev core_at : ℕ → List ℕ
  core_at i = (job_segment core round counts i).core-table

  abbrev round_at : ℕ → List ℕ
  round_at i = (job_segment core round counts i).round-table

  -- a segment that can't hold fails by an unbalanced tuple
  fails : (i : ℕ) → i < n → ((v : ℕ) → verdict_on nr core round counts i ≡ Holds v → ⊥) → IsUnbalanced (verdict_on nr core round counts i)
  fails i l not-held = elim (held-balance nr core round counts tables split m holds i l) [
    | inl e ↦ absurd (not-held _ e)
    | inr x ↦ x
  ]

  pub stranger-fails : (i : ℕ) → i < n → (q : ℕ) → Active round_layout (round_at i) q →
      ((r : ℕ) → Active core_layout (core_at i) r → SameTimestamp (row round_layout (round_at i) q) (row core_layout (core_at i) r) → ⊥) →
      IsUnbalanced (verdict_on nr core round counts i)
  unfolding verdict_on
  stranger-fails i l q a alone =
      fails i l (λ v e. let o = holds-only nr some most (core_at i) (round_at i) v e q a in alone o.0 o.1 o.2)

  pub missing-fails : (i : ℕ) → i < n → (r : ℕ) → Active core_layout (core_at i) r →
      (stamped round_layout (round_at i) (row core_layout (core_at i) r) ≡ nr → ⊥) → IsUnbalanced (verdict_on nr core round counts i)
  unfolding verdict_on
  missing-fails i l r a other = fails i l (λ v e. other (holds-each nr some most (core_at i) (round_at i) v e r a))

  -- ---- a round row of segment i with the timestamp of a core row of another segment j
  module _ (i j : ℕ) (li : i < n) (lj : j < n) (apart : i ≡ j → ⊥) (q r : ℕ) (a : Active round_layout (round_at i) q) (b : Active core_layout (core_at j) r)
      (same : SameTimestamp (row round_layout (round_at i) q) (row core_layout (core_at j) r)) where
    -- no core row of segment i has it
    alone : (s : ℕ) → Active core_layout (core_at i) s → SameTimestamp (row round_layout (round_at i) q) (row core_layout (core_at i) s) → ⊥
    unfolding Separate
    alone s c e =
        by_le j i
        (λ h. held-apart nr core round counts tables split m holds j i (omega arith) li r s b c (sym same.0 ∙ e.0, sym same.1 ∙ e.1))
        (λ h. held-apart nr core round counts tables split m holds i j h lj s r c b (sym e.0 ∙ same.0, sym e.1 ∙ same.1))

    -- where the two rows stand in the job
    abbrev f : ℕ → ℕ
    f = round_rows counts

    abbrev x : List ℕ
    x = row core_layout (core_at j) r

    round-row : (s : ℕ) (l : s < n) (k : ℕ) → k < rows round_layout (round_at s) → row round_layout (round_at s) k ≡ row round_layout round (sum_below s f + k)
    round-row s l = table-row round_layout round f n split.round-sum (omega arith) s l

    hit : stamped_at round_layout round x (sum_below i f + q) ≡ true
    unfolding stamped_at same_stamp
    hit =
        let y = round-row i li q a.there in
        true-and _ _ (is-active round_layout round (table-active round_layout round f n split.round-sum (omega arith) i li q a))
        (true-and _ _ (eq-eqb _ _ (sym same.0 ∙ ap (λ (z : List ℕ). word z TIMESTAMP-0) y)) (eq-eqb _ _ (sym same.1 ∙ ap (λ (z : List ℕ). word z TIMESTAMP-1) y)))

    place : (sum_below i f + q < sum_below j f) ⊎ (sum_below j f + f j ≤ sum_below i f + q)
    place =
        let t = there round_layout round f n split.round-sum (omega arith) i li q a.there in
        by_le j i
        (λ h. inr (omega (arith, sum-next f j, sum-rises f (j + 1) i (omega arith))))
        (λ h. inl (omega (arith, t.0, sum-next f i, sum-rises f (i + 1) j (omega arith))))

    -- of the nr rows of the job that have it, segment j lacks one
    fewer : stamped round_layout (round_at j) x < nr
    unfolding stamped_at
    fewer =
        let on = part-there round_layout round f n split.round-sum j lj in
        let size : rows round_layout (round_at j) ≡ f j = part-rows round_layout round (sum_below j f) (f j) on (omega arith) in
        let test : ℕ → Bool = λ k. stamped_at round_layout round x (sum_below j f + k) in
        let part : stamped round_layout (round_at j) x ≡ count_below test (f j) =
        count_same (stamped_at round_layout (round_at j) x) test (rows round_layout (round_at j))
        (λ k l. ap (λ (y : List ℕ). (is_active round_layout y && same_stamp x y)) (round-row j lj k l))
        ∙ ap (count_below test) size in
        let less = outside (stamped_at round_layout round x) (rows round_layout round) (sum_below j f) (f j) (sum_below i f + q) on
        (there round_layout round f n split.round-sum (omega arith) i li q a.there).1 place hit in
        let whole = holds-each nr some most core round m holds (sum_below j (core_rows counts) + r) (table-active core_layout core (core_rows counts) n split.core-sum (omega arith) j lj r b) in
        let all : stamped round_layout round x ≡ nr = ap (stamped round_layout round) (table-row core_layout core (core_rows counts) n split.core-sum (omega arith) j lj r b.there) ∙ whole in
        omega (arith, part, less, all)

    pub misfiled-fails : IsUnbalanced (verdict_on nr core round counts i) × IsUnbalanced (verdict_on nr core round counts j)
    misfiled-fails = (stranger-fails i li q a alone, missing-fails j lj r b (λ e. omega (arith, e, fewer)))

-- ---- two written segments of one operation each, where the second one's first round row is filed with the first
abbrev pub both_cores : List ℕ
both_cores = one_core witness ++ one_core last_witness

abbrev pub both_rounds : List ℕ
both_rounds = one_round witness ++ one_round last_witness

abbrev pub misfiled_counts : List ℕ
misfiled_counts = 4 ∷ 33 ∷ 4 ∷ 31 ∷ []

pub both_hold : verdict_at 24 both_cores both_rounds ≡ Holds 2
unfolding job_core job_round
both_hold = (λ t. verdict_at 24 (one_core witness ++ sym (append-nil (one_core last_witness)) t) (one_round witness ++ sym (append-nil (one_round last_witness)) t)) ∙ segments-hold

both-checked : Checked both_cores both_rounds
both-checked =
    let s = (verdict-says 24 both_cores both_rounds (Holds 2)).0 both_hold in
    record { core-whole = s.0.whole; round_whole = s.2.whole; core-below = s.0.below; round-below = s.2.below }

module _ (o : KeccakOperation) where
  pub one-core : (rows core_layout (one_core o) ≡ 4) × (length (one_core o) % 486 ≡ 0)
  unfolding core_table height next-power-of-two doubled
  one-core = (table-rows core_layout (omega arith) 4 (core_row_at 1 (λ i. o)), table-whole core_layout (omega arith) 4 (core_row_at 1 (λ i. o)))

  pub one-round : (rows round_layout (one_round o) ≡ 32) × (length (one_round o) % 1480 ≡ 0)
  unfolding round_table
  one-round = (
    table-rows round_layout (omega arith) (round_height 24 4 1) (round_row_at 24 1 (λ i. o)) ∙ heights.1,
    table-whole round_layout (omega arith) (round_height 24 4 1) (round_row_at 24 1 (λ i. o)),
  )

  -- its first round row
  first_round : row round_layout (one_round o) 0 ≡ op_row 24 o 0
  first_round = round-table-row 24 1 (λ i. o) 4 0 (omega (arith, heights.1)) ∙ round-row-at 24 1 (λ i. o) 0 0 (omega arith) (omega arith)

  first_read : (word (op_row 24 o 0) round.MU ≡ 1) × (word (op_row 24 o 0) TIMESTAMP-0 ≡ word_at o.timestamp 0) × (word (op_row 24 o 0) TIMESTAMP-1 ≡ word_at o.timestamp 1)
  unfolding op_row
  first_read = (cells.read-mu _ _ _, cells.read-t0 _ _ _, cells.read-t1 _ _ _)

both-split : Split both_cores both_rounds misfiled_counts
unfolding sum_below row_count
both-split =
    let c = join-rows core_layout (omega arith) (one_core witness) (one_core last_witness) (one-core witness).1 in
    let r = join-rows round_layout (omega arith) (one_round witness) (one_round last_witness) (one-round witness).1 in
    record {
      pairs = refl;
      core-sum = omega (arith, c, (one-core witness).0, (one-core last_witness).0);
      round-sum = omega (arith, r, (one-round witness).0, (one-round last_witness).0);
    }

pub both-accepted : AcceptableJob 24 both_cores both_rounds misfiled_counts 12
both-accepted = record { some = omega arith; most = omega arith; tables = both-checked; split = both-split; long = omega arith }

abbrev filed : ℕ → ℕ
filed = round_rows misfiled_counts

-- round row 32 of the first segment is the first one of the second operation
filed-size : rows round_layout (job_segment both_cores both_rounds misfiled_counts 0).round-table ≡ 33
unfolding row_count
filed-size =
    part-rows round_layout both_rounds (sum_below 0 filed) (filed 0) (part-there round_layout both_rounds filed 2 both-split.round-sum 0 (omega arith)) (omega arith)

filed-row : row round_layout (job_segment both_cores both_rounds misfiled_counts 0).round-table 32 ≡ op_row 24 last_witness 0
unfolding sum_below
filed-row =
    let e : 32 ≡ rows round_layout (one_round witness) + 0 = omega (arith, (one-round witness).0) in
    table-row round_layout both_rounds filed 2 both-split.round-sum (omega arith) 0 (omega arith) 32 (omega (arith, filed-size))
    ∙ ap (row round_layout both_rounds) e
    ∙ join-right round_layout (omega arith) (one_round witness) (one_round last_witness) (one-round witness).1 0 ∙ first_round last_witness

-- and core row 0 of the second segment is that operation's
own-size : rows core_layout (job_segment both_cores both_rounds misfiled_counts 1).core-table ≡ 4
unfolding row_count
own-size =
    part-rows core_layout both_cores (sum_below 1 (core_rows misfiled_counts)) (core_rows misfiled_counts 1)
    (part-there core_layout both_cores (core_rows misfiled_counts) 2 both-split.core-sum 1 (omega arith)) (omega arith)

own_row : row core_layout (job_segment both_cores both_rounds misfiled_counts 1).core-table 0 ≡ row core_layout (one_core last_witness) 0
unfolding sum_below row_count
own_row =
    let e : 4 ≡ rows core_layout (one_core witness) + 0 = omega (arith, (one-core witness).0) in
    table-row core_layout both_cores (core_rows misfiled_counts) 2 both-split.core-sum (omega arith) 1 (omega arith) 0 (omega (arith, own-size))
    ∙ ap (row core_layout both_cores) e
    ∙ join-right core_layout (omega arith) (one_core witness) (one_core last_witness) (one-core witness).1 0

pub two-filed :
    IsUnbalanced (verdict_on 24 both_cores both_rounds misfiled_counts 0) × IsUnbalanced (verdict_on 24 both_cores both_rounds misfiled_counts 1)
two-filed =
    let made = made-active 4 1 (λ i. last_witness) 0 (omega arith) in
    let at : (k : ℕ) → word (row round_layout (job_segment both_cores both_rounds misfiled_counts 0).round-table 32) k ≡ word (op_row 24 last_witness 0) k =
    λ k. ap (λ (y : List ℕ). word y k) filed-row in
    let own : (k : ℕ) → word (row core_layout (job_segment both_cores both_rounds misfiled_counts 1).core-table 0) k ≡ word (row core_layout (one_core last_witness) 0) k =
    λ k. ap (λ (y : List ℕ). word y k) own_row in
    misfiled-fails 24 (omega arith) (omega arith) both_cores both_rounds misfiled_counts both-checked both-split 2 both_hold 0 1 (omega arith) (omega arith) (λ e. omega (arith, e)) 32 0
    (record { there = omega (arith, filed-size); on = at _ ∙ (first_read last_witness).0 })
    (record { there = omega (arith, own-size); on = own _ ∙ made.on }) (
      at _ ∙ (first_read last_witness).1 ∙ sym (own _ ∙ made-t0 4 1 (λ i. last_witness) 0 (omega arith)),
      at _ ∙ (first_read last_witness).2 ∙ sym (own _ ∙ made-t1 4 1 (λ i. last_witness) 0 (omega arith)),
    )

-- ---- the same tables, filed right
abbrev pub right_counts : List ℕ
right_counts = 4 ∷ 32 ∷ 4 ∷ 32 ∷ []

-- two tables one after the other, of k and of h rows
module _ (A : Layout) (a b : List ℕ) (k h : ℕ) (first : length a ≡ k * A.width) (second : length b ≡ h * A.width) where
  pub first_part : rows_from A (a ++ b) 0 k ≡ a
  unfolding rows_from
  first_part = ap (λ (n : ℕ). take (k * A.width) (drop n (a ++ b))) (zero-mul A.width) ∙ take_at a b (k * A.width) first

  pub second-part : rows_from A (a ++ b) k h ≡ b
  unfolding rows_from
  second-part = ap (take (h * A.width)) (drop_at a b (k * A.width) first) ∙ take_all (h * A.width) b (omega (arith, second))

pub one-lengths : (o : KeccakOperation) → (length (one_core o) ≡ 1944) × (length (one_round o) ≡ 47360)
unfolding height next-power-of-two doubled
one-lengths o = (length-core-table 1 (λ i. o) 4, length-round-table 24 1 (λ i. o) 4)

pub two-right : (verdict_on 24 both_cores both_rounds right_counts 0 ≡ Holds 1) × (verdict_on 24 both_cores both_rounds right_counts 1 ≡ Holds 1)
unfolding verdict_on sum_below row_count
two-right =
    let a = one-lengths witness in
    let b = one-lengths last_witness in
    let c = first_part core_layout (one_core witness) (one_core last_witness) 4 4 a.0 b.0 in
    let d = first_part round_layout (one_round witness) (one_round last_witness) 32 32 a.1 b.1 in
    let e = second-part core_layout (one_core witness) (one_core last_witness) 4 4 a.0 b.0 in
    let f = second-part round_layout (one_round witness) (one_round last_witness) 32 32 a.1 b.1 in
    ((λ t. verdict_at 24 (c t) (d t)) ∙ one_holds witness witness-right, (λ t. verdict_at 24 (e t) (f t)) ∙ one_holds last_witness last-right)
