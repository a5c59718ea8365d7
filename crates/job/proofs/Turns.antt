-- The loop over the segments: after i turns the verdicts on the first i are stored, and a and b rows are passed.
use mathlib.Core.Path.{◌≡◌, refl, sym, ap, subst, ◌∙◌}
use mathlib.Core.List.{List, ◌++◌}
use Prim.Native.Nat.{ℕ, ◌+◌, ◌*◌, ◌≤◌, ◌<◌}
use native.Mathlib.Nat.{zero-add}
use native.Mathlib.Omega.{arith}
use lib.ListN.{length, length-append}
use lib.Seq.{sets}
use Rattle.lists.specs.Tab.{word, cells_of, table_of}
use Rattle.lists.specs.Sum.{sum_below}
use Rattle.lists.proofs.Laws.{Filled, filled_none, filled_row_lem, filled-rows, sets-append, length-table}
use Rattle.verdict.specs.Kind.{Layout, rows}
use Rattle.verdict.specs.Verdict.{verdict_words}
use Rattle.verdict.specs.CoreAndRound.{core_layout, round_layout, verdict_at}
use Rattle.judge_scan.specs.Tables.{layout_of}
use Rattle.verdict.specs.declared.Table.TheVariants.{Core, Round}
use Rattle.job.specs.Report.{segment_count, row_count, core_rows, round_rows, rows_from, verdict_on, job_verdict, report_words, Split, Checked}
use Rattle.answer.specs.Refusal.{overwrite}
use Rattle.answer.proofs.Laws.{sets-overwrite}
use Rattle.job.proofs.Sums.{sum-next, sum-rises}
use Rattle.job.proofs.Parts.{parts-checked}
use Rattle.job.proofs.Words.{words-length}

pub record Passed (nr : ℕ) (core round counts before report : List ℕ) (a b i : ℕ) : Type 0 where
  pub core-at : a ≡ sum_below i (core_rows counts)
  pub round-at : b ≡ sum_below i (round_rows counts)
  pub bound : i ≤ segment_count counts
  pub filled : Filled before 0 (segment_count counts * 4) (cells_of 4 (λ j. verdict_words (verdict_on nr core round counts j))) report (i * 4)

-- the two counts as they are read
pub core-read : (counts : List ℕ) (i : ℕ) → word counts (i * 2) ≡ core_rows counts i
unfolding row_count
core-read counts i = ap (word counts) (omega arith)

pub round-read : (counts : List ℕ) (i : ℕ) → word counts (i * 2 + 1) ≡ round_rows counts i
unfolding row_count
round-read counts i = refl

-- the rows of one more segment are there
more_rows : (A : Layout) (ws : List ℕ) (f : ℕ → ℕ) (n a c i : ℕ) → sum_below n f ≡ rows A ws → a ≡ sum_below i f → c ≡ f i → i < n → a + c ≤ rows A ws
more_rows A ws f n a c i e f' g l = omega (arith, e, f', g, sum-next f i, sum-rises f (i + 1) n (omega (arith, l)))

module _ (nr : ℕ) (core round counts before : List ℕ) where
  pub passed_none : Passed nr core round counts before before 0 0 0
  unfolding sum_below
  passed_none = record { core-at = refl; round-at = refl; bound = omega arith; filled = filled_none _ _ _ _ }

  module _ (split : Split core round counts) {report : List ℕ} {a b i c d : ℕ} (h : Passed nr core round counts before report a b i)
      (l : i < segment_count counts) (ec : c ≡ core_rows counts i) (ed : d ≡ round_rows counts i) where
    pub core-there : a + c ≤ rows (layout_of Core) core
    unfolding layout_of
    core-there = more_rows core_layout core (core_rows counts) (segment_count counts) a c i split.core-sum h.core-at ec l

    pub round-there : b + d ≤ rows (layout_of Round) round
    unfolding layout_of
    round-there = more_rows round_layout round (round_rows counts) (segment_count counts) b d i split.round-sum h.round-at ed l

    -- the parts are not refused
    pub turn-checked : {x y : List ℕ} → Checked core round → x ≡ rows_from (layout_of Core) core a c → y ≡ rows_from (layout_of Round) round b d → Checked x y
    unfolding layout_of
    turn-checked {y = y} t ex ey =
        subst (λ (z : List ℕ). Checked z y) (sym ex)
        (subst (λ (z : List ℕ). Checked (rows_from core_layout core a c) z) (sym ey) (parts-checked core round a c b d core-there round-there t))

    pub passed-more : {x y after : List ℕ} → x ≡ rows_from (layout_of Core) core a c → y ≡ rows_from (layout_of Round) round b d →
        after ≡ sets report (i * 4) (verdict_words (verdict_at nr x y)) → Passed nr core round counts before after (a + c) (b + d) (i + 1)
    unfolding layout_of verdict_on
    passed-more ex ey e =
        let ea : rows_from core_layout core a c ≡ rows_from core_layout core (sum_below i (core_rows counts)) (core_rows counts i) = λ t. rows_from core_layout core (h.core-at t) (ec t) in
        let eb : rows_from round_layout round b d ≡ rows_from round_layout round (sum_below i (round_rows counts)) (round_rows counts i) = λ t. rows_from round_layout round (h.round-at t) (ed t) in
        record {
          core-at = omega (arith, h.core-at, ec, sum-next (core_rows counts) i);
          round-at = omega (arith, h.round-at, ed, sum-next (round_rows counts) i);
          bound = omega (arith, l);
          filled = filled_row_lem (segment_count counts) 4 (λ j. verdict_words (verdict_on nr core round counts j)) i h.filled l
              (words-length (verdict_on nr core round counts i)) (sym (zero-add (i * 4)))
              (e ∙ λ t. sets report (i * 4) (verdict_words (verdict_at nr ((ex ∙ ea) t) ((ey ∙ eb) t))));
        }

  pub passed-all : {report : List ℕ} {a b i : ℕ} → Passed nr core round counts before report a b i → segment_count counts ≤ i →
      report ≡ sets before 0 (table_of (segment_count counts) 4 (λ j. verdict_words (verdict_on nr core round counts j)))
  passed-all {i = i} h l = filled-rows (segment_count counts) 4 _ i h.filled l

-- ---- the whole report
-- n verdicts and one more
one_more : (n : ℕ) (t v : List ℕ) → length t ≡ n * 4 → length v ≡ 4 → length (t ++ v) ≡ (n + 1) * 4
one_more n t v e f = omega (arith, length-append t v, e, f)

module _ (nr : ℕ) (core round counts : List ℕ) where
  pub report-length : length (report_words nr core round counts) ≡ (segment_count counts + 1) * 4
  unfolding report_words
  report-length =
      let row : ℕ → List ℕ = λ i. verdict_words (verdict_on nr core round counts i) in
      one_more (segment_count counts) (table_of (segment_count counts) 4 row) (verdict_words (job_verdict nr core round)) (length-table (segment_count counts) 4 row) (words-length (job_verdict nr core round))

  -- the verdicts on the segments are stored, then that on the job behind them
  pub report-stored : (before : List ℕ) {between after : List ℕ} → (segment_count counts + 1) * 4 ≤ length before →
      between ≡ sets before 0 (table_of (segment_count counts) 4 (λ i. verdict_words (verdict_on nr core round counts i))) →
      after ≡ sets between (segment_count counts * 4) (verdict_words (verdict_at nr core round)) → after ≡ overwrite (report_words nr core round counts) before
  unfolding report_words job_verdict
  report-stored before long e f =
      let n : ℕ = segment_count counts in
      let t : List ℕ = table_of n 4 (λ i. verdict_words (verdict_on nr core round counts i)) in
      let v : List ℕ = verdict_words (verdict_at nr core round) in
      let g : n * 4 ≡ 0 + length t = omega (arith, length-table n 4 (λ i. verdict_words (verdict_on nr core round counts i))) in
      f ∙ (λ i. sets (e i) (g i) v) ∙ sets-append before 0 t v ∙ sets-overwrite before (t ++ v) (omega (arith, long, report-length))
