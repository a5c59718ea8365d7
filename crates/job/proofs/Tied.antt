-- What a call of `job` leaves. Of a call nothing is known but its contract: `Learnt` is what the `ensures` clauses in `src/` tell a
-- caller.
--     Reported         a call of `job` for nr rounds on a core table, a round table, a list of counts and a slice that was not refused, and
--                      what the slice holds when it ends
--     segment-words, job-words, words-past    the report: four words for each segment in order, four for the job, the old words past them
--     reported-*       the statements of Together.antt and Misfiled.antt, of these words
--     some-reported    nothing else is asked of a call
use mathlib.Core.Path.{◌≡◌, refl, sym, ap, subst, ◌∙◌}
use mathlib.Core.Logic.{◌⊎◌, inl, inr, ◌↔◌}
use mathlib.Core.List.{List, [], ◌∷◌}
use Prim.Native.Nat.{ℕ, ◌+◌, ◌*◌, ◌≤◌, ◌<◌}
use native.Mathlib.Omega.{arith}
use lib.ListN.{length, drop, get_or-append}
use lib.Seq.{get_or-append-add, ext_get_or}
use contract.Lifetimes.{Lfts}
use denote.Triple.Clauses.{AtExit}
use borrow.Fn.Kinds.{Dens, ended_of}
use Rattle.lists.specs.Tab.{word, table_of, row_at}
use Rattle.lists.specs.Sum.{sum_below}
use Rattle.lists.proofs.Laws.{length-table, table_at, length-row_at, word-row_at}
use Rattle.lists.proofs.Then.{by_le}
use Rattle.answer.specs.Refusal.{accepted, answer_of}
use Rattle.answer.proofs.Laws.{is-done, accepts, new_word, old-words}
use Rattle.verdict.specs.Kind.{row, Active, SameTimestamp}
use Rattle.verdict.specs.Verdict.{verdict_words}
use Rattle.verdict.specs.CoreAndRound.{core_layout, round_layout, verdict_at}
use Rattle.verdict.specs.Claims.{EachActive, Computed, Addressed}
use Rattle.verdict.specs.Failures.{RepeatsAt}
use Rattle.verdict.specs.declared.Verdict.{Verdict}
use Rattle.verdict.specs.declared.Verdict.TheVariants.{Holds}
use Rattle.job.specs.Report.{segment_count, core_rows, job_segment, verdict_on, job_verdict, report_words, job_refusal, job_after, Checked, AcceptableJob, SegmentsHold, Apart}
use Rattle.job.proofs.Words.{words-length, zero-holds}
use Rattle.job.proofs.Refusals.{job-accepted}
use Rattle.job.proofs.Turns.{report-length}
use Rattle.job.proofs.Together.{part-checked, together, shared-named, held-apart, held-computed, held-balance, place-most}
use Rattle.job.proofs.Misfiled.{IsUnbalanced, holds-only, stranger-fails, misfiled-fails, both_cores, both_rounds, misfiled_counts, both_hold, two-filed}
use Rattle.job.proofs.Filed.{filed-holds}
use Rattle.job.proofs.job.Kinds as kinds
use Rattle.job.proofs.job.Reads as reads
use Rattle.std.specs.Prelude.{Ok}

pub record Reported (nr : ℕ) (core round counts before after : List ℕ) : Type 0 where
  pub lifetimes : Lfts 3
  pub lent : Dens lifetimes kinds.ps
  pub ended : AtExit (ended_of 3 kinds.ps kinds.r) lifetimes
  pub rounds-are : lent.0 ≡ nr
  pub core_is : lent.1.0.now ≡ core
  pub round_is : lent.1.1.0.now ≡ round
  pub counts-are : lent.1.1.1.0.now ≡ counts
  pub before-is : lent.1.1.1.1.0.now ≡ before
  pub after_is : ended.1.1.1.1.0.now ≡ after
  pub says : reads.Learnt lifetimes lent (Ok tt) ended

-- the verdict on a segment that is not refused
on-segment : (nr : ℕ) (core round counts : List ℕ) (i : ℕ) → Checked (job_segment core round counts i).core-table (job_segment core round counts i).round-table →
    word (verdict_words (verdict_on nr core round counts i)) 0 ≤ 6
unfolding verdict_on
on-segment nr core round counts i h = place-most nr _ _ h

-- ---- the words of a report
module _ {nr : ℕ} {core round counts before after : List ℕ} (c : Reported nr core round counts before after) where
  taken : job_refusal nr core round counts (length before) ≡ accepted
  taken = is-done _ (c.says.0 ∙ λ t. answer_of (job_refusal (c.rounds-are t) (c.core_is t) (c.round_is t) (c.counts-are t) (length (c.before-is t))))

  known : AcceptableJob nr core round counts (length before)
  known = (job-accepted nr core round counts (length before)).0 taken

  pub left : after ≡ job_after nr core round counts before
  left = sym c.after_is ∙ c.says.1 ∙ λ t. job_after (c.rounds-are t) (c.core_is t) (c.round_is t) (c.counts-are t) (c.before-is t)

  abbrev n : ℕ
  n = segment_count counts

  abbrev table : List ℕ
  table = table_of n 4 (λ i. verdict_words (verdict_on nr core round counts i))

  abbrev whole : List ℕ
  whole = verdict_words (verdict_at nr core round)

  report-word : (k : ℕ) → k < (n + 1) * 4 → word after k ≡ word (report_words nr core round counts) k
  report-word k l = ap (λ (x : List ℕ). word x k) left ∙ new_word (report_words nr core round counts) before taken k (omega (arith, l, report-length nr core round counts))

  pub segment-words : (i : ℕ) → i < n → row_at 4 after i ≡ verdict_words (verdict_on nr core round counts i)
  unfolding report_words job_verdict
  segment-words i l =
      ext_get_or 0 (row_at 4 after i) (verdict_words (verdict_on nr core round counts i)) (length-row_at 4 after i ∙ sym (words-length (verdict_on nr core round counts i))) (λ k g.
      let h : k < 4 = omega (arith, g, length-row_at 4 after i) in
      let t : i * 4 + k < length table = omega (arith, length-table n 4 (λ j. verdict_words (verdict_on nr core round counts j))) in
      word-row_at 4 after i k h ∙ report-word (i * 4 + k) (omega arith) ∙ get_or-append table whole 0 (i * 4 + k) t
      ∙ table_at n 4 (λ j. verdict_words (verdict_on nr core round counts j)) i k l h)

  pub job-words : row_at 4 after n ≡ verdict_words (verdict_at nr core round)
  unfolding report_words job_verdict
  job-words =
      ext_get_or 0 (row_at 4 after n) whole (length-row_at 4 after n ∙ sym (words-length (verdict_at nr core round))) (λ k g.
      let h : k < 4 = omega (arith, g, length-row_at 4 after n) in
      let e : n * 4 + k ≡ length table + k = omega (arith, length-table n 4 (λ j. verdict_words (verdict_on nr core round counts j))) in
      word-row_at 4 after n k h ∙ report-word (n * 4 + k) (omega arith) ∙ ap (word (report_words nr core round counts)) e ∙ get_or-append-add table whole k 0)

  pub words-past : drop ((n + 1) * 4) after ≡ drop ((n + 1) * 4) before
  words-past =
      let e = report-length nr core round counts in
      ap (drop ((n + 1) * 4)) left ∙ (λ t. drop (sym e t) (job_after nr core round counts before)) ∙ old-words (report_words nr core round counts) before taken
      ∙ λ t. drop (e t) before

  -- ---- the statements of Together.antt
  abbrev core_of : ℕ → List ℕ
  core_of i = (job_segment core round counts i).core-table

  abbrev round_of : ℕ → List ℕ
  round_of i = (job_segment core round counts i).round-table

  segment-word : (i k : ℕ) → i < n → k < 4 → word after (i * 4 + k) ≡ word (verdict_words (verdict_on nr core round counts i)) k
  segment-word i k l h = sym (word-row_at 4 after i k h) ∙ ap (λ (x : List ℕ). word x k) (segment-words i l)

  job-word : (k : ℕ) → k < 4 → word after (n * 4 + k) ≡ word (verdict_words (verdict_at nr core round)) k
  job-word k h = sym (word-row_at 4 after n k h) ∙ ap (λ (x : List ℕ). word x k) job-words

  first_word : (i : ℕ) → word after (i * 4) ≡ word after (i * 4 + 0)
  first_word i = ap (word after) (omega arith)

  -- the segments' words tell that they hold, with their counts
  hold : ((i : ℕ) → i < n → word after (i * 4) ≡ 0) → SegmentsHold nr core round counts (λ i. word after (i * 4 + 1))
  hold z i l =
      zero-holds (verdict_on nr core round counts i) (sym (segment-word i 0 l (omega arith)) ∙ sym (first_word i) ∙ z i l)
      ∙ ap Holds (sym (segment-word i 1 l (omega arith)))

  -- the job's words tell that it holds
  job-hold : word after (n * 4) ≡ 0 → verdict_at nr core round ≡ Holds (word (verdict_words (verdict_at nr core round)) 1)
  job-hold z = zero-holds (verdict_at nr core round) (sym (job-word 0 (omega arith)) ∙ sym (first_word n) ∙ z)

  pub reported-together : ((i : ℕ) → i < n → word after (i * 4) ≡ 0) → Apart core round counts →
      row_at 4 after n ≡ 0 ∷ sum_below n (λ i. word after (i * 4 + 1)) ∷ 0 ∷ 0 ∷ []
  reported-together z apart =
      job-words ∙ ap verdict_words (together nr core round counts known.tables known.split (λ i. word after (i * 4 + 1)) (hold z) apart)

  pub reported-shared : ((i : ℕ) → i < n → word after (i * 4) ≡ 0) → (i j : ℕ) → i < j → j < n → (q r : ℕ) →
      Active core_layout (core_of i) q → Active core_layout (core_of j) r → SameTimestamp (row core_layout (core_of i) q) (row core_layout (core_of j) r) →
      (s : ℕ) × (s ≤ sum_below j (core_rows counts) + r) × RepeatsAt core_layout core s × (row_at 4 after n ≡ 3 ∷ 0 ∷ s ∷ 0 ∷ [])
  reported-shared z i j l g q r a b e =
      let h = shared-named nr core round counts known.tables known.split (λ k. word after (k * 4 + 1)) (hold z) i j l g q r a b e in
      (h.0, h.1, h.2, job-words ∙ ap verdict_words h.3)

  pub reported-apart : word after (n * 4) ≡ 0 → Apart core round counts
  reported-apart z = held-apart nr core round counts known.tables known.split _ (job-hold z)

  pub reported-computed : word after (n * 4) ≡ 0 → (i : ℕ) → i < n → EachActive (λ x. Computed nr x × Addressed x) (core_of i)
  reported-computed z = held-computed nr core round counts known.tables known.split _ (job-hold z) known.some known.most

  -- the first word of a segment's verdict, and of one that names an unbalanced tuple
  verdict-word : (i : ℕ) → i < n → (v : Verdict) → verdict_on nr core round counts i ≡ v → word after (i * 4) ≡ word (verdict_words v) 0
  verdict-word i l v e = first_word i ∙ segment-word i 0 l (omega arith) ∙ ap (λ (x : Verdict). word (verdict_words x) 0) e

  unbalanced-word : (i : ℕ) → i < n → IsUnbalanced (verdict_on nr core round counts i) → word after (i * 4) ≡ 6
  unbalanced-word i l x = elim x.2 [
    | inl e ↦ verdict-word i l _ e
    | inr e ↦ verdict-word i l _ e
  ]

  pub reported-balance : word after (n * 4) ≡ 0 → (i : ℕ) → i < n → (word after (i * 4) ≡ 0) ⊎ (word after (i * 4) ≡ 6)
  reported-balance z i l =
      elim (held-balance nr core round counts known.tables known.split _ (job-hold z) i l) [
        | inl e ↦ inl (verdict-word i l _ e)
        | inr x ↦ inr (unbalanced-word i l x)
      ]

  pub reported-stranger : word after (n * 4) ≡ 0 → (i : ℕ) → i < n → (q : ℕ) → Active round_layout (round_of i) q →
      ((r : ℕ) → Active core_layout (core_of i) r → SameTimestamp (row round_layout (round_of i) q) (row core_layout (core_of i) r) → ⊥) → word after (i * 4) ≡ 6
  reported-stranger z i l q a alone =
      unbalanced-word i l (stranger-fails nr known.some known.most core round counts known.tables known.split _ (job-hold z) i l q a alone)

  pub reported-misfiled : word after (n * 4) ≡ 0 → (i j : ℕ) → i < n → j < n → (i ≡ j → ⊥) → (q r : ℕ) → Active round_layout (round_of i) q → Active core_layout (core_of j) r →
      SameTimestamp (row round_layout (round_of i) q) (row core_layout (core_of j) r) → (word after (i * 4) ≡ 6) × (word after (j * 4) ≡ 6)
  reported-misfiled z i j l g differ q r a b e =
      let f = misfiled-fails nr known.some known.most core round counts known.tables known.split _ (job-hold z) i j l g differ q r a b e in
      (unbalanced-word i l f.0, unbalanced-word j g f.1)

  -- the segments of a job that holds do so exactly where each active round row was filed with a core row of its timestamp
  pub reported-filed : word after (n * 4) ≡ 0 → ((i : ℕ) → i < n → word after (i * 4) ≡ 0)
      ↔ ((i : ℕ) → i < n → (q : ℕ) → Active round_layout (round_of i) q →
      (r : ℕ) × Active core_layout (core_of i) r × SameTimestamp (row round_layout (round_of i) q) (row core_layout (core_of i) r))
  unfolding verdict_on
  reported-filed z = (
    (λ h i l q a. holds-only nr known.some known.most (core_of i) (round_of i) (word after (i * 4 + 1)) (hold h i l) q a),
    λ filed i l. verdict-word i l _ (filed-holds nr core round counts known.tables known.split _ (job-hold z) filed i l),
  )

  pub reported-places : (i : ℕ) → i ≤ n → word after (i * 4) ≤ 6
  reported-places i l =
      by_le n i
      (λ h.
      let e : i * 4 ≡ n * 4 + 0 = omega arith in
      subst (λ (k : ℕ). k ≤ 6) (sym (ap (word after) e ∙ job-word 0 (omega arith))) (place-most nr core round known.tables))
      (λ h.
      subst (λ (k : ℕ). k ≤ 6) (sym (first_word i ∙ segment-word i 0 h (omega arith))) (segment-most i h))
    where
      segment-most : (i : ℕ) → i < n → word (verdict_words (verdict_on nr core round counts i)) 0 ≤ 6
      segment-most i h = on-segment nr core round counts i (part-checked nr core round counts known.tables known.split i h)

-- two written segments, the second one's first round row filed with the first
pub reported-two : {before after : List ℕ} → Reported 24 both_cores both_rounds misfiled_counts before after →
    (word after 0 ≡ 6) × (word after 4 ≡ 6) × (row_at 4 after 2 ≡ 0 ∷ 2 ∷ 0 ∷ 0 ∷ [])
reported-two c = (unbalanced-word c 0 (omega arith) two-filed.0, unbalanced-word c 1 (omega arith) two-filed.1, job-words c ∙ ap verdict_words both_hold)

-- however the rows are filed, the job's words are the same
pub reported-refiled : {nr : ℕ} {core round counts before after counts' before' after' : List ℕ} → Reported nr core round counts before after →
    Reported nr core round counts' before' after' → row_at 4 after (segment_count counts) ≡ row_at 4 after' (segment_count counts')
reported-refiled c d = job-words c ∙ sym (job-words d)

-- ---- nothing else is asked of a call: one that is not refused and leaves `job_after` meets the contract
pub some-reported : (nr : ℕ) (core round counts before : List ℕ) → AcceptableJob nr core round counts (length before) →
    Reported nr core round counts before (job_after nr core round counts before)
some-reported nr core round counts before h =
    record {
      lifetimes = ([], ([], ([], tt)));
      lent = (nr, (record { ref_ptr = (0, 0); now = core }, (record { ref_ptr = (0, 0); now = round }, (record { ref_ptr = (0, 0); now = counts }, (record { ref_ptr = (0, 0); ghost_name = 0; now = before }, tt)))));
      ended = (nr, (record { ref_ptr = (0, 0); now = core }, (record { ref_ptr = (0, 0); now = round }, (record { ref_ptr = (0, 0); now = counts }, (record { ref_ptr = (0, 0); ghost_name = 0; now = job_after nr core round counts before }, tt)))));
      rounds-are = refl;
      core_is = refl;
      round_is = refl;
      counts-are = refl;
      before-is = refl;
      after_is = refl;
      says = (accepts ((job-accepted nr core round counts (length before)).1 h), refl);
    }
