-- The report on a job in lent memory: its checks, that it is the report of `job`, and what is left in the slices.
--     first-refused, scratch-refused, spare-refused, words_last   the checks, one after the other
--     within-accepted       the call is accepted exactly where `job` is and both slices have room
--     job-within-same       where it is not refused, it leaves the report that `job` leaves
--     report-kept, report-written, scratch-kept, scratch-used, scratch-zeros   what is left
use mathlib.Core.Path.{◌≡◌, refl, sym, ap, ◌∙◌}
use mathlib.Core.Logic.{◌↔◌}
use mathlib.Core.Option.{Option, none, some}
use mathlib.Core.List.{List, ◌++◌}
use Prim.Native.Nat.{ℕ, ◌≤◌, ◌<◌}
use borrow.Author.Tests.{lt-ltb, le-ltb, ltb-false}
use lib.ListN.{length, take, drop}
use lib.Seq.{sets}
use Rattle.answer.specs.Refusal.{accepted, overwrite, afterwards}
use Rattle.answer.specs.declared.Refusal.{Refusal}
use Rattle.answer.specs.declared.Refusal.TheVariants.{TooShort}
use Rattle.answer.proofs.Laws.{passed-if, refuse-yes, refuse-no, kept, written}
use Rattle.judge.specs.Checks.{not_words}
use Rattle.judge.proofs.Passed.{words-passed, words-later}
use Rattle.sort_places.specs.Places.{place_count}
use Rattle.judge_within.proofs.Within.{zeros, zeros-left}
use Rattle.job.specs.Report.{not_job, report_words, job_after}
use Rattle.job.specs.Within.{job_within_refusal, job_within_after, job_scratch_after, AcceptableWithin}
use Rattle.job.proofs.Refusals.{job-still, job-passed, job-later, acceptable, reportable, job-accepted}

module _ (nr : ℕ) (core round counts : List ℕ) (room scratch spare : ℕ) where
  -- ---- one check after the other
  pub first-refused : {r : Refusal} → not_job nr core round counts room accepted ≡ some r → job_within_refusal nr core round counts room scratch spare ≡ some r
  unfolding job_within_refusal
  first-refused = job-still nr core round counts room _

  module _ (e : not_job nr core round counts room accepted ≡ none) where
    after_first : (later : Option Refusal) → not_job nr core round counts room later ≡ later
    after_first later = job-later nr core round counts room later (job-passed nr core round counts room accepted e).0

    pub scratch-refused : scratch < place_count core round → job_within_refusal nr core round counts room scratch spare ≡ some (TooShort (place_count core round))
    unfolding job_within_refusal
    scratch-refused l = after_first _ ∙ refuse-yes _ _ (lt-ltb _ _ l)

    module _ (g : place_count core round ≤ scratch) where
      pub spare-refused : spare < place_count core round → job_within_refusal nr core round counts room scratch spare ≡ some (TooShort (place_count core round))
      unfolding job_within_refusal
      spare-refused l = after_first _ ∙ refuse-no _ (le-ltb _ _ g) (refuse-yes _ _ (lt-ltb _ _ l))

      pub words_last : place_count core round ≤ spare → not_words core round accepted ≡ job_within_refusal nr core round counts room scratch spare
      unfolding job_within_refusal
      words_last l = sym (after_first _ ∙ refuse-no _ (le-ltb _ _ g) (refuse-no _ (le-ltb _ _ l) refl))

  passed : job_within_refusal nr core round counts room scratch spare ≡ accepted → AcceptableWithin nr core round counts room scratch spare
  unfolding job_within_refusal
  passed e =
      let a = job-passed nr core round counts room _ e in
      let b = passed-if _ _ _ a.1 in
      let c = passed-if _ _ _ b.1 in
      let f = words-passed core round accepted c.1 in
      record {
        job = acceptable nr core round counts room a.0 f.0 f.1;
        scratch-long = ltb-false _ _ b.0;
        spare-long = ltb-false _ _ c.0;
      }

  accepts : AcceptableWithin nr core round counts room scratch spare → job_within_refusal nr core round counts room scratch spare ≡ accepted
  unfolding job_within_refusal
  accepts h =
      let t = h.job.tables in
      job-later nr core round counts room _ (reportable nr core round counts room h.job)
      ∙ refuse-no _ (le-ltb _ _ h.scratch-long) (refuse-no _ (le-ltb _ _ h.spare-long) (words-later core round accepted t.core-below t.round-below))

  pub within-accepted : (job_within_refusal nr core round counts room scratch spare ≡ accepted) ↔ AcceptableWithin nr core round counts room scratch spare
  within-accepted = (passed, accepts)

-- ---- the report
module _ (nr : ℕ) (core round counts : List ℕ) (scratch spare : ℕ) (report : List ℕ) where
  pub report-kept : {r : Refusal} → job_within_refusal nr core round counts (length report) scratch spare ≡ some r →
      report ≡ job_within_after nr core round counts scratch spare report
  unfolding job_within_after
  report-kept e = kept (overwrite (report_words nr core round counts) report) report e

  pub report-written : {after : List ℕ} → job_within_refusal nr core round counts (length report) scratch spare ≡ none →
      after ≡ overwrite (report_words nr core round counts) report → after ≡ job_within_after nr core round counts scratch spare report
  unfolding job_within_after
  report-written e q = written report e q

  pub job-within-same : job_within_refusal nr core round counts (length report) scratch spare ≡ accepted →
      job_within_after nr core round counts scratch spare report ≡ job_after nr core round counts report
  unfolding job_within_after
  job-within-same e =
      let h = (within-accepted nr core round counts (length report) scratch spare).0 e in
      let f = (job-accepted nr core round counts (length report)).1 h.job in
      ap (λ (o : Option Refusal). afterwards o (overwrite (report_words nr core round counts) report) report) (e ∙ sym f)

-- ---- the two slices
module _ (nr : ℕ) (core round counts : List ℕ) (room scratch spare : ℕ) (old : List ℕ) where
  pub scratch-kept : {r : Refusal} → job_within_refusal nr core round counts room scratch spare ≡ some r →
      old ≡ job_scratch_after nr core round counts room scratch spare old
  unfolding job_scratch_after
  scratch-kept e = kept (overwrite (zeros (place_count core round)) old) old e

  pub scratch-used : job_within_refusal nr core round counts room scratch spare ≡ none →
      job_scratch_after nr core round counts room scratch spare old ≡ overwrite (zeros (place_count core round)) old
  unfolding job_scratch_after
  scratch-used e = sym (written old e refl)

  -- the first n words were used, and are zeros now
  pub scratch-zeros : (x : List ℕ) {new : List ℕ} (n : ℕ) → job_within_refusal nr core round counts room scratch spare ≡ none → n ≡ place_count core round → n ≤ length old →
      length x ≡ length (take n old) → new ≡ sets (x ++ drop n old) 0 (zeros n) → new ≡ job_scratch_after nr core round counts room scratch spare old
  unfolding job_scratch_after
  scratch-zeros x {new} n e q l h z =
      written old e (zeros-left old x new n l h z ∙ ap (λ (m : ℕ). overwrite (zeros m) old) q)
