-- What a call of `job_within` leaves, of which nothing is known but its contract (Tied.antt has the same of `job`).
--     CalledWithin      a call of `job_within`, its answer, and what the three lent slices hold when it ends
--     within-told, report-after, scratch-holds, spare-holds   they are what the definitions say, refused or not
--     ReportedWithin    a call that was not refused
--     as-reported       its report is one that `job` leaves: all that is said of `Reported` is said of it
--     reported-same     both calls leave the same report
--     scratch-left, spare-left   zeros in the words that were used, the old words behind them
--     some-called       nothing else is asked of a call
use mathlib.Core.Path.{◌≡◌, refl, sym, subst, ◌∙◌}
use mathlib.Core.List.{List, []}
use Prim.Native.Nat.{ℕ}
use lib.ListN.{length}
use contract.Lifetimes.{Lfts}
use denote.Triple.Clauses.{AtExit}
use borrow.Fn.Kinds.{Dens, ended_of}
use Rattle.lists.specs.Tab.{tab}
use Rattle.answer.specs.Refusal.{accepted, overwrite, answer_of}
use Rattle.answer.proofs.Laws.{is-done}
use Rattle.sort_places.specs.Places.{place_count}
use Rattle.job.specs.Report.{job_after}
use Rattle.job.specs.Within.{job_within_refusal, job_within_after, job_scratch_after, AcceptableWithin}
use Rattle.job.proofs.Within.{within-accepted, job-within-same, scratch-used}
use Rattle.job.proofs.Tied.{Reported, some-reported, left}
use Rattle.job.proofs.job_within.Kinds as kinds
use Rattle.job.proofs.job_within.Reads as reads
use Rattle.std.specs.Prelude.{Result, Ok, ⊤}
use Rattle.answer.specs.declared.Refusal.{Refusal}

pub record CalledWithin (nr : ℕ) (core round counts before after scratch scratch' spare spare' : List ℕ) (answer : Result ⊤ Refusal) : Type 0 where
  pub lifetimes : Lfts 5
  pub lent : Dens lifetimes kinds.ps
  pub ended : AtExit (ended_of 5 kinds.ps kinds.r) lifetimes
  pub rounds-are : lent.0 ≡ nr
  pub core_is : lent.1.0.now ≡ core
  pub round_is : lent.1.1.0.now ≡ round
  pub counts-are : lent.1.1.1.0.now ≡ counts
  pub before-is : lent.1.1.1.1.0.now ≡ before
  pub scratch-is : lent.1.1.1.1.1.0.now ≡ scratch
  pub spare-is : lent.1.1.1.1.1.1.0.now ≡ spare
  pub after_is : ended.1.1.1.1.0.now ≡ after
  pub scratch_after : ended.1.1.1.1.1.0.now ≡ scratch'
  pub spare-after : ended.1.1.1.1.1.1.0.now ≡ spare'
  pub says : reads.Learnt lifetimes lent answer ended

module _ {nr : ℕ} {core round counts before after scratch scratch' spare spare' : List ℕ} {answer : Result ⊤ Refusal}
    (c : CalledWithin nr core round counts before after scratch scratch' spare spare' answer) where
  pub within-told : answer ≡ answer_of (job_within_refusal nr core round counts (length before) (length scratch) (length spare))
  within-told =
      c.says.0
      ∙ λ t. answer_of (job_within_refusal (c.rounds-are t) (c.core_is t) (c.round_is t) (c.counts-are t) (length (c.before-is t)) (length (c.scratch-is t)) (length (c.spare-is t)))

  pub report-after : after ≡ job_within_after nr core round counts (length scratch) (length spare) before
  report-after =
      sym c.after_is ∙ c.says.1.0
      ∙ λ t. job_within_after (c.rounds-are t) (c.core_is t) (c.round_is t) (c.counts-are t) (length (c.scratch-is t)) (length (c.spare-is t)) (c.before-is t)

  pub scratch-holds : scratch' ≡ job_scratch_after nr core round counts (length before) (length scratch) (length spare) scratch
  scratch-holds =
      sym c.scratch_after ∙ c.says.1.1.0
      ∙ λ t. job_scratch_after (c.rounds-are t) (c.core_is t) (c.round_is t) (c.counts-are t) (length (c.before-is t)) (length (c.scratch-is t)) (length (c.spare-is t)) (c.scratch-is t)

  pub spare-holds : spare' ≡ job_scratch_after nr core round counts (length before) (length scratch) (length spare) spare
  spare-holds =
      sym c.spare-after ∙ c.says.1.1.1
      ∙ λ t. job_scratch_after (c.rounds-are t) (c.core_is t) (c.round_is t) (c.counts-are t) (length (c.before-is t)) (length (c.scratch-is t)) (length (c.spare-is t)) (c.spare-is t)

abbrev pub ReportedWithin : ℕ → List ℕ → List ℕ → List ℕ → List ℕ → List ℕ → List ℕ → List ℕ → List ℕ → List ℕ → Type 0
ReportedWithin nr core round counts before after scratch scratch' spare spare' = CalledWithin nr core round counts before after scratch scratch' spare spare' (Ok tt)

module _ {nr : ℕ} {core round counts before after scratch scratch' spare spare' : List ℕ} (c : ReportedWithin nr core round counts before after scratch scratch' spare spare') where
  taken : job_within_refusal nr core round counts (length before) (length scratch) (length spare) ≡ accepted
  taken = is-done _ (within-told c)

  known : AcceptableWithin nr core round counts (length before) (length scratch) (length spare)
  known = (within-accepted nr core round counts (length before) (length scratch) (length spare)).0 taken

  report-is : job_after nr core round counts before ≡ after
  report-is = sym (report-after c ∙ job-within-same nr core round counts (length scratch) (length spare) before taken)

  pub as-reported : Reported nr core round counts before after
  as-reported = subst (Reported nr core round counts before) report-is (some-reported nr core round counts before known.job)

  pub scratch-left : scratch' ≡ overwrite (tab (place_count core round) (λ k. 0)) scratch
  scratch-left = scratch-holds c ∙ scratch-used nr core round counts (length before) (length scratch) (length spare) scratch taken

  pub spare-left : spare' ≡ overwrite (tab (place_count core round) (λ k. 0)) spare
  spare-left = spare-holds c ∙ scratch-used nr core round counts (length before) (length scratch) (length spare) spare taken

  -- a call of `job` with the same arguments
  pub reported-same : {after' : List ℕ} → Reported nr core round counts before after' → after ≡ after'
  reported-same d = sym report-is ∙ sym (left d)

-- ---- nothing else is asked of a call, refused or not
pub some-called : (nr : ℕ) (core round counts before scratch spare : List ℕ) →
    CalledWithin nr core round counts before (job_within_after nr core round counts (length scratch) (length spare) before)
    scratch (job_scratch_after nr core round counts (length before) (length scratch) (length spare) scratch)
    spare (job_scratch_after nr core round counts (length before) (length scratch) (length spare) spare)
    (answer_of (job_within_refusal nr core round counts (length before) (length scratch) (length spare)))
some-called nr core round counts before scratch spare =
    let words : List ℕ = job_within_after nr core round counts (length scratch) (length spare) before in
    let used : List ℕ → List ℕ = job_scratch_after nr core round counts (length before) (length scratch) (length spare) in
    record {
      lifetimes = ([], ([], ([], ([], ([], tt)))));
      lent = (nr, (record { ref_ptr = (0, 0); now = core }, (record { ref_ptr = (0, 0); now = round }, (record { ref_ptr = (0, 0); now = counts }, (record { ref_ptr = (0, 0); ghost_name = 0; now = before }, (record { ref_ptr = (0, 0); ghost_name = 0; now = scratch }, (record { ref_ptr = (0, 0); ghost_name = 0; now = spare }, tt)))))));
      ended = (nr, (record { ref_ptr = (0, 0); now = core }, (record { ref_ptr = (0, 0); now = round }, (record { ref_ptr = (0, 0); now = counts }, (record { ref_ptr = (0, 0); ghost_name = 0; now = words }, (record { ref_ptr = (0, 0); ghost_name = 0; now = used scratch }, (record { ref_ptr = (0, 0); ghost_name = 0; now = used spare }, tt)))))));
      rounds-are = refl;
      core_is = refl;
      round_is = refl;
      counts-are = refl;
      before-is = refl;
      scratch-is = refl;
      spare-is = refl;
      after_is = refl;
      scratch_after = refl;
      spare-after = refl;
      says = (refl, (refl, (refl, refl)));
    }
