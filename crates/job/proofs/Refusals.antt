-- The checks of the call.
--     split-odd, split-core, split_rest   the three tests of the counts, one after the other
--     split-decides     the counts split the tables exactly where they are pairs with the tables' rows as whole sums
--     is-split, not-split   so the test passes, or fails
--     core-ragged, round-ragged   2 on a table, with its detail
--     rounds-refused, rows-refused, counts-refused, room-refused   each refusal before those of the words, after those before it
--     job-still, job-passed, job-later   these checks refuse, or the later ones decide
--     first-refused, words-decide   the same of the call, whose later ones are those of the words
--     job-accepted      the call is accepted exactly where none of the conditions is met
use mathlib.Core.Path.{◌≡◌, refl, sym, ap, ◌∙◌}
use mathlib.Core.Bool.{Bool, true, false, not}
use mathlib.Core.Logic.{◌↔◌}
use mathlib.Core.Option.{Option, some}
use mathlib.Core.List.{List}
use Prim.Native.Nat.{ℕ, ◌+◌, ◌*◌, ◌%◌, ◌≤◌, ◌<◌}
use lib.ListN.{length}
use borrow.Author.Tests.{eq-eqb, ne_eqb, lt-ltb, le-ltb, ltb-false, not-false}
use Rattle.lists.specs.Decides.{Decides}
use Rattle.lists.proofs.Decides.{decides_eq, decides_and, decides-map}
use Rattle.lists.proofs.Then.{T_true}
use Rattle.lists.proofs.Tests.{T_of}
use Rattle.answer.specs.Limits.{MAX-ROUNDS}
use Rattle.answer.specs.Refusal.{accepted, not_rounds}
use Rattle.answer.specs.declared.Refusal.{Refusal}
use Rattle.answer.specs.declared.Refusal.TheVariants.{NotWhole, TooShort}
use Rattle.answer.proofs.Laws.{refuse-yes, refuse-no, passed-if, still-if, none_told_lem}
use Rattle.answer.proofs.Refusals.{rounds-later, rounds-passed, rounds-still}
use Rattle.verdict.specs.Kind.{rows, Whole, Elements}
use Rattle.verdict.specs.CoreAndRound.{core_layout, round_layout}
use Rattle.verdict.specs.Verdict.{ragged}
use Rattle.judge.specs.Checks.{not_rows, not_words}
use Rattle.judge.proofs.Passed.{rows-still, rows-passed, rows-later, words-passed, words-later}
use Rattle.job.specs.Report.{COUNT-WORDS, VERDICT-WORDS, segment_count, adds_up, splits, Split, AcceptableJob, not_job, job_refusal}

module _ (core round counts : List ℕ) where
  pub split-odd : (length counts % COUNT-WORDS ≡ 0 → ⊥) → splits core round counts ≡ false
  unfolding splits
  split-odd h = rw (ne_eqb (length counts % COUNT-WORDS) 0 h)

  module _ (even : length counts % COUNT-WORDS ≡ 0) where
    pub split-core : adds_up counts 0 (rows core_layout core) ≡ false → splits core round counts ≡ false
    unfolding splits
    split-core h = rw (eq-eqb (length counts % COUNT-WORDS) 0 even, h)

    pub split_rest : adds_up counts 0 (rows core_layout core) ≡ true → splits core round counts ≡ adds_up counts 1 (rows round_layout round)
    unfolding splits
    split_rest h = rw (eq-eqb (length counts % COUNT-WORDS) 0 even, h)

  pub split-decides : Decides (splits core round counts) (Split core round counts)
  unfolding splits adds_up
  split-decides =
      decides-map (λ h. record { pairs = h.0; core-sum = h.1.0; round-sum = h.1.1 }) (λ h. (h.pairs, (h.core-sum, h.round-sum)))
      (decides_and (decides_eq _ _) (decides_and (decides_eq _ _) (decides_eq _ _)))

  pub is-split : Split core round counts → splits core round counts ≡ true
  is-split h = T_true (splits core round counts) (split-decides.from h)

  pub not-split : (Split core round counts → ⊥) → splits core round counts ≡ false
  not-split h = go (splits core round counts) refl
    where
      go : (b : Bool) → splits core round counts ≡ b → splits core round counts ≡ false
      go true e = absurd (h (split-decides.to (T_of (splits core round counts) e)))
      go false e = e

  pub core-ragged : (Whole core_layout core → ⊥) → not_rows core round accepted ≡ some (NotWhole 0)
  unfolding ragged
  core-ragged h = refuse-yes _ _ (ap not (ne_eqb (length core % 486) 0 h))

  pub round-ragged : Whole core_layout core → (Whole round_layout round → ⊥) → not_rows core round accepted ≡ some (NotWhole 1)
  unfolding ragged
  round-ragged whole h = refuse-no _ (ap not (eq-eqb (length core % 486) 0 whole)) (refuse-yes _ _ (ap not (ne_eqb (length round % 1480) 0 h)))

-- ---- the checks, one after the other
module _ (nr : ℕ) (core round counts : List ℕ) (room : ℕ) where
  -- the checks before those of the words
  pub record Reportable : Type 0 where
    pub some : 1 ≤ nr
    pub most : nr ≤ MAX-ROUNDS
    pub core-whole : Whole core_layout core
    pub round_whole : Whole round_layout round
    pub split : Split core round counts
    pub long : (segment_count counts + 1) * VERDICT-WORDS ≤ room

  module _ (later : Option Refusal) where
    -- 8
    pub rounds-refused : {r : Refusal} → not_rounds nr accepted ≡ some r → not_job nr core round counts room later ≡ some r
    unfolding not_job
    rounds-refused = rounds-still nr _

    module _ (range : (1 ≤ nr) × (nr ≤ 24)) where
      -- 2 on a table
      pub rows-refused : {r : Refusal} → not_rows core round accepted ≡ some r → not_job nr core round counts room later ≡ some r
      unfolding not_job
      rows-refused e = rounds-later nr _ range.0 range.1 ∙ rows-still core round _ e

      module _ (whole : Whole core_layout core × Whole round_layout round) where
        -- 2 on the counts
        pub counts-refused : splits core round counts ≡ false → not_job nr core round counts room later ≡ some (NotWhole 2)
        unfolding not_job
        counts-refused e = rounds-later nr _ range.0 range.1 ∙ rows-later core round _ whole.0 whole.1 ∙ refuse-yes _ _ (ap not e)

        module _ (split : splits core round counts ≡ true) where
          -- 3
          pub room-refused : room < (segment_count counts + 1) * VERDICT-WORDS → not_job nr core round counts room later ≡ some (TooShort ((segment_count counts + 1) * VERDICT-WORDS))
          unfolding not_job
          room-refused l =
              rounds-later nr _ range.0 range.1 ∙ rows-later core round _ whole.0 whole.1 ∙ refuse-no _ (ap not split) (refuse-yes _ _ (lt-ltb _ _ l))

          pub later-decide : (segment_count counts + 1) * VERDICT-WORDS ≤ room → not_job nr core round counts room later ≡ later
          unfolding not_job
          later-decide l =
              rounds-later nr _ range.0 range.1 ∙ rows-later core round _ whole.0 whole.1 ∙ refuse-no _ (ap not split) (refuse-no _ (le-ltb _ _ l) refl)

    -- a refusal by these checks stands, whatever is checked later
    pub job-still : {r : Refusal} → not_job nr core round counts room accepted ≡ some r → not_job nr core round counts room later ≡ some r
    unfolding not_job
    job-still = still-if _ _ (still-if _ _ (still-if _ _ (still-if _ _ (still-if _ _ (still-if _ _ (λ e. absurd (none_told_lem e)))))))

    pub job-passed : not_job nr core round counts room later ≡ accepted → Reportable × (later ≡ accepted)
    unfolding not_job
    job-passed e =
        let a = rounds-passed nr _ e in
        let b = rows-passed core round _ a.2 in
        let c = passed-if _ _ _ b.2 in
        let d = passed-if _ _ _ c.1 in (
          record {
            some = a.0;
            most = a.1;
            core-whole = b.0;
            round_whole = b.1;
            split = (split-decides core round counts).to (T_of (splits core round counts) (not-false (splits core round counts) c.0));
            long = ltb-false _ _ d.0;
          },
          d.1,
        )

    pub job-later : Reportable → not_job nr core round counts room later ≡ later
    job-later h = later-decide (h.some, h.most) (h.core-whole, h.round_whole) (is-split core round counts h.split) h.long

  -- with words below p it is a job that is accepted, and the other way
  pub acceptable : Reportable → Elements core → Elements round → AcceptableJob nr core round counts room
  acceptable h c r =
      record {
        some = h.some;
        most = h.most;
        tables = record { core-whole = h.core-whole; round_whole = h.round_whole; core-below = c; round-below = r };
        split = h.split;
        long = h.long;
      }

  pub reportable : AcceptableJob nr core round counts room → Reportable
  reportable h =
      record {
        some = h.some;
        most = h.most;
        core-whole = h.tables.core-whole;
        round_whole = h.tables.round_whole;
        split = h.split;
        long = h.long;
      }

  -- ---- the call
  pub first-refused : {r : Refusal} → not_job nr core round counts room accepted ≡ some r → job_refusal nr core round counts room ≡ some r
  unfolding job_refusal
  first-refused = job-still _

  pub words-decide : not_job nr core round counts room accepted ≡ accepted → not_words core round accepted ≡ job_refusal nr core round counts room
  unfolding job_refusal
  words-decide e = sym (job-later _ (job-passed accepted e).0)

  passed : job_refusal nr core round counts room ≡ accepted → AcceptableJob nr core round counts room
  unfolding job_refusal
  passed e =
      let a = job-passed _ e in
      let f = words-passed core round _ a.1 in
      acceptable a.0 f.0 f.1

  accepts : AcceptableJob nr core round counts room → job_refusal nr core round counts room ≡ accepted
  unfolding job_refusal
  accepts h = job-later _ (reportable h) ∙ words-later core round accepted h.tables.core-below h.tables.round-below

  pub job-accepted : (job_refusal nr core round counts room ≡ accepted) ↔ AcceptableJob nr core round counts room
  job-accepted = (passed, accepts)
