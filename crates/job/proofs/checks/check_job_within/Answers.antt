-- `job::checks::check_job_within` meets its contract, one check after the other.
use mathlib.Core.Path.{sym, ap, subst, ◌∙◌}
use Prim.Native.Nat.{ℕ, ◌≤◌, ◌<◌}
use Rattle.std.specs.Prelude.{Err}
use Rattle.answer.specs.Refusal.{answer_of}
use Rattle.answer.specs.declared.Refusal.TheVariants.{TooShort}
use Rattle.answer.proofs.Laws.{handed-on, is-refused, is-done, answers}
use Rattle.job.proofs.Within.{first-refused, scratch-refused, spare-refused, words_last}
use Rattle.job.proofs.checks.check_job_within.Goals as goal

pub returns-in_err-check_counts : goal.returns-in_err-check_counts
returns-in_err-check_counts c =
    handed-on _ c.from_residual.ensures.1
    ∙ answers (first-refused _ _ _ _ _ _ _ (is-refused _ (sym c.in_err-check_counts.was ∙ c.check_counts.ensures)))

pub returns-then-scratch-n : goal.returns-then-scratch-n
returns-then-scratch-n c =
    let e = c.place_count-n.ensures in
    let f = is-done _ (sym c.in_ok-check_counts.was ∙ c.check_counts.ensures) in
    ap (λ (n : ℕ). Err (TooShort n)) e
    ∙ answers (scratch-refused _ _ _ _ _ _ _ f (subst (λ (n : ℕ). c.args.scratch < n) e c.if-scratch-n.true))

pub returns-then-spare-n : goal.returns-then-spare-n
returns-then-spare-n c =
    let e = c.place_count-n.ensures in
    let f = is-done _ (sym c.in_ok-check_counts.was ∙ c.check_counts.ensures) in
    ap (λ (n : ℕ). Err (TooShort n)) e
    ∙ answers
    (spare-refused _ _ _ _ _ _ _ f (subst (λ (n : ℕ). n ≤ c.args.scratch) e c.if-scratch-n.false)
    (subst (λ (n : ℕ). c.args.spare < n) e c.if-spare-n.true))

pub returns : goal.returns
returns c =
    let e = c.place_count-n.ensures in
    let f = is-done _ (sym c.in_ok-check_counts.was ∙ c.check_counts.ensures) in
    c.check_words.ensures
    ∙ ap answer_of
    (words_last _ _ _ _ _ _ _ f (subst (λ (n : ℕ). n ≤ c.args.scratch) e c.if-scratch-n.false)
    (subst (λ (n : ℕ). n ≤ c.args.spare) e c.if-spare-n.false))
