-- `segment_counts::charge` meets its contract: the checks, then both tables.
use mathlib.Core.Path.{sym, ◌∙◌}
use Rattle.answer.proofs.Laws.{answers, kept, accepts, written, handed-on, is-refused, is-done}
use Rattle.segment_counts.proofs.Refusals.{charge-checks, charge-passed}
use Rattle.segment_counts.proofs.charge.Goals as goal

pub returns-in_err-check_counts : goal.returns-in_err-check_counts
returns-in_err-check_counts c =
    let found = charge-checks _ _ _ _ ∙ is-refused _ (sym c.in_err-check_counts.was ∙ c.check_counts.ensures) in
    record { answer = handed-on _ c.from_residual.ensures.1 ∙ answers found; words = kept _ _ found }

pub charge_segment-requires : goal.charge_segment-requires
charge_segment-requires c =
    charge-passed _ _ _ _ (charge-checks _ _ _ _ ∙ is-done _ (sym c.in_ok-check_counts.was ∙ c.check_counts.ensures))

pub returns : goal.returns
returns c =
    let passed = charge-checks _ _ _ _ ∙ is-done _ (sym c.in_ok-check_counts.was ∙ c.check_counts.ensures) in
    record { answer = accepts passed; words = written _ passed c.charge_segment.ensures }
