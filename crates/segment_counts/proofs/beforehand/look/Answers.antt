-- `segment_counts::beforehand::look` meets its contract: the checks, then the copy and the answer.
use mathlib.Core.Path.{sym, ◌∙◌}
use lib.ListN.{length}
use Rattle.answer.proofs.Laws.{answers, kept, accepts, written, handed-on, is-refused, is-done}
use Rattle.segment_counts.proofs.Refusals.{look-checks, look-passed, long-enough}
use Rattle.segment_counts.proofs.beforehand.look.Goals as goal

pub check_counts-requires : goal.check_counts-requires
check_counts-requires c =
    let first = c.first_short-room in
    long-enough 20 (length c.args.counters.now) (length c.args.copy.now) (length c.args.out.now) first.result.room first.result.needed first.ensures

pub returns-in_err-check_counts : goal.returns-in_err-check_counts
returns-in_err-check_counts c =
    let found = look-checks _ _ _ _ _ _ _ _ c.first_short-room.ensures ∙ is-refused _ (sym c.in_err-check_counts.was ∙ c.check_counts.ensures) in
    record { answer = handed-on _ c.from_residual.ensures.1 ∙ answers found; copied = kept _ _ found; words = kept _ _ found }

pub fill_look-requires : goal.fill_look-requires
fill_look-requires c =
    look-passed _ _ _ _ _ _
    (look-checks _ _ _ _ _ _ _ _ c.first_short-room.ensures ∙ is-done _ (sym c.in_ok-check_counts.was ∙ c.check_counts.ensures))

pub returns : goal.returns
returns c =
    let passed = look-checks _ _ _ _ _ _ _ _ c.first_short-room.ensures ∙ is-done _ (sym c.in_ok-check_counts.was ∙ c.check_counts.ensures) in
    record {
      answer = accepts passed;
      copied = written _ passed c.fill_look.ensures.copied;
      words = written _ passed c.fill_look.ensures.words;
    }
