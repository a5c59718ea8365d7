-- `job::job_within` meets its contract: the checks, the report, then zeros (Within.antt).
use mathlib.Core.Path.{sym, ◌∙◌}
use native.Mathlib.Omega.{arith}
use lib.Seq.{length-take-le}
use Rattle.answer.proofs.Laws.{handed-on, is-refused, is-done, answers, accepts}
use Rattle.judge_within.proofs.Within.{front-room}
use Rattle.job.proofs.Within.{within-accepted, report-kept, report-written, scratch-kept, scratch-zeros}
use Rattle.job.proofs.job_within.Goals as goal

pub returns-in_err-check_job_within : goal.returns-in_err-check_job_within
returns-in_err-check_job_within c =
    let a = c.args in
    let e = is-refused _ (sym c.in_err-check_job_within.was ∙ c.check_job_within.ensures) in
    record {
      answer = handed-on _ c.from_residual.ensures.1 ∙ answers e;
      words = report-kept a.nr a.core.now a.round.now a.counts.now _ _ a.report.now e;
      scratch = scratch-kept a.nr a.core.now a.round.now a.counts.now _ _ _ a.scratch.now e;
      spare = scratch-kept a.nr a.core.now a.round.now a.counts.now _ _ _ a.spare.now e;
    }

pub slice_bounds-put_report-end : goal.slice_bounds-put_report-end
slice_bounds-put_report-end c =
    let h = (within-accepted _ _ _ _ _ _ _).0 (is-done _ (sym c.in_ok-check_job_within.was ∙ c.check_job_within.ensures)) in
    omega (arith, c.place_count-n.ensures, h.scratch-long)

pub slice_bounds-put_report-end-2 : goal.slice_bounds-put_report-end-2
slice_bounds-put_report-end-2 c =
    let h = (within-accepted _ _ _ _ _ _ _).0 (is-done _ (sym c.in_ok-check_job_within.was ∙ c.check_job_within.ensures)) in
    sym (length-take-le _ _ (omega (arith, c.place_count-n.ensures, h.scratch-long)))

pub slice_bounds-put_report-end-3 : goal.slice_bounds-put_report-end-3
slice_bounds-put_report-end-3 c =
    let h = (within-accepted _ _ _ _ _ _ _).0 (is-done _ (sym c.in_ok-check_job_within.was ∙ c.check_job_within.ensures)) in
    omega (arith, c.place_count-n.ensures, h.spare-long)

pub slice_bounds-put_report-end-4 : goal.slice_bounds-put_report-end-4
slice_bounds-put_report-end-4 c =
    let h = (within-accepted _ _ _ _ _ _ _).0 (is-done _ (sym c.in_ok-check_job_within.was ∙ c.check_job_within.ensures)) in
    sym (length-take-le _ _ (omega (arith, c.place_count-n.ensures, h.spare-long)))

pub put_report-requires : goal.put_report-requires
put_report-requires c =
    let h = ((within-accepted _ _ _ _ _ _ _).0 (is-done _ (sym c.in_ok-check_job_within.was ∙ c.check_job_within.ensures))).job in
    (h.most, h.tables, h.split, h.long)

pub put_zeros-requires : goal.put_zeros-requires
put_zeros-requires c =
    let h = (within-accepted _ _ _ _ _ _ _).0 (is-done _ (sym c.in_ok-check_job_within.was ∙ c.check_job_within.ensures)) in
    let g = front-room _ c.put_report.new.scratch _ (omega (arith, c.place_count-n.ensures, h.scratch-long)) c.put_report.auto.scratch in
    omega (arith, g)

pub put_zeros-requires-2 : goal.put_zeros-requires-2
put_zeros-requires-2 c =
    let h = (within-accepted _ _ _ _ _ _ _).0 (is-done _ (sym c.in_ok-check_job_within.was ∙ c.check_job_within.ensures)) in
    front-room _ c.put_report.new.spare _ (omega (arith, c.place_count-n.ensures, h.spare-long)) c.put_report.auto.spare

pub returns : goal.returns
returns c =
    let e = is-done _ (sym c.in_ok-check_job_within.was ∙ c.check_job_within.ensures) in
    let h = (within-accepted _ _ _ _ _ _ _).0 e in
    let q = c.place_count-n.ensures in
    record {
      answer = accepts e;
      words = report-written _ _ _ _ _ _ _ e c.put_report.ensures;
      scratch =
          scratch-zeros _ _ _ _ _ _ _ _ c.put_report.new.scratch _ e q (omega (arith, q, h.scratch-long)) c.put_report.auto.scratch
          c.put_zeros.ensures;
      spare =
          scratch-zeros _ _ _ _ _ _ _ _ c.put_report.new.spare _ e q (omega (arith, q, h.spare-long)) c.put_report.auto.spare
          c.put_zeros-2.ensures;
    }
