-- `verdict_line_within` meets its contract: its own checks, then the verdict in lent memory, and its line (LentLine.antt).
use mathlib.Core.Path.{subst, sym, ◌∙◌}
use Prim.Native.Nat.{◌≤◌}
use lib.ListN.{length}
use Rattle.answer.specs.Refusal.{accepted}
use Rattle.answer.proofs.Laws.{handed-on, is-refused, is-done}
use Rattle.verdict_line.specs.Line.{LINE-MOST, Judged}
use Rattle.verdict_line.proofs.Lent.{judged-same}
use Rattle.verdict_line.proofs.LentLine.{line-stops, line-goes-on, answer-refused, bytes-kept, slice_kept, slice-left, line-answered}
use Rattle.verdict_line.proofs.verdict_line_within.Goals as goal

pub returns-in_err-check_line : goal.returns-in_err-check_line
returns-in_err-check_line c =
    let a = c.args in
    let e = line-stops a.nr a.core.now a.round.now (length a.line.now) (length a.scratch.now) (length a.spare.now) (is-refused _ (sym c.in_err-check_line.was ∙ c.check_line.ensures)) in
    record { answer = handed-on _ c.from_residual.ensures.1 ∙ answer-refused _ _ _ _ _ _ e; bytes = bytes-kept _ _ _ _ _ a.line.now e; scratch = slice_kept _ _ _ _ _ _ e a.scratch.now; spare = slice_kept _ _ _ _ _ _ e a.spare.now }

pub put_line-requires : goal.put_line-requires
put_line-requires c =
    let room : LINE-MOST ≤ length c.args.line.now = (let a = c.args in
    line-goes-on a.nr a.core.now a.round.now (length a.line.now) (length a.scratch.now) (length a.spare.now) accepted (is-done _ (sym c.in_ok-check_line.was ∙ c.check_line.ensures))) in
    let e = c.verdict_within-judged.ensures.verdict in
    ((λ j. e ∙ judged-same _ _ _ _ _ (subst Judged e j)), room)

pub returns : goal.returns
returns c =
    let room : LINE-MOST ≤ length c.args.line.now = (let a = c.args in
    line-goes-on a.nr a.core.now a.round.now (length a.line.now) (length a.scratch.now) (length a.spare.now) accepted (is-done _ (sym c.in_ok-check_line.was ∙ c.check_line.ensures))) in
    let a = c.args in
    let l = room in
    let e = c.verdict_within-judged.ensures in
    let p = c.put_line.ensures in
    let w = line-answered a.nr a.core.now a.round.now (length a.scratch.now) (length a.spare.now) a.line.now e.verdict (p.answer, (p.bytes, p.most)) l in
    let left = slice-left a.nr a.core.now a.round.now (length a.line.now) (length a.scratch.now) (length a.spare.now) l in
    record { answer = w.0; bytes = w.1; scratch = e.scratch ∙ left a.scratch.now; spare = e.spare ∙ left a.spare.now }
