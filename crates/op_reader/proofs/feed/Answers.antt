-- `op_reader::feed` meets its contract: after each turn the rest of the piece is left.
use Rattle.op_file.specs.declared.Reading.{Reading}
use Rattle.answer.specs.declared.Refusal.{Refusal}
use Rattle.answer.proofs.Laws.{handed-on}
use Rattle.op_file.proofs.Laws.{feed-go, feed-none}
use Rattle.op_file.proofs.Steps.{feed-refused}
use Rattle.op_file.specs.Reader.{feed_of}
use Rattle.std.specs.Prelude.{Result}
use lib.ListN.{drop, length-take, length-drop}
use native.Mathlib.Omega.{arith}
use mathlib.Core.Path.{ap, sym, ◌∙◌}
use Rattle.op_reader.proofs.feed.Goals as goal

pub returns-in_err-now : goal.returns-in_err-now
returns-in_err-now c =
    let lp = c.loop-i in
    handed-on _ c.from_residual.ensures.1
    ∙ sym (lp.invariant.1 ∙ ap (λ (x : Result Reading Refusal). feed_of x (drop lp.i c.args.chunk.now)) c.in_err-now.was ∙ feed-refused _ _)

pub advance-a-requires : goal.advance-a-requires
advance-a-requires c = simp (length-take, length-drop) (omega arith)

-- a turn: what is read of the piece, and where the reader then stands
pub loop-i-preserved : goal.loop-i-preserved
loop-i-preserved c =
    let lp = c.loop-i in
    let s = c.args.chunk.now in
    let g = feed-go _ _ _ _ s lp.invariant.0 c.advance-a.ensures in
    (g.1, lp.invariant.1 ∙ ap (λ (x : Result Reading Refusal). feed_of x (drop lp.i s)) c.in_ok-now.was ∙ g.2)

pub overflow_add-i : goal.overflow_add-i
overflow_add-i c =
    let g = feed-go _ _ _ _ c.args.chunk.now c.loop-i.invariant.0 c.advance-a.ensures in
    omega arith

pub loop-i-smaller : goal.loop-i-smaller
loop-i-smaller c =
    let g = feed-go _ _ _ _ c.args.chunk.now c.loop-i.invariant.0 c.advance-a.ensures in
    omega arith

pub returns : goal.returns
returns c = sym (c.loop-i.invariant.1 ∙ feed-none _ _ _ c.loop-i-test.false)
