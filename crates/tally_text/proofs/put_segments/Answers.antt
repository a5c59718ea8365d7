-- `tally_text::put_segments` meets its contract: a line, or nothing.
use mathlib.Core.Bool.{Bool}
use mathlib.Core.List.{[]}
use mathlib.Core.Path.{◌≡◌, ap, sym}
use native.Mathlib.Omega.{arith}
use lib.Dec.{eqb}
use borrow.Author.Tests.{eq-eqb, ne_eqb}
use Rattle.lists.specs.Tab.{pick}
use Rattle.text.proofs.Laws.{puts-as, puts-nothing}
use Rattle.op_file.specs.declared.Segments.{Segments}
use Rattle.tally_text.specs.Output.{segments-name, pair_line, segments_line}
use Rattle.tally_text.proofs.put_segments.Goals as goal

-- the two cases of the definition
line-is : (s : Segments) (b : Bool) → eqb s.shown 0 ≡ b → pick b [] (pair_line segments-name s.least s.greatest) ≡ segments_line s
unfolding segments_line
line-is s b e = ap (λ (c : Bool). pick c [] (pair_line segments-name s.least s.greatest)) (sym e)

pub returns-then-s-eq0 : goal.returns-then-s-eq0
returns-then-s-eq0 c = (puts-as (puts-nothing _ _) (line-is _ _ (eq-eqb _ _ c.if-s-eq0.true)), omega arith)

pub returns : goal.returns
returns c =
    let p = c.put_pair.ensures in
    (puts-as p.0 (line-is _ _ (ne_eqb _ _ c.if-s-eq0.false)), omega (arith, p.1))
