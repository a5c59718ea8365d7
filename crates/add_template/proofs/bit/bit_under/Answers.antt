-- `bit_under` meets its contract: under a column, or always.
use mathlib.Core.Path.{◌∙◌}
use native.Mathlib.Omega.{arith}
use Rattle.add_template.proofs.Conditions.{cond-in, under-always, under-when}
use Rattle.add_template.proofs.bit.bit_under.Goals as goal

pub offset_bounds-row-col : goal.offset_bounds-row-col
offset_bounds-row-col c = let h = cond-in c.args.row.now c.in-When.is c.requires.0 in omega (arith, h.0)

pub bounds-row-col : goal.bounds-row-col
bounds-row-col c = (cond-in c.args.row.now c.in-When.is c.requires.0).0

pub returns-in-When : goal.returns-in-When
returns-in-When c =
    let e = c.in-When.is in
    c.is_bit_if.ensures ∙ under-when c.args.row.now c.args.x e (cond-in c.args.row.now e c.requires.0).1

pub returns-in-Always : goal.returns-in-Always
returns-in-Always c = c.is_bit.ensures ∙ under-always c.args.row.now c.args.x c.in-Always.is
