-- `add_operand_lo` meets its contract: a column, or a sum of terms.
use mathlib.Core.Path.{sym, ◌∙◌}
use native.Mathlib.Omega.{arith}
use Rattle.add_template.proofs.Sums.{pair-in, terms-in, lo-of}
use Rattle.add_template.proofs.operand.add_operand_lo.Goals as goal

pub offset_bounds-row-start : goal.offset_bounds-row-start
offset_bounds-row-start c = let h = pair-in c.args.row.now c.args.op c.requires c.in-DWordWL.is in omega (arith, h.0)

pub bounds-row-start : goal.bounds-row-start
bounds-row-start c = let h = pair-in c.args.row.now c.args.op c.requires c.in-DWordWL.is in omega (arith, h.0)

pub add_terms_expr-requires : goal.add_terms_expr-requires
add_terms_expr-requires c = (terms-in c.args.row.now c.args.op c.requires c.in-Linear.is).0

pub returns-in-DWordWL : goal.returns-in-DWordWL
returns-in-DWordWL c =
    let e = c.in-DWordWL.is in
    record { word = sym (lo-of c.args.row.now c.args.op e); below = (pair-in c.args.row.now c.args.op c.requires e).1 }

pub returns-in-Linear-clause-word : goal.returns-in-Linear-clause-word
returns-in-Linear-clause-word c = c.add_terms_expr.ensures.sum ∙ sym (lo-of c.args.row.now c.args.op c.in-Linear.is)
