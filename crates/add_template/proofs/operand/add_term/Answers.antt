-- `add_term` meets its contract: one term more.
use mathlib.Core.Path.{◌≡◌, sym, ap, ◌∙◌}
use native.Mathlib.Omega.{arith}
use borrow.Author.Rules.{rules}
use mir.Syntax.{w64}
use mir.Val.{of_z, to_z}
use Rattle.field.specs.Field.{fadd, fmul}
use Rattle.add_template.proofs.Sums.{column-in, term_of, one-times, no-term}
use Rattle.add_template.proofs.operand.add_term.Goals as goal

pub offset_bounds-row-column : goal.offset_bounds-row-column
offset_bounds-row-column c = let h = column-in c.args.row.now c.in-Column.is c.requires.1 in omega (arith, h.0)

pub bounds-row-column : goal.bounds-row-column
bounds-row-column c = (column-in c.args.row.now c.in-Column.is c.requires.1).0

pub add-requires : goal.add-requires
add-requires c =
    (c.requires.0, (column-in c.args.row.now c.in-Column.is c.requires.1).1)

pub returns-then-coefficient-eq1-clause-sum : goal.returns-then-coefficient-eq1-clause-sum
returns-then-coefficient-eq1-clause-sum c =
    let known = c.in-Column in
    let e = known.is in
    let back : to_z w64 (of_z w64 known.coefficient) ≡ known.coefficient = search rules in
    c.add.ensures.sum
    ∙ ap (fadd _)
    (one-times c.args.row.now e (sym back ∙ ap (to_z w64) c.if-coefficient-eq1.true) (column-in c.args.row.now e c.requires.1).1)

pub returns-then-v-eq0-clause-sum : goal.returns-then-v-eq0-clause-sum
returns-then-v-eq0-clause-sum c =
    let known = c.in-Constant in
    let back : to_z w64 (of_z w64 known.v) ≡ known.v = search rules in
    no-term c.args.row.now known.is (sym back ∙ ap (to_z w64) c.if-v-eq0.true) c.requires.0

pub returns-else-coefficient-eq1-clause-sum : goal.returns-else-coefficient-eq1-clause-sum
returns-else-coefficient-eq1-clause-sum c =
    c.add-in-Column.ensures.sum
    ∙ ap (fadd _)
    (c.mul.ensures.product ∙ ap (fmul _) (c.const_signed.ensures.constant ∙ (search rules)) ∙ term_of _ c.in-Column.is)

pub returns-else-v-eq0-clause-sum : goal.returns-else-v-eq0-clause-sum
returns-else-v-eq0-clause-sum c =
    c.add-in-Constant.ensures.sum
    ∙ ap (fadd _) (c.const_signed-in-Constant.ensures.constant ∙ (search rules) ∙ term_of _ c.in-Constant.is)
