-- `add_terms_expr` meets its contract: four terms.
use native.Mathlib.Omega.{arith}
use Rattle.add_template.proofs.Sums.{four-terms}
use Rattle.add_template.specs.Within.{TermsIn}
use Rattle.add_template.proofs.operand.add_terms_expr.Goals as goal

pub add_term-one-requires : goal.add_term-one-requires
unfolding TermsIn
add_term-one-requires c = (omega arith, c.requires.0)

pub add_term-two-requires : goal.add_term-two-requires
unfolding TermsIn
add_term-two-requires c = (c.add_term-one.ensures.below, c.requires.1)

pub add_term-three-requires : goal.add_term-three-requires
unfolding TermsIn
add_term-three-requires c = (c.add_term-two.ensures.below, c.requires.2)

pub add_term-requires : goal.add_term-requires
unfolding TermsIn
add_term-requires c = (c.add_term-three.ensures.below, c.requires.3)

pub returns-clause-sum : goal.returns-clause-sum
returns-clause-sum c =
    four-terms c.args.row.now c.args.terms c.add_term-one.ensures.sum c.add_term-two.ensures.sum c.add_term-three.ensures.sum c.add_term.ensures.sum
