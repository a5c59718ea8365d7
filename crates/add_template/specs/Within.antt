-- What an operand asks of a row: the columns that it names are there and below p.
use Rattle.std.specs.Prelude.{ℕ, ◌+◌, ◌<◌, List, length}
use Rattle.lists.specs.Tab.{word}
use Rattle.field.specs.Field.{p}
use Rattle.templates.specs.declared.AddLinearTerm.{AddLinearTerm}
use Rattle.templates.specs.declared.AddLinearTerm.TheVariants.{Column, Constant}
use Rattle.templates.specs.declared.AddTerms.{AddTerms}
use Rattle.templates.specs.declared.AddKind.{AddKind}
use Rattle.templates.specs.declared.AddKind.TheVariants.{DWordWL, Linear}
use Rattle.templates.specs.declared.AddOperand.{AddOperand}

unfoldable pub TermIn : List ℕ → AddLinearTerm → Type 0
TermIn row (Column c k) = (k < length row) × (word row k < p)
TermIn row (Constant v) = Unit {0}

unfoldable pub TermsIn : List ℕ → AddTerms → Type 0
TermsIn row ts = TermIn row ts.t0 × TermIn row ts.t1 × TermIn row ts.t2 × TermIn row ts.t3

unfoldable pub KindIn : List ℕ → AddKind → AddTerms → AddTerms → Type 0
KindIn row (DWordWL k) lo hi = (k + 1 < length row) × (word row k < p) × (word row (k + 1) < p)
KindIn row Linear lo hi = TermsIn row lo × TermsIn row hi

abbrev pub OperandIn : List ℕ → AddOperand → Type 0
OperandIn row o = KindIn row o.kind o.lo o.hi
