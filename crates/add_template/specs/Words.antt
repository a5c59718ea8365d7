-- The carries of ADD by the words of its operands, for the functions that share them. proofs/Values.antt: of the words that
-- operands have on a row, they are the carries of templates/specs/Templates.antt.
use Rattle.std.specs.Prelude.{List, ℕ, ◌<◌}
use Rattle.field.specs.Field.{p, fadd, fsub, fmul, INV-SHIFT-32}
use Rattle.templates.specs.declared.AddOperand.{AddOperand}
use Rattle.templates.specs.Templates.{add-operand-lo, add-operand-hi}
use Rattle.add_template.specs.declared.AddWords.{AddWords}

-- an operand's words on a row
abbrev pub words_on : List ℕ → AddOperand → AddWords
words_on row o = record { lo = add-operand-lo row o; hi = add-operand-hi row o }

-- both are below p
abbrev pub Elements : AddWords → Type 0
Elements w = (w.lo < p) × (w.hi < p)

-- out of the low words, and out of the high ones
abbrev pub low_carry : AddWords → AddWords → AddWords → ℕ
low_carry lhs rhs sum = fmul (fsub (fadd lhs.lo rhs.lo) sum.lo) INV-SHIFT-32

abbrev pub high_carry : AddWords → AddWords → AddWords → ℕ
high_carry lhs rhs sum =
    fmul (fsub (fadd (fadd lhs.hi rhs.hi) (low_carry lhs rhs sum)) sum.hi) INV-SHIFT-32
