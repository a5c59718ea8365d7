-- `add_words` meets its contract: the low word, then the high one.
use mathlib.Core.Path.{ap₂}
use Prim.Native.Nat.{ℕ}
use Rattle.add_template.proofs.operand.add_words.Goals as goal

pub returns-clause-words : goal.returns-clause-words
returns-clause-words c =
    ap₂ (λ (lo hi : ℕ). record { lo = lo; hi = hi }) c.add_operand_lo-lo.ensures.word c.add_operand_hi-hi.ensures.word
