-- `add_template::carry0` meets its contract: the difference, times the inverse of 2^32.
use mathlib.Core.Path.{ap, ◌∙◌}
use Prim.Native.Nat.{ℕ}
use Rattle.field.specs.Field.{fsub, fmul, INV-SHIFT-32}
use Rattle.add_template.proofs.carry0.Goals as goal

pub returns-clause-carry : goal.returns-clause-carry
returns-clause-carry c =
    c.mul.ensures.product
    ∙ ap (λ (x : ℕ). fmul x INV-SHIFT-32)
    (c.sub-gap.ensures.difference ∙ ap (λ (x : ℕ). fsub x c.args.sum.lo) c.add-both.ensures.sum)
