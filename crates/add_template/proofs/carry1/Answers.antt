-- `add_template::carry1` meets its contract: the same of the high words, with the low carry.
use mathlib.Core.Path.{ap, ap₂, ◌∙◌}
use Prim.Native.Nat.{ℕ}
use Rattle.field.specs.Field.{fadd, fsub, fmul, INV-SHIFT-32}
use Rattle.add_template.proofs.carry1.Goals as goal

pub returns-clause-carry : goal.returns-clause-carry
returns-clause-carry c =
    c.mul.ensures.product
    ∙ ap (λ (x : ℕ). fmul x INV-SHIFT-32)
    (c.sub-gap.ensures.difference
    ∙ ap (λ (x : ℕ). fsub x c.args.sum.hi) (c.add.ensures.sum ∙ ap₂ fadd c.add-both.ensures.sum c.requires.3))
