-- `is_bit_if` meets its contract: the condition first, then x, then 1 - x.
use mathlib.Core.Path.{ap₂, ◌∙◌}
use Rattle.field.specs.Field.{fmul}
use Rattle.add_template.proofs.bit.is_bit_if.Goals as goal

pub returns : goal.returns
returns c = c.mul-product.ensures.product ∙ ap₂ fmul c.mul.ensures.product c.sub.ensures.difference
