-- `is_bit` meets its contract: x times 1 - x.
use mathlib.Core.Path.{ap, ◌∙◌}
use Rattle.field.specs.Field.{fmul}
use Rattle.add_template.proofs.bit.is_bit.Goals as goal

pub returns : goal.returns
returns c = c.mul-product.ensures.product ∙ ap (fmul _) c.sub.ensures.difference
