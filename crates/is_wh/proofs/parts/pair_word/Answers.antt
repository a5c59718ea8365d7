-- `is_wh::parts::pair_word` meets its contract: the product, then the sum.
use mathlib.Core.Path.{ap, ◌∙◌}
use Rattle.field.specs.Field.{fadd}
use Rattle.is_wh.proofs.parts.pair_word.Goals as goal

pub returns : goal.returns
returns c = c.add-sum.ensures.sum ∙ ap (fadd _) c.mul-scaled.ensures.product
