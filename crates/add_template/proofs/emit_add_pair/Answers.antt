-- `add_template::emit_add_pair` meets its contract: both carries are bits.
use mathlib.Core.Path.{ap, ◌∙◌}
use Rattle.templates.specs.Templates.{bit_under, emit-add-pair}
use Rattle.add_template.specs.Conditions.{columns_of}
use Rattle.add_template.proofs.emit_add_pair.Goals as goal

pub returns : goal.returns
unfolding emit-add-pair
returns c =
    let bit = bit_under c.args.row.now (columns_of c.args.cond) in
    record {
      low = c.bit_under.ensures ∙ ap bit c.carry0-low.ensures.carry;
      high = c.bit_under-2.ensures ∙ ap bit c.carry1-high.ensures.carry;
    }
