-- `templates::AddOperand::constant` meets its contract: one term.
use mathlib.Core.Path.{ap}
use mir.Syntax.{w64}
use mir.ValLaws.{to_z-of_z}
use Rattle.templates.specs.Templates.{constant}
use Rattle.templates.proofs.AddOperand.constant.Goals as goal

pub returns : goal.returns
returns c = ap constant (to_z-of_z w64 c.args.value c.ranges.value)
