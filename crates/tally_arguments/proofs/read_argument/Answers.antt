-- `tally_arguments::read_argument` meets its contract: `shipped`, or a floor.
use mathlib.Core.Path.{sym, ◌∙◌}
use Rattle.tally_arguments.proofs.Laws.{word-shipped, word-floor}
use Rattle.tally_arguments.proofs.read_argument.Goals as goal

pub returns-then-is_shipped : goal.returns-then-is_shipped
returns-then-is_shipped c = word-shipped _ _ (sym c.is_shipped.ensures ∙ c.if-is_shipped.true)

pub returns : goal.returns
returns c = word-floor _ _ (sym c.is_shipped.ensures ∙ c.if-is_shipped.false) c.read_floor.ensures
