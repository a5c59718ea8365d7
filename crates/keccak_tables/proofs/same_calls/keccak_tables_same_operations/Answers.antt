-- `keccak_tables_same_operations` meets its contract: the answer of the call that it wraps, flat.
use mathlib.Core.Path.{ap, ◌∙◌}
use Rattle.flat.specs.FlatJudged.{flat_agreement}
use Rattle.keccak_tables.proofs.same_calls.keccak_tables_same_operations.Goals as goal

pub returns : goal.returns
returns c = c.flat_agreement.ensures ∙ ap flat_agreement c.same_operations.ensures
