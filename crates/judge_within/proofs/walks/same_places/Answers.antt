-- `judge_within::walks::same_places` meets its contract: the tuples of the places are compared.
use mathlib.Core.Path.{◌∙◌}
use Rattle.sort_places.proofs.Places.{place-fits}
use Rattle.judge_within.proofs.Steps.{tuples-same}
use Rattle.judge_within.proofs.walks.same_places.Goals as goal

pub same_tuple-requires : goal.same_tuple-requires
same_tuple-requires c =
    let a = c.args in (
      place-fits a.nr a.core.now a.round.now a.p _ _ c.port_of-s.ensures c.row_of-x.ensures,
      place-fits a.nr a.core.now a.round.now a.q _ _ c.port_of-t.ensures c.row_of-y.ensures,
    )

pub returns : goal.returns
returns c =
    let a = c.args in
    c.same_tuple.ensures
    ∙ tuples-same a.nr a.core.now a.round.now a.p a.q _ _ _ _ c.port_of-s.ensures c.row_of-x.ensures c.port_of-t.ensures c.row_of-y.ensures
