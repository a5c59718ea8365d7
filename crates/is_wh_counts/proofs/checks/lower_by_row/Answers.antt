-- `is_wh_counts::checks::lower_by_row` meets its contract: four counters, one after the other.
use mathlib.Core.Path.{ap, ◌∙◌}
use Prim.Native.Nat.{◌+◌, ◌*◌, ◌/◌, ◌%◌}
use Rattle.is_wh_counts.specs.Steps.{lower_some, lower_by_row}
use Rattle.is_wh_counts.proofs.checks.lower_by_row.Goals as goal

pub returns : goal.returns
unfolding lower_by_row
returns c =
    let a = c.args in
    let C = a.counters.now in
    c.lower_some.ensures
    ∙ ap (lower_some C (a.word / 65536 * 10 + 4) a.mu)
    (c.lower_some-c.ensures
    ∙ ap (lower_some C (a.word % 65536 * 10 + 4) a.mu)
    (c.lower_some-b.ensures ∙ ap (lower_some C (a.half * 10 + 4) a.mu) c.lower_some-a.ensures))
