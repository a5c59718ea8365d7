-- `is_wh_counts::charge_some` meets its contract: nothing where n is 0.
use mathlib.Core.Path.{◌∙◌}
use native.Mathlib.Omega.{arith}
use Rattle.is_wh_counts.proofs.Grown.{some-none, some-charged}
use Rattle.is_wh_counts.proofs.charge_some.Goals as goal

pub returns-then-n-eq0 : goal.returns-then-n-eq0
returns-then-n-eq0 c = some-none _ _ _ c.if-n-eq0.true

pub charge_word-requires : goal.charge_word-requires
charge_word-requires c =
    let d = c.if-n-eq0.false in
    (c.requires.0, c.requires.1 (omega (arith, d)))

pub returns : goal.returns
returns c = c.charge_word.ensures ∙ some-charged _ _ _ c.if-n-eq0.false
