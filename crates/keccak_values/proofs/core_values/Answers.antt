-- `keccak_values::core_values` meets its contract: the checks, then the values.
use mathlib.Core.Path.{sym, ◌∙◌}
use Rattle.answer.proofs.Laws.{answers, kept, accepts, written, handed-on, is-refused, is-done}
use Rattle.tuple.proofs.Values.{passed, stored}
use Rattle.keccak_values.proofs.core_values.Goals as goal

pub returns-in_err-check_values : goal.returns-in_err-check_values
returns-in_err-check_values c =
    let found = is-refused _ (sym c.in_err-check_values.was ∙ c.check_values.ensures) in
    record { answer = handed-on _ c.from_residual.ensures.1 ∙ answers found; words = kept _ _ found }

pub put_core_values-requires : goal.put_core_values-requires
put_core_values-requires c =
    let k = passed _ _ _ _ (is-done _ (sym c.in_ok-check_values.was ∙ c.check_values.ensures)) in
    (record { long = k.wide; below = k.below }, k.fits)

pub returns : goal.returns
returns c =
    let clear = is-done _ (sym c.in_ok-check_values.was ∙ c.check_values.ensures) in
    record { answer = accepts clear; words = written _ clear (c.put_core_values.ensures ∙ stored _ 52 _ (passed _ _ _ _ clear).fits) }
