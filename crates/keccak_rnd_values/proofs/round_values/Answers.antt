-- `keccak_rnd_values::round_values` meets its contract: the checks, then the values.
use mathlib.Core.Path.{sym, ◌∙◌}
use lib.ListN.{length}
use Rattle.answer.proofs.Laws.{answers, kept, accepts, written, handed-on, is-refused, is-done}
use Rattle.tuple.proofs.Values.{passed, stored}
use Rattle.keccak_rnd_values.proofs.round_values.Goals as goal

pub returns-in_err-check_values : goal.returns-in_err-check_values
returns-in_err-check_values c =
    let e = is-refused _ (sym c.in_err-check_values.was ∙ c.check_values.ensures) in
    record { answer = handed-on _ c.from_residual.ensures.1 ∙ answers e; words = kept _ _ e }

pub put_round_values-requires : goal.put_round_values-requires
put_round_values-requires c =
    let k = passed 1480 141 c.args.row.now (length c.args.out.now) (is-done _ (sym c.in_ok-check_values.was ∙ c.check_values.ensures)) in
    (record { long = k.wide; below = k.below }, k.fits)

pub returns : goal.returns
returns c =
    let e = is-done _ (sym c.in_ok-check_values.was ∙ c.check_values.ensures) in
    let k = passed 1480 141 c.args.row.now (length c.args.out.now) e in
    record { answer = accepts e; words = written _ e (c.put_round_values.ensures ∙ stored _ _ _ k.fits) }
