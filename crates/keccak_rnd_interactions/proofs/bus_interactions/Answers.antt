-- `keccak_rnd_interactions::bus_interactions` meets its contract: the checks, then the tuples.
use mathlib.Core.Path.{sym, ◌∙◌}
use native.Mathlib.Omega.{arith}
use Rattle.answer.proofs.Laws.{answers, kept, accepts, written, is-refused, is-done, handed-on, sets-overwrite}
use Rattle.tuple.specs.Words.{tuples_words}
use Rattle.tuple.specs.Values.{Accepted}
use Rattle.tuple.proofs.Values.{passed}
use Rattle.keccak_rnd.specs.Tuples.{round_tuple}
use Rattle.keccak_rnd_interactions.proofs.Words.{words-length}
use Rattle.keccak_rnd_interactions.proofs.bus_interactions.Goals as goal

pub returns-in_err-check_values : goal.returns-in_err-check_values
returns-in_err-check_values c =
    let refused = is-refused _ (sym c.in_err-check_values.was ∙ c.check_values.ensures) in
    record { answer = handed-on _ c.from_residual.ensures.1 ∙ answers refused; words = kept _ _ refused }

pub put_tuples-requires : goal.put_tuples-requires
put_tuples-requires c =
    let k = passed _ _ _ _ (is-done _ (sym c.in_ok-check_values.was ∙ c.check_values.ensures)) in
    (record { long = k.wide; below = k.below }, k.fits)

pub returns : goal.returns
returns c =
    let row = c.args.row.now in
    let clear = is-done _ (sym c.in_ok-check_values.was ∙ c.check_values.ensures) in
    let known : Accepted 1480 8211 row _ = passed _ _ _ _ clear in
    record {
      answer = accepts clear;
      words = written _ clear
          (c.put_tuples.ensures ∙ sets-overwrite c.args.out.now (tuples_words (round_tuple row) 1031) (omega (arith, known.fits, words-length row)));
    }
