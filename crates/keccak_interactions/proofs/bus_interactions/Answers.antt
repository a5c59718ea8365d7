-- `keccak_interactions::bus_interactions` meets its contract: the checks, then the tuples.
use mathlib.Core.Path.{◌≡◌, sym, ◌∙◌}
use mathlib.Core.List.{List}
use Prim.Native.Nat.{ℕ}
use native.Mathlib.Omega.{arith}
use Rattle.std.specs.Prelude.{Ok}
use Rattle.answer.specs.Refusal.{answer_of, not_rounds, accepted}
use Rattle.answer.proofs.Laws.{answers, kept, accepts, written, handed-on, is-refused, is-done, sets-overwrite}
use Rattle.answer.proofs.Refusals.{rounds-accepted, rounds-still}
use Rattle.tuple.specs.Words.{tuples_words}
use Rattle.tuple.specs.Values.{values_refusal}
use Rattle.tuple.proofs.Values.{passed}
use Rattle.keccak.specs.Tuples.{core_tuple}
use Rattle.keccak_interactions.specs.Words.{core_tuples_refusal}
use Rattle.keccak_interactions.proofs.Words.{words-length}
use Rattle.keccak_interactions.proofs.Refusals.{tuples-later}
use Rattle.keccak_interactions.proofs.bus_interactions.Goals as goal

-- the number of rounds was checked first
later : (nr : ℕ) (row : List ℕ) (room : ℕ) → Ok tt ≡ answer_of (not_rounds nr accepted)
    → core_tuples_refusal nr row room ≡ values_refusal 486 1457 row room
later nr row room e = let r = (rounds-accepted nr).0 (is-done _ e) in tuples-later nr row room r.0 r.1

pub returns-in_err-check_rounds : goal.returns-in_err-check_rounds
unfolding core_tuples_refusal
returns-in_err-check_rounds c =
    let nr = c.args.nr in
    let found = rounds-still nr _ (is-refused (not_rounds nr accepted) (sym c.in_err-check_rounds.was ∙ c.check_rounds.ensures)) in
    record { answer = handed-on _ c.from_residual.ensures.1 ∙ answers found; words = kept _ _ found }

pub returns-in_err-check_values : goal.returns-in_err-check_values
returns-in_err-check_values c =
    let found = later _ _ _ (sym c.in_ok-check_rounds.was ∙ c.check_rounds.ensures)
    ∙ is-refused _ (sym c.in_err-check_values.was ∙ c.check_values.ensures) in
    record { answer = handed-on _ c.from_residual-in_err-check_values.ensures.1 ∙ answers found; words = kept _ _ found }

pub put_tuples-requires : goal.put_tuples-requires
put_tuples-requires c =
    let k = passed _ _ _ _ (is-done _ (sym c.in_ok-check_values.was ∙ c.check_values.ensures)) in
    (record { long = k.wide; below = k.below }, k.fits)

pub returns : goal.returns
returns c =
    let a = c.args in
    let row = a.row.now in
    let clear = is-done _ (sym c.in_ok-check_values.was ∙ c.check_values.ensures) in
    let found = later _ _ _ (sym c.in_ok-check_rounds.was ∙ c.check_rounds.ensures) ∙ clear in
    record {
      answer = accepts found;
      words = written _ found
          (c.put_tuples.ensures
          ∙ sets-overwrite a.out.now (tuples_words (core_tuple a.nr a.syscall row) 84) (omega (arith, (passed _ _ _ _ clear).fits, words-length a.nr a.syscall row)));
    }
