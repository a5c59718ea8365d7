-- `keccak_f::keccak_f` meets its contract: the rounds, the length, then the words.
use mathlib.Core.Path.{sym, ◌∙◌}
use native.Mathlib.Omega.{arith}
use lib.ListN.{length}
use Rattle.answer.specs.Refusal.{accepted, not_rounds}
use Rattle.answer.proofs.Laws.{answers, kept, accepts, written, handed-on, is-refused, is-done, sets-overwrite}
use Rattle.answer.proofs.Refusals.{rounds-accepted}
use Rattle.keccak_f.specs.KeccakF.{permuted}
use Rattle.keccak_f.proofs.Permuted.{state-rounds, state-short, state-passes, length-permuted}
use Rattle.keccak_f.proofs.keccak_f.Goals as goal

pub returns-in_err-check_rounds : goal.returns-in_err-check_rounds
returns-in_err-check_rounds c =
    let a = c.args in
    let told = is-refused (not_rounds a.nr accepted) (sym c.in_err-check_rounds.was ∙ c.check_rounds.ensures) in
    let refuses = state-rounds a.nr (length a.state.now) told in
    record { answer = handed-on _ c.from_residual.ensures.1 ∙ answers refuses; words = kept _ _ refuses }

pub returns-then-state-lt-LANES : goal.returns-then-state-lt-LANES
returns-then-state-lt-LANES c =
    let a = c.args in
    let in-range = is-done (not_rounds a.nr accepted) (sym c.in_ok-check_rounds.was ∙ c.check_rounds.ensures) in
    let refuses = state-short a.nr (length a.state.now) in-range c.if-state-lt-LANES.true in
    record { answer = answers refuses; words = kept _ _ refuses }

pub put_permuted-requires : goal.put_permuted-requires
put_permuted-requires c =
    (((rounds-accepted c.args.nr).0 (is-done _ (sym c.in_ok-check_rounds.was ∙ c.check_rounds.ensures))).1, omega arith)

pub returns : goal.returns
returns c =
    let a = c.args in
    let s = a.state.now in
    let in-range = is-done (not_rounds a.nr accepted) (sym c.in_ok-check_rounds.was ∙ c.check_rounds.ensures) in
    let passes = state-passes a.nr (length s) in-range c.if-state-lt-LANES.false in
    record {
      answer = accepts passes;
      words = written _ passes (c.put_permuted.ensures ∙ sets-overwrite s (permuted a.nr s) (omega (arith, length-permuted a.nr s, c.if-state-lt-LANES.false)));
    }
