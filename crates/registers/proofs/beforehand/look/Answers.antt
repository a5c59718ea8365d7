-- `registers::beforehand::look` meets its contract: the checks, then the copy and the answer.
use mathlib.Core.List.{List}
use mathlib.Core.Option.{Option}
use mathlib.Core.Path.{◌≡◌, refl, sym, ◌∙◌}
use Prim.Native.Nat.{ℕ}
use lib.ListN.{length}
use Rattle.answer.specs.Refusal.{too_short}
use Rattle.answer.specs.declared.Refusal.{Refusal}
use Rattle.answer.proofs.Laws.{answers, kept, accepts, written, handed-on, is-refused, is-done}
use Rattle.segment_counts.specs.Segment.{look_short}
use Rattle.segment_counts.proofs.Refusals.{shorts-same, long-enough}
use Rattle.registers.specs.Registers.{through_refusal, register_look_refusal}
use Rattle.registers.proofs.Refusals.{through-alike}
use Rattle.registers.proofs.Accepted.{look_known}
use Rattle.registers.proofs.beforehand.look.Goals as goal

-- the checks of the call are those that were made
checks : (nr floor register : ℕ) (ops counters ledgers : List ℕ) (copy out room needed : ℕ)
    → ((later : Option Refusal) → too_short room needed later ≡ look_short 30 (length counters) copy out later)
    → register_look_refusal nr floor register ops counters ledgers copy out
    ≡ through_refusal (too_short room needed) nr floor register ops counters ledgers
checks nr floor register ops counters ledgers copy out room needed first =
    through-alike _ _ nr floor register ops counters counters ledgers ledgers (shorts-same ops counters first) refl refl

pub check_register-requires : goal.check_register-requires
check_register-requires c =
    let first = c.first_short-room in
    long-enough 30 (length c.args.counters.now) (length c.args.copy.now) (length c.args.out.now) first.result.room first.result.needed first.ensures

pub returns-in_err-check_register : goal.returns-in_err-check_register
returns-in_err-check_register c =
    let found = checks _ _ _ _ _ _ _ _ _ _ c.first_short-room.ensures ∙ is-refused _ (sym c.in_err-check_register.was ∙ c.check_register.ensures) in
    record { answer = handed-on _ c.from_residual.ensures.1 ∙ answers found; copied = kept _ _ found; words = kept _ _ found }

pub fill_register_look-requires : goal.fill_register_look-requires
fill_register_look-requires c =
    look_known _ _ _ _ _ _ _ _
    (checks _ _ _ _ _ _ _ _ _ _ c.first_short-room.ensures ∙ is-done _ (sym c.in_ok-check_register.was ∙ c.check_register.ensures))

pub returns : goal.returns
returns c =
    let passed = checks _ _ _ _ _ _ _ _ _ _ c.first_short-room.ensures ∙ is-done _ (sym c.in_ok-check_register.was ∙ c.check_register.ensures) in
    record {
      answer = accepts passed;
      copied = written _ passed c.fill_register_look.ensures.copied;
      words = written _ passed c.fill_register_look.ensures.words;
    }
