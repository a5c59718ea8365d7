-- `keccak_tuples::bus_interaction` meets its contract: the checks, then the tuple of the index.
use mathlib.Core.Path.{◌≡◌, sym, ap, ◌∙◌}
use mathlib.Core.List.{List}
use mathlib.Core.Option.{Option}
use Prim.Native.Nat.{ℕ}
use lib.ListN.{length}
use Rattle.std.specs.Prelude.{Result, Ok, ⊤}
use Rattle.answer.specs.declared.Refusal.{Refusal}
use Rattle.answer.specs.Refusal.{answer_of, not_rounds}
use Rattle.answer.specs.Refusal as refusals
use Rattle.answer.proofs.Laws.{is-refused, is-done, handed-on}
use Rattle.answer.proofs.Refusals.{rounds-accepted, rounds-still}
use Rattle.tuple.specs.Call.{Accepted, sized_refusal, tuple_refusal}
use Rattle.tuple.proofs.Call.{accepted, tuple-refused, tuple-given}
use Rattle.keccak.specs.Tuples.{core_tuple}
use Rattle.keccak.specs.TupleCalls.{core_tuple_refusal}
use Rattle.keccak.proofs.TupleCalls.{tuple-later}
use Rattle.keccak_tuples.proofs.bus_interaction.Goals as goal

module _ (nr syscall : ℕ) (row : List ℕ) (index : ℕ) (out : List ℕ) where
  abbrev others : Option Refusal
  others = tuple_refusal 486 84 (core_tuple nr syscall) row index out

  -- the number of rounds was checked first
  later : Ok tt ≡ answer_of (not_rounds nr refusals.accepted) → core_tuple_refusal nr syscall row index out ≡ others
  later e = let r = (rounds-accepted nr).0 (is-done _ e) in tuple-later nr syscall row index out r.0 r.1

  -- what the other checks answered
  checked : {n : ℕ} {a b : Result ⊤ Refusal} → n ≡ length (core_tuple nr syscall row index).values → a ≡ b
      → a ≡ answer_of (sized_refusal 486 84 row index n (length out)) → b ≡ answer_of others
  unfolding tuple_refusal
  checked e q h = sym q ∙ h ∙ ap (λ (n : ℕ). answer_of (sized_refusal 486 84 row index n (length out))) e

  known : Ok tt ≡ answer_of others → Accepted 486 84 row index (length (core_tuple nr syscall row index).values) (length out)
  unfolding tuple_refusal
  known e = accepted _ _ _ _ _ _ (is-done _ e)

pub returns-in_err-check_rounds : goal.returns-in_err-check_rounds
unfolding core_tuple_refusal
returns-in_err-check_rounds c =
    let found = is-refused (not_rounds c.args.nr refusals.accepted) (sym c.in_err-check_rounds.was ∙ c.check_rounds.ensures) in
    let t = tuple-refused _ _ _ (rounds-still c.args.nr _ found) in
    record { answer = handed-on _ c.from_residual.ensures.1 ∙ t.0; words = t.1 }

pub returns-in_err-check_tuple : goal.returns-in_err-check_tuple
returns-in_err-check_tuple c =
    let a = c.args in
    let row = a.row.now in
    let first = later a.nr a.syscall row a.index a.out.now (sym c.in_ok-check_rounds.was ∙ c.check_rounds.ensures) in
    let second = checked a.nr a.syscall row a.index a.out.now (c.tuple_length-length.ensures a.nr a.syscall row) c.in_err-check_tuple.was c.check_tuple.ensures in
    let t = tuple-refused _ _ _ (first ∙ is-refused _ second) in
    record { answer = handed-on _ c.from_residual-in_err-check_tuple.ensures.1 ∙ t.0; words = t.1 }

pub row_tuple-requires : goal.row_tuple-requires
row_tuple-requires c =
    let a = c.args in
    let row = a.row.now in
    let k = known a.nr a.syscall row a.index a.out.now
    (checked a.nr a.syscall row a.index a.out.now (c.tuple_length-length.ensures a.nr a.syscall row) c.in_ok-check_tuple.was c.check_tuple.ensures) in
    (record { long = k.wide; below = k.below }, k.index, k.fits)

pub returns : goal.returns
returns c =
    let a = c.args in
    let row = a.row.now in
    let first = later a.nr a.syscall row a.index a.out.now (sym c.in_ok-check_rounds.was ∙ c.check_rounds.ensures) in
    let second = checked a.nr a.syscall row a.index a.out.now (c.tuple_length-length.ensures a.nr a.syscall row) c.in_ok-check_tuple.was c.check_tuple.ensures in
    let t = tuple-given (core_tuple a.nr a.syscall row a.index) a.out.now (first ∙ is-done _ second) c.row_tuple.ensures.words in
    record { answer = ap Ok c.row_tuple.ensures.answer ∙ t.0; words = t.1 }
