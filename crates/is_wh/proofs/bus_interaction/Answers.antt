-- `is_wh::bus_interaction` meets its contract: the checks, then the tuple of the index.
use mathlib.Core.Path.{◌≡◌, sym, ap, ◌∙◌}
use mathlib.Core.Option.{none}
use mathlib.Core.List.{List}
use native.Mathlib.Omega.{arith}
use Prim.Native.Nat.{ℕ}
use lib.ListN.{length}
use Rattle.answer.specs.Refusal.{answer_of}
use Rattle.answer.proofs.Laws.{is-refused, is-done, handed-on}
use Rattle.tuple.specs.Call.{Accepted, sized_refusal, tuple_refusal}
use Rattle.tuple.proofs.Call.{accepted, tuple-refused, tuple-given}
use Rattle.is_wh.specs.Tuples.{is_wh_tuple}
use Rattle.std.specs.Prelude.{Result, Ok, ⊤}
use Rattle.answer.specs.declared.Refusal.{Refusal}
use Rattle.is_wh.proofs.bus_interaction.Goals as goal

-- what the checks answered
checked : (row : List ℕ) (i : ℕ) (out : List ℕ) {n : ℕ} {a : Result ⊤ Refusal} → n ≡ length (is_wh_tuple row i).values
    → a ≡ answer_of (sized_refusal 4 5 row i n (length out)) → a ≡ answer_of (tuple_refusal 4 5 is_wh_tuple row i out)
unfolding tuple_refusal
checked row i out e h = h ∙ ap (λ (n : ℕ). answer_of (sized_refusal 4 5 row i n (length out))) e

known : (row : List ℕ) (i : ℕ) (out : List ℕ) → tuple_refusal 4 5 is_wh_tuple row i out ≡ none
    → Accepted 4 5 row i (length (is_wh_tuple row i).values) (length out)
unfolding tuple_refusal
known row i out e = accepted _ _ _ _ _ _ e

pub returns-in_err-check_tuple : goal.returns-in_err-check_tuple
returns-in_err-check_tuple c =
    let row = c.args.row.now in
    let checks = checked row c.args.index c.args.out.now (c.tuple_length-length.ensures row) c.check_tuple.ensures in
    let t = tuple-refused _ _ _ (is-refused _ (sym c.in_err-check_tuple.was ∙ checks)) in
    record { answer = handed-on _ c.from_residual.ensures.1 ∙ t.0; words = t.1 }

pub row_tuple-requires : goal.row_tuple-requires
row_tuple-requires c =
    let row = c.args.row.now in
    let checks = checked row c.args.index c.args.out.now (c.tuple_length-length.ensures row) c.check_tuple.ensures in
    let k = known _ _ _ (is-done _ (sym c.in_ok-check_tuple.was ∙ checks)) in
    (k.wide, k.below 1 (omega arith), k.fits)

pub returns : goal.returns
returns c =
    let row = c.args.row.now in
    let checks = checked row c.args.index c.args.out.now (c.tuple_length-length.ensures row) c.check_tuple.ensures in
    let passed = is-done _ (sym c.in_ok-check_tuple.was ∙ checks) in
    let t = tuple-given (is_wh_tuple row c.args.index) c.args.out.now passed c.row_tuple.ensures.words in
    record { answer = ap Ok c.row_tuple.ensures.answer ∙ t.0; words = t.1 }
