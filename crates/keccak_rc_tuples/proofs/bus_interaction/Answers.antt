-- `keccak_rc_tuples::bus_interaction` meets its contract: the checks, then the nine words.
use mathlib.Core.Path.{◌≡◌, sym, ap, ◌∙◌}
use mathlib.Core.Option.{none}
use mathlib.Core.List.{List}
use Prim.Native.Nat.{ℕ}
use native.Mathlib.Omega.{arith}
use lib.ListN.{length}
use Rattle.std.specs.Prelude.{Result, Ok, ⊤}
use Rattle.lists.specs.Tab.{tab, word}
use Rattle.lists.proofs.Laws.{length-tab}
use Rattle.answer.specs.Refusal.{answer_of}
use Rattle.answer.specs.declared.Refusal.{Refusal}
use Rattle.answer.proofs.Laws.{is-refused, is-done, handed-on, sets-overwrite}
use Rattle.tuple.specs.Call.{Accepted, sized_refusal, tuple_refusal}
use Rattle.tuple.specs.declared.Bus.TheVariants.{KeccakRc}
use Rattle.tuple.specs.declared.Side.TheVariants.{Receiver}
use Rattle.tuple.proofs.Call.{accepted, tuple-refused, tuple-given}
use Rattle.keccak_rc.specs.Tuples.{rc_tuple}
use Rattle.keccak_rc_tuples.proofs.bus_interaction.Goals as goal

-- nine values
nine : (row : List ℕ) (i : ℕ) → 9 ≡ length (rc_tuple row i).values
unfolding rc_tuple
nine row i = sym (length-tab 9 (word row))

-- what the checks answered
checked : (row : List ℕ) (i : ℕ) (out : List ℕ) {a : Result ⊤ Refusal} → a ≡ answer_of (sized_refusal 10 1 row i 9 (length out))
    → a ≡ answer_of (tuple_refusal 10 1 rc_tuple row i out)
unfolding tuple_refusal
checked row i out h = h ∙ ap (λ (n : ℕ). answer_of (sized_refusal 10 1 row i n (length out))) (nine row i)

known : (row : List ℕ) (i : ℕ) (out : List ℕ) → tuple_refusal 10 1 rc_tuple row i out ≡ none → Accepted 10 1 row i (length (rc_tuple row i).values) (length out)
unfolding tuple_refusal
known row i out e = accepted _ _ _ _ _ _ e

pub returns-in_err-check_tuple : goal.returns-in_err-check_tuple
returns-in_err-check_tuple c =
    let a = c.args in
    let t = tuple-refused _ _ _ (is-refused _ (sym c.in_err-check_tuple.was ∙ checked a.row.now a.index a.out.now c.check_tuple.ensures)) in
    record { answer = handed-on _ c.from_residual.ensures.1 ∙ t.0; words = t.1 }

pub put_words-requires : goal.put_words-requires
put_words-requires c =
    let a = c.args in
    let k = known _ _ _ (is-done _ (sym c.in_ok-check_tuple.was ∙ checked a.row.now a.index a.out.now c.check_tuple.ensures)) in
    (omega (arith, k.wide), omega (arith, nine a.row.now a.index, k.fits))

pub bounds-row-9 : goal.bounds-row-9
bounds-row-9 c =
    let a = c.args in
    let k = known _ _ _ (is-done _ (sym c.in_ok-check_tuple.was ∙ checked a.row.now a.index a.out.now c.check_tuple.ensures)) in
    omega (arith, k.wide)

pub returns : goal.returns
unfolding rc_tuple
returns c =
    let a = c.args in
    let row = a.row.now in
    let passed = is-done _ (sym c.in_ok-check_tuple.was ∙ checked row a.index a.out.now c.check_tuple.ensures) in
    let t = tuple-given (rc_tuple row a.index) a.out.now passed (c.put_words.ensures ∙ sets-overwrite a.out.now (tab 9 (word row)) (known _ _ _ passed).fits) in
    record {
      answer = (λ i. Ok (record { bus = KeccakRc; side = Receiver; length = nine row a.index i; multiplicity = word row 9 })) ∙ t.0;
      words = t.1;
    }
