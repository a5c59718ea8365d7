-- `bitwise_tuples::bus_interaction` meets its contract: the checks, then the values of the kind of the index.
use mathlib.Core.Path.{◌≡◌, refl, sym, ap, ◌∙◌, ap₂}
use mathlib.Core.Option.{none}
use mathlib.Core.List.{List}
use Prim.Native.Nat.{ℕ}
use native.Mathlib.Omega.{arith}
use lib.ListN.{length}
use lib.Seq.{sets}
use Rattle.std.specs.Prelude.{Result, Ok, ⊤}
use Rattle.lists.specs.Tab.{tab, word}
use Rattle.lists.proofs.Laws.{tab-padded, length-tab}
use Rattle.answer.specs.Refusal.{answer_of}
use Rattle.answer.specs.declared.Refusal.{Refusal}
use Rattle.answer.proofs.Laws.{is-refused, is-done, handed-on, sets-overwrite}
use Rattle.tuple.specs.Call.{Accepted, sized_refusal, tuple_refusal}
use Rattle.tuple.specs.declared.Side.TheVariants.{Receiver}
use Rattle.tuple.proofs.Call.{accepted, tuple-refused, tuple-given}
use Rattle.bitwise.specs.declared.BitwiseOperationType.{BitwiseOperationType}
use Rattle.bitwise.specs.Tuples.{kind_at, kind_bus, kind_size, kind_values, bitwise_tuple}
use Rattle.bitwise.proofs.Numbers.{kind-size, size-le, mu-column-at}
use Rattle.bitwise_tuples.proofs.bus_interaction.Goals as goal

module _ (row : List ℕ) (i : ℕ) {k : BitwiseOperationType} {n : ℕ} (e : k ≡ kind_at i) (h : n ≡ kind_size k) where
  -- the kind is that of the index, and its size the tuple's
  size_is : n ≡ length (bitwise_tuple row i).values
  size_is = h ∙ ap kind_size e ∙ sym (kind-size row (kind_at i))

  module _ (out : List ℕ) where
    -- what the checks answered
    checked : {a : Result ⊤ Refusal} → a ≡ answer_of (sized_refusal 21 10 row i n (length out)) → a ≡ answer_of (tuple_refusal 21 10 bitwise_tuple row i out)
    unfolding tuple_refusal
    checked q = q ∙ ap (λ (m : ℕ). answer_of (sized_refusal 21 10 row i m (length out))) size_is

    passed : {a : Result ⊤ Refusal} → a ≡ answer_of (sized_refusal 21 10 row i n (length out)) → a ≡ Ok tt → tuple_refusal 21 10 bitwise_tuple row i out ≡ none
    passed q ok = is-done _ (sym ok ∙ checked q)

    known : {a : Result ⊤ Refusal} → a ≡ answer_of (sized_refusal 21 10 row i n (length out)) → a ≡ Ok tt
        → Accepted 21 10 row i (length (bitwise_tuple row i).values) (length out)
    unfolding tuple_refusal
    known q ok = accepted _ _ _ _ _ _ (passed q ok)

pub returns-in_err-check_tuple : goal.returns-in_err-check_tuple
returns-in_err-check_tuple c =
    let a = c.args in
    let checks = checked a.row.now a.index c.kind_at-kind.ensures c.kind_size-length.ensures a.out.now c.check_tuple.ensures in
    let t = tuple-refused _ _ _ (is-refused _ (sym c.in_err-check_tuple.was ∙ checks)) in
    record { answer = handed-on _ c.from_residual.ensures.1 ∙ t.0; words = t.1 }

pub kind_values-values-requires : goal.kind_values-values-requires
kind_values-values-requires c =
    let a = c.args in
    let k = known a.row.now a.index c.kind_at-kind.ensures c.kind_size-length.ensures a.out.now c.check_tuple.ensures c.in_ok-check_tuple.was in
    (omega (arith, k.wide), k.below 0 (omega arith))

pub put_words-requires : goal.put_words-requires
put_words-requires c =
    let a = c.args in
    let size = size_is a.row.now a.index c.kind_at-kind.ensures c.kind_size-length.ensures in
    let k = known a.row.now a.index c.kind_at-kind.ensures c.kind_size-length.ensures a.out.now c.check_tuple.ensures c.in_ok-check_tuple.was in
    let four : length c.kind_values-values.result ≡ 4 = ap length c.kind_values-values.ensures ∙ length-tab 4 _ in
    (omega (arith, size-le c.kind_at-kind.result), omega (arith, k.fits))

pub overflow_add-result : goal.overflow_add-result
overflow_add-result c =
    let a = c.args in
    let k = known a.row.now a.index c.kind_at-kind.ensures c.kind_size-length.ensures a.out.now c.check_tuple.ensures c.in_ok-check_tuple.was in
    omega (arith, k.index)

pub offset_bounds-row-index : goal.offset_bounds-row-index
offset_bounds-row-index c =
    let a = c.args in
    let k = known a.row.now a.index c.kind_at-kind.ensures c.kind_size-length.ensures a.out.now c.check_tuple.ensures c.in_ok-check_tuple.was in
    omega (arith, k.index)

pub bounds-row-index : goal.bounds-row-index
bounds-row-index c =
    let a = c.args in
    let k = known a.row.now a.index c.kind_at-kind.ensures c.kind_size-length.ensures a.out.now c.check_tuple.ensures c.in_ok-check_tuple.was in
    omega (arith, k.index, k.wide)

pub returns : goal.returns
returns c =
    let a = c.args in
    let row = a.row.now in
    let out = a.out.now in
    let kind = c.kind_at-kind.ensures in
    let size = size_is row a.index kind c.kind_size-length.ensures in
    let checks = passed row a.index kind c.kind_size-length.ensures out c.check_tuple.ensures c.in_ok-check_tuple.was in
    let k = known row a.index kind c.kind_size-length.ensures out c.check_tuple.ensures c.in_ok-check_tuple.was in
    let vs = (bitwise_tuple row a.index).values in
    let words = ap (λ (k : BitwiseOperationType). tab 4 (word (kind_values row k))) kind in
    let bus = c.kind_bus.ensures ∙ ap kind_bus kind in
    let mu = ap (word row) (sym (mu-column-at a.index k.index)) in
    let t =
    tuple-given (bitwise_tuple row a.index) out checks
    (c.put_words.ensures
    ∙ ap₂ (λ (n : ℕ) (ws : List ℕ). sets out 0 (tab n (word ws))) size (c.kind_values-values.ensures ∙ words)
    ∙ ap (sets out 0) (tab-padded vs (length vs) 4 refl (omega (arith, kind-size row (kind_at a.index), size-le (kind_at a.index))))
    ∙ sets-overwrite out vs k.fits) in
    record {
      answer = (λ i. Ok (record { bus = bus i; side = Receiver; length = size i; multiplicity = mu i })) ∙ t.0;
      words = t.1;
    }
