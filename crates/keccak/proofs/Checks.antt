-- The checks of a call that takes a list of operations, and what it knows once they have passed.
use Prim.Native.Nat.{ℕ, ◌+◌, ◌%◌, ◌^◌, ◌≤◌, ◌<◌}
use mathlib.Core.Path.{◌≡◌, sym, ap, ◌∙◌}
use mathlib.Core.Option.{none, some}
use mathlib.Core.List.{List}
use native.Mathlib.Omega.{arith}
use borrow.Author.Tests.{lt-ltb, le-ltb, ltb-false, eqb-true, not-false}
use lib.ListN.{length}
use Rattle.lists.specs.First.{first_at}
use Rattle.lists.proofs.First.{at_clear}
use Rattle.answer.specs.Limits.{MAX-OPS}
use Rattle.answer.specs.Refusal.{accepted, answer_of, too_short}
use Rattle.answer.specs.declared.Refusal.{Refusal}
use Rattle.answer.specs.declared.Refusal.TheVariants.{PastEnd}
use Rattle.answer.proofs.Laws.{refuse-yes, refuse-no, is-refused, is-done, passed-if, passed-at}
use Rattle.keccak.specs.Row.{OP-WORDS, LAST-ADDRESS, LAST-SEGMENT}
use Rattle.keccak.specs.Refusals.{op_count, address_at, segment_at, high_at, unaligned_at, wide_at, not_whole, bad_operation, operations_refusal}
use Rattle.std.specs.Prelude.{Result, Ok, Err, ⊤}

-- the pointers of an operation whose address is not too high
pub address-fits : (ops : List ℕ) (n i : ℕ) → first_at (high_at ops) n ≡ none → i < n → address_at ops i + 192 < 2 ^ 64
unfolding high_at
address-fits ops n i e h =
    let l : address_at ops i ≤ LAST-ADDRESS = ltb-false _ _ (at_clear (high_at ops) n i e h) in
    omega arith

-- an operation whose segment number fits
pub segment-fits : (ops : List ℕ) (n i : ℕ) → first_at (wide_at ops) n ≡ none → i < n → segment_at ops i ≤ LAST-SEGMENT
unfolding wide_at
segment-fits ops n i e h = ltb-false _ _ (at_clear (wide_at ops) n i e h)

pub record Passed (room needed : ℕ) (ops : List ℕ) : Type 0 where
  pub whole : length ops % OP-WORDS ≡ 0
  pub fits : needed ≤ room
  pub low : first_at (high_at ops) (op_count ops) ≡ none
  pub aligned : first_at (unaligned_at ops) (op_count ops) ≡ none
  pub segments : first_at (wide_at ops) (op_count ops) ≡ none

pub passed : (room needed : ℕ) (ops : List ℕ) → not_whole ops (too_short room needed (bad_operation ops accepted)) ≡ none → Passed room needed ops
passed room needed ops e =
    let a = passed-if _ _ _ e in
    let b = passed-if _ _ _ a.1 in
    let d = passed-at _ _ _ b.1 in
    let f = passed-at _ _ _ d.1 in
    record {
      whole = eqb-true _ _ (not-false _ a.0);
      fits = ltb-false _ _ b.0;
      low = d.0;
      aligned = f.0;
      segments = (passed-at _ _ _ f.1).0;
    }

-- the checks of a call that takes a list and a slice: it refuses a long list itself, and a function makes the others
module _ (room needed : ℕ) (ops : List ℕ) where
  pub too_many_lem : MAX-OPS < op_count ops → operations_refusal room needed ops ≡ some (PastEnd (MAX-OPS + 1))
  unfolding operations_refusal
  too_many_lem h = refuse-yes _ _ (lt-ltb _ _ h)

  module _ {n : ℕ} {a : Result ⊤ Refusal} (few : op_count ops ≤ MAX-OPS) (same : n ≡ needed) (told : a ≡ answer_of (not_whole ops (too_short room n (bad_operation ops accepted)))) where
    others : a ≡ answer_of (not_whole ops (too_short room needed (bad_operation ops accepted)))
    others = told ∙ ap (λ (k : ℕ). answer_of (not_whole ops (too_short room k (bad_operation ops accepted)))) same

    pub told-refused : {r : Refusal} → a ≡ Err r → operations_refusal room needed ops ≡ some r
    unfolding operations_refusal
    told-refused e = refuse-no _ (le-ltb _ _ few) (is-refused _ (sym e ∙ others))

    pub told-done : a ≡ Ok tt → (operations_refusal room needed ops ≡ none) × Passed room needed ops
    unfolding operations_refusal
    told-done e = let clear = is-done _ (sym e ∙ others) in (refuse-no _ (le-ltb _ _ few) clear, passed room needed ops clear)
