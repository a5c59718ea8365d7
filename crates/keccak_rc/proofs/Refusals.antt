-- The calls of the table of constants are accepted exactly where none of their conditions holds; and the refusals with their
-- details, in their order.
use mathlib.Core.Path.{◌≡◌, refl, ◌∙◌}
use mathlib.Core.Logic.{◌↔◌}
use mathlib.Core.List.{List}
use mathlib.Core.Option.{some}
use Prim.Native.Nat.{ℕ, ◌≤◌, ◌<◌}
use borrow.Author.Tests.{leb-false, ltb-false, le-leb, lt-leb, lt-ltb, le-ltb}
use lib.ListN.{length}
use Rattle.answer.specs.Limits.{MAX-OPS, MAX-ROUNDS}
use Rattle.answer.specs.Refusal.{accepted}
use Rattle.answer.proofs.Laws.{refuse-yes, refuse-no, passed-if}
use Rattle.answer.specs.declared.Refusal.TheVariants.{PastEnd, TooShort, Rounds}
use Rattle.answer.proofs.Refusals.{rounds-passed, rounds-later, many-rounds-refused, no-rounds-refused}
use Rattle.keccak_rc.specs.Row.{rc_row_refusal}
use Rattle.keccak_rc.specs.Table.{rc_trace_refusal, update_refusal}

-- `generate_row`
module _ (r : ℕ) (out : List ℕ) where
  pub row-accepted : (rc_row_refusal r out ≡ accepted) ↔ ((r < 32) × (9 ≤ length out))
  unfolding rc_row_refusal
  row-accepted = (
    (λ e.
        let a = passed-if _ _ _ e in
        let b = passed-if _ _ _ a.1 in
        (leb-false 32 r a.0, ltb-false (length out) 9 b.0)),
    λ h. refuse-no _ (lt-leb 32 r h.0) (refuse-no _ (le-ltb (length out) 9 h.1) refl),
  )

  pub row-past : 32 ≤ r → rc_row_refusal r out ≡ some (PastEnd 32)
  unfolding rc_row_refusal
  row-past h = refuse-yes _ _ (le-leb 32 r h)

  pub row-short : r < 32 → length out < 9 → rc_row_refusal r out ≡ some (TooShort 9)
  unfolding rc_row_refusal
  row-short l h = refuse-no _ (lt-leb 32 r l) (refuse-yes _ _ (lt-ltb (length out) 9 h))

-- `generate_keccak_rc_trace`
module _ (table : List ℕ) where
  pub trace-accepted : (rc_trace_refusal table ≡ accepted) ↔ (320 ≤ length table)
  unfolding rc_trace_refusal
  trace-accepted = ((λ e. ltb-false (length table) 320 (passed-if _ _ _ e).0), λ h. refuse-no _ (le-ltb (length table) 320 h) refl)

  pub trace-short : length table < 320 → rc_trace_refusal table ≡ some (TooShort 320)
  unfolding rc_trace_refusal
  trace-short h = refuse-yes _ _ (lt-ltb (length table) 320 h)

-- `update_multiplicities`
module _ (nr : ℕ) (table : List ℕ) (n : ℕ) where
  pub update-accepted :
      (update_refusal nr table n ≡ accepted) ↔ ((1 ≤ nr) × (nr ≤ MAX-ROUNDS) × (n ≤ MAX-OPS) × (320 ≤ length table))
  unfolding update_refusal
  update-accepted = (
    (λ e.
        let r = rounds-passed nr _ e in
        let a = passed-if _ _ _ r.2 in
        let b = passed-if _ _ _ a.1 in
        (r.0, r.1, ltb-false MAX-OPS n a.0, ltb-false (length table) 320 b.0)),
    λ h. rounds-later nr _ h.0 h.1
        ∙ refuse-no _ (le-ltb MAX-OPS n h.2) (refuse-no _ (le-ltb (length table) 320 h.3) refl),
  )

  -- 8 comes first, whatever table and count are
  pub update-rounds : MAX-ROUNDS < nr → update_refusal nr table n ≡ some (Rounds nr)
  unfolding update_refusal
  update-rounds h = many-rounds-refused nr _ h

  module _ (l : 1 ≤ nr) (h : nr ≤ MAX-ROUNDS) where
    pub update-many : MAX-OPS < n → update_refusal nr table n ≡ some (PastEnd 89478486)
    unfolding update_refusal
    update-many m = rounds-later nr _ l h ∙ refuse-yes _ _ (lt-ltb MAX-OPS n m)

    pub update-short : n ≤ MAX-OPS → length table < 320 → update_refusal nr table n ≡ some (TooShort 320)
    unfolding update_refusal
    update-short m s = rounds-later nr _ l h ∙ refuse-no _ (le-ltb MAX-OPS n m) (refuse-yes _ _ (lt-ltb (length table) 320 s))

pub update-no-rounds : (table : List ℕ) (n : ℕ) → update_refusal 0 table n ≡ some (Rounds 0)
unfolding update_refusal
update-no-rounds table n = no-rounds-refused _
