-- The bitwise table's calls are accepted exactly where none of their conditions holds; and the refusals with their details, in
-- their order.
use mathlib.Core.Path.{◌≡◌, refl}
use mathlib.Core.Logic.{◌↔◌}
use mathlib.Core.List.{List}
use mathlib.Core.Option.{some}
use Prim.Native.Nat.{ℕ, ◌≤◌, ◌<◌}
use borrow.Author.Tests.{leb-false, ltb-false, le-leb, lt-leb, lt-ltb, le-ltb}
use lib.ListN.{length}
use Rattle.lists.specs.Tab.{word}
use Rattle.lists.specs.Failure.{FirstAt}
use Rattle.field.specs.Field.{p}
use Rattle.field.specs.Elements.{ElementRow}
use Rattle.field.proofs.NotElement.{all-elements, none_found, first_found}
use Rattle.answer.specs.Refusal.{accepted}
use Rattle.answer.proofs.Laws.{refuse-yes, refuse-no, at-yes, at-no, passed-if, passed-at}
use Rattle.answer.proofs.Refusals.{room-accepted, room-refused}
use Rattle.answer.specs.declared.Refusal.TheVariants.{PastEnd, TooShort, NotElement}
use Rattle.bitwise.specs.Row.{bitwise_row_refusal, index_refusal}
use Rattle.bitwise.specs.Counters.{counter_at, bump_refusal, merge_refusal}
use Rattle.bitwise.specs.Table.{trace_refusal, fill_refusal}

-- word k is the first of n words that is p or more
abbrev pub FirstLarge : List ℕ → ℕ → ℕ → Type 0
FirstLarge words n k = FirstAt (λ i. p ≤ word words i) (λ i. word words i < p) n k

-- `generate_bitwise_row`
pub row-accepted : (i : ℕ) (row : List ℕ) → (bitwise_row_refusal i row ≡ accepted) ↔ ((i < 1048576) × (11 ≤ length row))
unfolding bitwise_row_refusal
row-accepted i row = (
  (λ e.
      let a = passed-if _ _ _ e in
      let b = passed-if _ _ _ a.1 in
      (leb-false 1048576 i a.0, ltb-false (length row) 11 b.0)),
  λ h. refuse-no _ (lt-leb 1048576 i h.0) (refuse-no _ (le-ltb (length row) 11 h.1) refl),
)

pub row-past : (i : ℕ) (row : List ℕ) → 1048576 ≤ i → bitwise_row_refusal i row ≡ some (PastEnd 1048576)
unfolding bitwise_row_refusal
row-past i row h = refuse-yes _ _ (le-leb 1048576 i h)

pub row-short : (i : ℕ) (row : List ℕ) → i < 1048576 → length row < 11 → bitwise_row_refusal i row ≡ some (TooShort 11)
unfolding bitwise_row_refusal
row-short i row l h = refuse-no _ (lt-leb 1048576 i l) (refuse-yes _ _ (lt-ltb (length row) 11 h))

-- `row_index`
pub index-accepted : (z : ℕ) → (index_refusal z ≡ accepted) ↔ (z < 16)
unfolding index_refusal
index-accepted z = ((λ e. leb-false 16 z (passed-if _ _ _ e).0), λ h. refuse-no _ (lt-leb 16 z h) refl)

pub index-past : (z : ℕ) → 16 ≤ z → index_refusal z ≡ some (PastEnd 16)
unfolding index_refusal
index-past z h = refuse-yes _ _ (le-leb 16 z h)

-- `bump` and `bump_n`
module _ (counters : List ℕ) (kind x y z : ℕ) where
  pub record Chargeable : Type 0 where
    pub kind-below : kind < 10
    pub z-below : z < 16
    pub long : 10485760 ≤ length counters
    pub element : word counters (counter_at kind x y z) < p

  pub bump-accepted : (bump_refusal counters kind x y z ≡ accepted) ↔ Chargeable
  unfolding bump_refusal
  bump-accepted = (
    (λ e.
        let a = passed-if _ _ _ e in
        let b = passed-if _ _ _ a.1 in
        let c = passed-if _ _ _ b.1 in
        let d = passed-if _ _ _ c.1 in
        record {
          kind-below = leb-false 10 kind a.0;
          z-below = leb-false 16 z b.0;
          long = ltb-false (length counters) 10485760 c.0;
          element = leb-false p (word counters (counter_at kind x y z)) d.0;
        }),
    λ h.
        refuse-no _ (lt-leb 10 kind h.kind-below)
        (refuse-no _ (lt-leb 16 z h.z-below)
        (refuse-no _ (le-ltb (length counters) 10485760 h.long)
        (refuse-no _ (lt-leb p (word counters (counter_at kind x y z)) h.element) refl))),
  )

  pub kind-past : 10 ≤ kind → bump_refusal counters kind x y z ≡ some (PastEnd 10)
  unfolding bump_refusal
  kind-past h = refuse-yes _ _ (le-leb 10 kind h)

  module _ (k : kind < 10) where
    pub z-past : 16 ≤ z → bump_refusal counters kind x y z ≡ some (PastEnd 16)
    unfolding bump_refusal
    z-past h = refuse-no _ (lt-leb 10 kind k) (refuse-yes _ _ (le-leb 16 z h))

    module _ (l : z < 16) where
      pub counters-short : length counters < 10485760 → bump_refusal counters kind x y z ≡ some (TooShort 10485760)
      unfolding bump_refusal
      counters-short h =
          refuse-no _ (lt-leb 10 kind k) (refuse-no _ (lt-leb 16 z l) (refuse-yes _ _ (lt-ltb (length counters) 10485760 h)))

      -- the detail is the place of the counter charged
      pub counter-large : 10485760 ≤ length counters → p ≤ word counters (counter_at kind x y z) →
          bump_refusal counters kind x y z ≡ some (NotElement (counter_at kind x y z))
      unfolding bump_refusal
      counter-large m h =
          refuse-no _ (lt-leb 10 kind k)
          (refuse-no _ (lt-leb 16 z l)
          (refuse-no _ (le-ltb (length counters) 10485760 m)
          (refuse-yes _ _ (le-leb p (word counters (counter_at kind x y z)) h))))

-- `generate_bitwise_trace`
module _ (table : List ℕ) where
  pub trace-accepted : (trace_refusal table ≡ accepted) ↔ (22020096 ≤ length table)
  unfolding trace_refusal
  trace-accepted = room-accepted (length table) 22020096

  pub trace-short : length table < 22020096 → trace_refusal table ≡ some (TooShort 22020096)
  unfolding trace_refusal
  trace-short h = room-refused (length table) 22020096 accepted h

-- `merge`
module _ (counters other : List ℕ) where
  pub merge-accepted : (merge_refusal counters other ≡ accepted) ↔ (ElementRow 10485760 counters × ElementRow 10485760 other)
  unfolding merge_refusal
  merge-accepted = (
    (λ e.
        let a = passed-if _ _ _ e in
        let b = passed-if _ _ _ a.1 in
        let c = passed-at _ _ _ b.1 in
        let d = passed-at _ _ _ c.1 in (
          record { long = ltb-false (length counters) 10485760 a.0; below = all-elements counters 10485760 c.0 },
          record { long = ltb-false (length other) 10485760 b.0; below = all-elements other 10485760 d.0 },
        )),
    λ h.
        refuse-no _ (le-ltb (length counters) 10485760 h.0.long)
        (refuse-no _ (le-ltb (length other) 10485760 h.1.long)
        (at-no _ (none_found counters 10485760 h.0.below)
        (at-no _ (none_found other 10485760 h.1.below) refl))),
  )

  pub merge-short : length counters < 10485760 → merge_refusal counters other ≡ some (TooShort 10485760)
  unfolding merge_refusal
  merge-short h = refuse-yes _ _ (lt-ltb (length counters) 10485760 h)

  module _ (l : 10485760 ≤ length counters) where
    pub merge-other-short : length other < 10485760 → merge_refusal counters other ≡ some (TooShort 10485760)
    unfolding merge_refusal
    merge-other-short h = refuse-no _ (le-ltb (length counters) 10485760 l) (refuse-yes _ _ (lt-ltb (length other) 10485760 h))

    module _ (m : 10485760 ≤ length other) where
      -- the detail is the place of the first counter that is p or more
      pub merge-large : (k : ℕ) → FirstLarge counters 10485760 k → merge_refusal counters other ≡ some (NotElement k)
      unfolding merge_refusal
      merge-large k f =
          refuse-no _ (le-ltb (length counters) 10485760 l)
          (refuse-no _ (le-ltb (length other) 10485760 m)
          (at-yes _ _ (first_found counters 10485760 k f.there f.fails f.lower)))

      pub merge-other-large : ((k : ℕ) → k < 10485760 → word counters k < p) → (k : ℕ) → FirstLarge other 10485760 k
          → merge_refusal counters other ≡ some (NotElement k)
      unfolding merge_refusal
      merge-other-large e k f =
          refuse-no _ (le-ltb (length counters) 10485760 l)
          (refuse-no _ (le-ltb (length other) 10485760 m)
          (at-no _ (none_found counters 10485760 e)
          (at-yes _ _ (first_found other 10485760 k f.there f.fails f.lower))))

-- `fill_multiplicities`
module _ (counters table : List ℕ) where
  pub fill-accepted : (fill_refusal counters table ≡ accepted) ↔ (ElementRow 10485760 counters × (22020096 ≤ length table))
  unfolding fill_refusal
  fill-accepted = (
    (λ e.
        let a = passed-if _ _ _ e in
        let b = passed-if _ _ _ a.1 in
        let c = passed-at _ _ _ b.1 in (
          record { long = ltb-false (length counters) 10485760 a.0; below = all-elements counters 10485760 c.0 },
          ltb-false (length table) 22020096 b.0,
        )),
    λ h.
        refuse-no _ (le-ltb (length counters) 10485760 h.0.long)
        (refuse-no _ (le-ltb (length table) 22020096 h.1)
        (at-no _ (none_found counters 10485760 h.0.below) refl)),
  )

  pub fill-counters-short : length counters < 10485760 → fill_refusal counters table ≡ some (TooShort 10485760)
  unfolding fill_refusal
  fill-counters-short h = refuse-yes _ _ (lt-ltb (length counters) 10485760 h)

  module _ (l : 10485760 ≤ length counters) where
    pub fill-table-short : length table < 22020096 → fill_refusal counters table ≡ some (TooShort 22020096)
    unfolding fill_refusal
    fill-table-short h = refuse-no _ (le-ltb (length counters) 10485760 l) (refuse-yes _ _ (lt-ltb (length table) 22020096 h))

    pub fill-large : 22020096 ≤ length table → (k : ℕ) → FirstLarge counters 10485760 k → fill_refusal counters table ≡ some (NotElement k)
    unfolding fill_refusal
    fill-large m k f =
        refuse-no _ (le-ltb (length counters) 10485760 l)
        (refuse-no _ (le-ltb (length table) 22020096 m)
        (at-yes _ _ (first_found counters 10485760 k f.there f.fails f.lower)))
