-- The checks of a list of keys or of rows, one after the other: they pass exactly where none of the conditions holds, and
-- each refuses with its detail.
use mathlib.Core.Path.{◌≡◌, refl, ap, subst}
use mathlib.Core.Logic.{◌↔◌}
use mathlib.Core.Bool.{true, false, not}
use mathlib.Core.Option.{Option, none, some}
use mathlib.Core.List.{List}
use Prim.Native.Nat.{ℕ, zero, suc, ◌+◌, ◌*◌, ◌/◌, ◌%◌, ◌≤◌, ◌<◌}
use native.Mathlib.Omega.{arith}
use borrow.Author.Tests.{leb-false, le-leb, lt-leb, eq-eqb, ne_eqb, eqb-true, not-false, lt-ltb, le-ltb, ltb-false}
use lib.ListN.{length}
use Rattle.lists.specs.Tab.{word}
use Rattle.lists.specs.First.{first_at}
use Rattle.lists.proofs.First.{at_clear, at-nothing}
use Rattle.answer.specs.Limits.{MAX-OPS}
use Rattle.answer.specs.Refusal.{accepted}
use Rattle.answer.specs.declared.Refusal.{Refusal}
use Rattle.answer.specs.declared.Refusal.TheVariants.{PastEnd, NotWhole, TooShort, NotElement}
use Rattle.answer.proofs.Laws.{refuse-yes, refuse-no, at-yes, at-no, passed-if, passed-at, still-if}
use Rattle.is_wh_rows.specs.Lists.{MAX-KEYS, limit_of, bad_at, too_many_in, ragged_in, bad_in, rows_refusal, GoodList}

pub max-keys-is : MAX-KEYS ≡ 25 * MAX-OPS
max-keys-is = refl

-- ---- limits
pub word-limit : (part : ℕ) → part ≡ 0 → 4294967296 ≡ limit_of part
word-limit zero e = refl
word-limit (suc part) e = absurd (omega arith)

pub half-limit : (part : ℕ) → part ≡ 1 → 65536 ≡ limit_of part
half-limit zero e = absurd (omega arith)
half-limit (suc zero) e = refl
half-limit (suc (suc part)) e = absurd (omega arith)

pub mu-limit : (part : ℕ) → (part ≡ 0 → ⊥) → (part ≡ 1 → ⊥) → 1048576 ≡ limit_of part
mu-limit zero n m = absurd (n refl)
mu-limit (suc zero) n m = absurd (m refl)
mu-limit (suc (suc part)) n m = refl

pub most-lt : {n : ℕ} → n ≤ MAX-KEYS → n < MAX-KEYS + 1
most-lt h = omega arith

module _ (size : ℕ) (list : List ℕ) where
  pub is-bad : (k limit : ℕ) → limit ≡ limit_of (k % size) → limit ≤ word list k → bad_at size list k ≡ true
  unfolding bad_at
  is-bad k limit e h = le-leb (limit_of (k % size)) (word list k) (subst (λ (n : ℕ). n ≤ word list k) e h)

  pub not-bad : (k limit : ℕ) → limit ≡ limit_of (k % size) → word list k < limit → bad_at size list k ≡ false
  unfolding bad_at
  not-bad k limit e h = lt-leb (limit_of (k % size)) (word list k) (subst (λ (n : ℕ). word list k < n) e h)

  pub all-below : first_at (bad_at size list) (length list) ≡ none → (k : ℕ) → k < length list → word list k < limit_of (k % size)
  unfolding bad_at
  all-below h k l = leb-false (limit_of (k % size)) (word list k) (at_clear (bad_at size list) (length list) k h l)

  pub none-bad : ((k : ℕ) → k < length list → word list k < limit_of (k % size)) → first_at (bad_at size list) (length list) ≡ none
  unfolding bad_at
  none-bad h = at-nothing (bad_at size list) (length list) (λ k l. lt-leb (limit_of (k % size)) (word list k) (h k l))

  -- ---- how many entries, and whole ones
  pub many-refused : (later : Option Refusal) → MAX-KEYS < length list / size → too_many_in size list later ≡ some (PastEnd 2236962126)
  many-refused later h = refuse-yes _ later (le-leb _ (length list / size) h)

  pub few-pass : {later o : Option Refusal} → length list / size ≤ MAX-KEYS → later ≡ o → too_many_in size list later ≡ o
  few-pass h e = refuse-no _ (lt-leb _ (length list / size) (most-lt h)) e

  pub ragged-refused : (later : Option Refusal) → (length list % size ≡ 0 → ⊥) → ragged_in size list later ≡ some (NotWhole 2)
  ragged-refused later h = refuse-yes _ later (ap not (ne_eqb (length list % size) 0 h))

  pub whole-pass : {later o : Option Refusal} → length list % size ≡ 0 → later ≡ o → ragged_in size list later ≡ o
  whole-pass h e = refuse-no _ (ap not (eq-eqb (length list % size) 0 h)) e

  -- both, where another function made them
  pub entries-refused : {q : Refusal} (later : Option Refusal) → too_many_in size list (ragged_in size list accepted) ≡ some q → too_many_in size list (ragged_in size list later) ≡ some q
  entries-refused later = still-if _ _ (still-if _ _ (λ e. cc))

  pub entries-passed : (later : Option Refusal) → too_many_in size list (ragged_in size list later) ≡ accepted
      → (length list / size ≤ MAX-KEYS) × (length list % size ≡ 0) × (later ≡ accepted)
  entries-passed later e =
      let a = passed-if _ _ _ e in
      let b = passed-if _ _ _ a.1 in
      (most (leb-false _ _ a.0), eqb-true _ _ (not-false _ b.0), b.1)
    where
      most : {n : ℕ} → n < MAX-KEYS + 1 → n ≤ MAX-KEYS
      most h = omega arith

  pub bad-refused : (later : Option Refusal) (k : ℕ) → first_at (bad_at size list) (length list) ≡ some k → bad_in size list later ≡ some (NotElement k)
  bad-refused later k h = at-yes NotElement later h

-- ---- a call that takes a list of rows
module _ (room needed : ℕ) (rows : List ℕ) where
  pub rows-many : (later : Option Refusal) → MAX-KEYS < length rows / 3 → rows_refusal room needed rows later ≡ some (PastEnd 2236962126)
  unfolding rows_refusal
  rows-many later h = many-refused 3 rows _ h

  pub rows-entries : {q : Refusal} (later : Option Refusal) → too_many_in 3 rows (ragged_in 3 rows accepted) ≡ some q → rows_refusal room needed rows later ≡ some q
  unfolding rows_refusal
  rows-entries later e = entries-refused 3 rows _ e

  module _ (few : length rows / 3 ≤ MAX-KEYS) where
    pub rows-ragged : (later : Option Refusal) → (length rows % 3 ≡ 0 → ⊥) → rows_refusal room needed rows later ≡ some (NotWhole 2)
    unfolding rows_refusal
    rows-ragged later h = few-pass 3 rows few (ragged-refused 3 rows _ h)

    module _ (whole : length rows % 3 ≡ 0) where
      pub rows_short : (later : Option Refusal) → room < needed → rows_refusal room needed rows later ≡ some (TooShort needed)
      unfolding rows_refusal
      rows_short later h = few-pass 3 rows few (whole-pass 3 rows whole (refuse-yes _ _ (lt-ltb room needed h)))

      module _ (long : needed ≤ room) where
        pub rows-bad : (later : Option Refusal) (k : ℕ) → first_at (bad_at 3 rows) (length rows) ≡ some k → rows_refusal room needed rows later ≡ some (NotElement k)
        unfolding rows_refusal
        rows-bad later k h = few-pass 3 rows few (whole-pass 3 rows whole (refuse-no _ (le-ltb room needed long) (at-yes NotElement later h)))

        pub rows_pass : {later o : Option Refusal} → first_at (bad_at 3 rows) (length rows) ≡ none → later ≡ o → rows_refusal room needed rows later ≡ o
        unfolding rows_refusal
        rows_pass h e = few-pass 3 rows few (whole-pass 3 rows whole (refuse-no _ (le-ltb room needed long) (at-no NotElement h e)))

  pub rows-passed : (later : Option Refusal) → rows_refusal room needed rows later ≡ accepted → GoodList 3 rows × (needed ≤ room) × (later ≡ accepted)
  unfolding rows_refusal
  rows-passed later e =
      let a = entries-passed 3 rows _ e in
      let c = passed-if _ _ _ a.2 in
      let d = passed-at _ _ _ c.1 in
      (record { few = a.0; whole = a.1; below = all-below 3 rows d.0 }, ltb-false room needed c.0, d.1)

  -- accepted exactly where none of the conditions holds
  pub rows-accepted : (rows_refusal room needed rows accepted ≡ accepted) ↔ (GoodList 3 rows × (needed ≤ room))
  rows-accepted = (
    (λ e. let a = rows-passed accepted e in (a.0, a.1)),
    λ g. rows_pass g.0.few g.0.whole g.1 (none-bad 3 rows g.0.below) refl,
  )
