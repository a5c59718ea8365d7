-- `add_ops` and `update_multiplicities` are accepted exactly where none of their conditions holds; and the refusals with
-- their details, in their order.
use mathlib.Core.Path.{◌≡◌, refl, ap}
use mathlib.Core.Logic.{◌↔◌}
use mathlib.Core.Bool.{Bool, true, false, not}
use mathlib.Core.List.{List}
use mathlib.Core.Option.{Option, none, some}
use Prim.Native.Nat.{ℕ, ◌+◌, ◌*◌, ◌%◌, ◌≤◌, ◌<◌}
use native.Mathlib.Omega.{arith}
use borrow.Author.Tests.{ltb-false, lt-ltb, le-ltb, eq-eqb, ne_eqb, eqb-true, not-false}
use lib.Dec.{eqb}
use lib.ListN.{length}
use Rattle.lists.specs.Tab.{word}
use Rattle.lists.specs.First.{first, first_at}
use Rattle.lists.proofs.First.{first-hit, first-none}
use Rattle.field.specs.Field.{p}
use Rattle.answer.specs.Refusal.{refuse_if, refuse_at, accepted, too_short}
use Rattle.answer.specs.declared.Refusal.{Refusal}
use Rattle.answer.specs.declared.Refusal.TheVariants.{PastEnd, NotWhole, TooShort, NotElement}
use Rattle.answer.proofs.Laws.{refuse-yes, refuse-no, at-yes, at-no, passed-if, passed-at}
use Rattle.bitwise.specs.Lookups.{Lookup, lookup_count, kind_of, x_of, y_of, z_of, past_at, not_byte_at, lookup_past, lookups_cut, lookup_not_byte, lookup_counter, named_in, add_ops_refusal, mu_at, update_refusal}
use Rattle.bitwise.specs.Counters.{large_charged}
use Rattle.bitwise.proofs.Lookups.{lookups-are, none-not-byte, past-kind, past-z, past-none, byte-x, byte-y, byte-none, lookup-lt, named-clear, named-below, named-first}

-- ---- the checks of a list, whatever the later ones say

-- the kind and the Z of the lookups below n
abbrev Early : List ℕ → ℕ → Type 0
Early ops n = (i : ℕ) → i < n → (kind_of ops i < 10) × (z_of ops i < 16)

early-none : (ops : List ℕ) (n : ℕ) → Early ops n → first (past_at ops) n ≡ none
early-none ops n h = first-none (past_at ops) n (λ i l. past-none ops i (h i l).0 (h i l).1)

module _ (ops : List ℕ) (later : Option Refusal) where
  -- the first lookup past its end is lookup i, by its kind or else by its Z
  pub list-kind : (i : ℕ) → i < lookup_count ops → Early ops i → 10 ≤ kind_of ops i → lookup_past ops later ≡ some (PastEnd 10)
  list-kind i l e h = at-yes _ later (first-hit (past_at ops) i (lookup_count ops) 10 l (early-none ops i e) (past-kind ops i h))

  pub list-z : (i : ℕ) → i < lookup_count ops → Early ops i → kind_of ops i < 10 → 16 ≤ z_of ops i → lookup_past ops later ≡ some (PastEnd 16)
  list-z i l e k h = at-yes _ later (first-hit (past_at ops) i (lookup_count ops) 16 l (early-none ops i e) (past-z ops i k h))

  module _ (e : Early ops (lookup_count ops)) where
    pub list-cut : (length ops % 4 ≡ 0 → ⊥) → lookup_past ops (lookups_cut ops later) ≡ some (NotWhole 2)
    list-cut h = at-no _ (early-none ops (lookup_count ops) e) (refuse-yes _ later (ap not (ne_eqb (length ops % 4) 0 h)))

    pub list-clear : {o : Option Refusal} → length ops % 4 ≡ 0 → later ≡ o → lookup_past ops (lookups_cut ops later) ≡ o
    list-clear h q = at-no _ (early-none ops (lookup_count ops) e) (refuse-no _ (ap not (eq-eqb (length ops % 4) 0 h)) q)

-- the first X or Y that is no byte is lookup i's
abbrev Bytes : List ℕ → ℕ → Type 0
Bytes ops n = (i : ℕ) → i < n → (x_of ops i < 256) × (y_of ops i < 256)

bytes-none : (ops : List ℕ) (n : ℕ) → Bytes ops n → first (not_byte_at ops) n ≡ none
bytes-none ops n h = first-none (not_byte_at ops) n (λ i l. byte-none ops i (h i l).0 (h i l).1)

module _ (ops : List ℕ) (later : Option Refusal) (i : ℕ) (l : i < lookup_count ops) (e : Bytes ops i) where
  pub list-x : 256 ≤ x_of ops i → lookup_not_byte ops later ≡ some (NotElement (4 * i + 1))
  list-x h = at-yes _ later (first-hit (not_byte_at ops) i (lookup_count ops) (4 * i + 1) l (bytes-none ops i e) (byte-x ops i h))

  pub list-y : x_of ops i < 256 → 256 ≤ y_of ops i → lookup_not_byte ops later ≡ some (NotElement (4 * i + 2))
  list-y x h = at-yes _ later (first-hit (not_byte_at ops) i (lookup_count ops) (4 * i + 2) l (bytes-none ops i e) (byte-y ops i x h))

-- ---- a whole list of lookups
pub record Lookups (ops : List ℕ) : Type 0 where
  pub whole : length ops % 4 ≡ 0
  pub each : (i : ℕ) → i < lookup_count ops → Lookup ops i

early : (ops : List ℕ) → Lookups ops → Early ops (lookup_count ops)
early ops h i l = ((h.each i l).kind-below, (h.each i l).z-below)

-- the counter of each lookup has a word below p
abbrev pub ChargedBelow : (ℕ → ℕ) → List ℕ → Type 0
ChargedBelow words ops = (i : ℕ) → i < lookup_count ops → words (lookup_counter ops i) < p

-- lookup i has the first counter that is p or more
pub record FirstCharged (words : ℕ → ℕ) (ops : List ℕ) (i : ℕ) : Type 0 where
  pub there : i < lookup_count ops
  pub large : p ≤ words (lookup_counter ops i)
  pub lower : (j : ℕ) → j < lookup_count ops → lookup_counter ops j < lookup_counter ops i → words (lookup_counter ops j) < p

module _ (ops : List ℕ) (h : Lookups ops) where
  pub counters-of : (i : ℕ) → i < lookup_count ops → lookup_counter ops i < 10485760
  counters-of i l = lookup-lt ops i (h.each i l)

  found_first : (words : ℕ → ℕ) (i : ℕ) → FirstCharged words ops i → first_at (large_charged (named_in ops (lookup_count ops)) words) 10485760 ≡ some (lookup_counter ops i)
  found_first words i f = named-first ops words (lookup_count ops) 10485760 i f.there (counters-of i f.there) f.large f.lower

-- ---- `add_ops`
module _ (counters ops : List ℕ) where
  pub add-accepted : (add_ops_refusal counters ops ≡ accepted) ↔ ((10485760 ≤ length counters) × Lookups ops × ChargedBelow (word counters) ops)
  unfolding add_ops_refusal
  add-accepted = (
    (λ e.
        let a = passed-at _ _ _ e in
        let b = passed-if _ _ _ a.1 in
        let c = passed-if _ _ _ b.1 in
        let d = passed-at _ _ _ c.1 in
        let f = passed-at _ _ _ d.1 in
        let list : Lookups ops = record { whole = eqb-true _ _ (not-false _ b.0); each = lookups-are ops (lookup_count ops) a.0 d.0 } in
        (ltb-false (length counters) 10485760 c.0, list, named-clear ops (word counters) (lookup_count ops) 10485760 (counters-of ops list) f.0)),
    λ h.
        list-clear ops _ (early ops h.1) h.1.whole
        (refuse-no _ (le-ltb (length counters) 10485760 h.0)
        (at-no _ (none-not-byte ops (lookup_count ops) h.1.each)
        (at-no _ (named-below ops (word counters) (lookup_count ops) 10485760 h.2) refl))),
  )

  -- behind the first two checks, which are the list's (`list-kind`, `list-z`, `list-cut`)
  module _ (e : Early ops (lookup_count ops)) (w : length ops % 4 ≡ 0) where
    pub add-short : length counters < 10485760 → add_ops_refusal counters ops ≡ some (TooShort 10485760)
    unfolding add_ops_refusal
    add-short h = list-clear ops _ e w (refuse-yes _ _ (lt-ltb (length counters) 10485760 h))

    -- then the list by 5: `list-x`, `list-y`
    pub add-bytes : {o : Option Refusal} → 10485760 ≤ length counters → ((later : Option Refusal) → lookup_not_byte ops later ≡ o) → add_ops_refusal counters ops ≡ o
    unfolding add_ops_refusal
    add-bytes h q = list-clear ops _ e w (refuse-no _ (le-ltb (length counters) 10485760 h) (q _))

  -- then the first counter
  pub add-large : 10485760 ≤ length counters → Lookups ops → (i : ℕ) → FirstCharged (word counters) ops i → add_ops_refusal counters ops ≡ some (NotElement (lookup_counter ops i))
  unfolding add_ops_refusal
  add-large m h i f =
      list-clear ops _ (early ops h) h.whole
      (refuse-no _ (le-ltb (length counters) 10485760 m)
      (at-no _ (none-not-byte ops (lookup_count ops) h.each) (at-yes _ _ (found_first ops h (word counters) i f))))

-- ---- `update_multiplicities`
module _ (table ops : List ℕ) where
  -- the words of the table that are the counters'
  abbrev mus : ℕ → ℕ
  mus c = word table (mu_at c)

  pub update-accepted : (update_refusal table ops ≡ accepted) ↔ ((22020096 ≤ length table) × Lookups ops × ChargedBelow (λ c. word table (mu_at c)) ops)
  unfolding update_refusal
  update-accepted = (
    (λ e.
        let a = passed-at _ _ _ e in
        let b = passed-if _ _ _ a.1 in
        let c = passed-if _ _ _ b.1 in
        let d = passed-at _ _ _ c.1 in
        let f = passed-at _ _ _ d.1 in
        let list : Lookups ops = record { whole = eqb-true _ _ (not-false _ b.0); each = lookups-are ops (lookup_count ops) a.0 d.0 } in
        (ltb-false (length table) 22020096 c.0, list, named-clear ops mus (lookup_count ops) 10485760 (counters-of ops list) f.0)),
    λ h.
        list-clear ops _ (early ops h.1) h.1.whole
        (refuse-no _ (le-ltb (length table) 22020096 h.0)
        (at-no _ (none-not-byte ops (lookup_count ops) h.1.each)
        (at-no _ (named-below ops mus (lookup_count ops) 10485760 h.2) refl))),
  )

  module _ (e : Early ops (lookup_count ops)) (w : length ops % 4 ≡ 0) where
    pub update-short : length table < 22020096 → update_refusal table ops ≡ some (TooShort 22020096)
    unfolding update_refusal
    update-short h = list-clear ops _ e w (refuse-yes _ _ (lt-ltb (length table) 22020096 h))

    pub update-bytes : {o : Option Refusal} → 22020096 ≤ length table → ((later : Option Refusal) → lookup_not_byte ops later ≡ o) → update_refusal table ops ≡ o
    unfolding update_refusal
    update-bytes h q = list-clear ops _ e w (refuse-no _ (le-ltb (length table) 22020096 h) (q _))

  -- the detail is the place in the table
  pub update-large : 22020096 ≤ length table → Lookups ops → (i : ℕ) → FirstCharged (λ c. word table (mu_at c)) ops i → update_refusal table ops ≡ some (NotElement (mu_at (lookup_counter ops i)))
  unfolding update_refusal
  update-large m h i f =
      list-clear ops _ (early ops h) h.whole
      (refuse-no _ (le-ltb (length table) 22020096 m)
      (at-no _ (none-not-byte ops (lookup_count ops) h.each) (at-yes _ _ (found_first ops h mus i f))))

-- ---- a call whose first three checks another function made
module _ (ops : List ℕ) (room needed : ℕ) where
  -- what such a call knows once they have passed
  pub record Checked : Type 0 where
    pub past : first (past_at ops) (lookup_count ops) ≡ none
    pub whole : not (eqb (length ops % 4) 0) ≡ false
    pub fits : needed ≤ room

  pub checked : lookup_past ops (lookups_cut ops (too_short room needed accepted)) ≡ none → Checked
  checked e =
      let a = passed-at _ _ _ e in
      let b = passed-if _ _ _ a.1 in
      let c = passed-if _ _ _ b.1 in
      record { past = a.0; whole = b.0; fits = ltb-false room needed c.0 }

  -- and the later checks decide
  pub checked-later : {later o : Option Refusal} → Checked → later ≡ o → lookup_past ops (lookups_cut ops (too_short room needed later)) ≡ o
  checked-later k q = at-no _ k.past (refuse-no _ k.whole (refuse-no _ (le-ltb room needed k.fits) q))

some-none : (r : Refusal) → none ≡ some r → ⊥
some-none r e = let z : ◌≡◌ {A = ℕ} 0 1 = cc in omega arith

-- where they refuse, the call is refused so
pub three-refused : (o : Option ℕ) (f : ℕ → Refusal) (b c : Bool) (q s : Refusal) (later : Option Refusal) {r : Refusal}
    → refuse_at o f (refuse_if b q (refuse_if c s accepted)) ≡ some r → refuse_at o f (refuse_if b q (refuse_if c s later)) ≡ some r
unfolding refuse_at refuse_if
three-refused (some k) f b c q s later e = e
three-refused none f true c q s later e = e
three-refused none f false true q s later e = e
three-refused none f false false q s later {r} e = absurd (some-none r e)
