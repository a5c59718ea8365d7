-- "The histogram is a commutative monoid: increments and merge are order-independent" (tables/bitwise.rs): its neutral element, and lists of
-- lookups in another order. That merging commutes and associates: bitwise/proofs/Histogram.antt.
--     neutral-last, neutral-first   merging with counters that are 0
--     each_at                       what each counter is after a list of lookups: by how many of them fall on it
--     Reordered                     the lookups of two lists are matched one to one, each with one of the same four words
--     order-free                    so two such lists leave the same counters
use mathlib.Core.Bool.{Bool, true}
use mathlib.Core.List.{List}
use mathlib.Core.Path.{◌≡◌, refl, sym, ap, subst, ◌∙◌}
use Prim.Native.Nat.{ℕ, zero, suc, ◌+◌, ◌*◌, ◌%◌, ◌≤◌, ◌<◌}
use native.Mathlib.Nat.{add-zero, mod-eq_of_lt, mod-add-mod, add_assoc}
use native.Mathlib.Omega.{arith}
use borrow.Author.Tests.{eq-eqb, ne_eqb, eqb-true}
use lib.Dec.{eqb}
use lib.ListN.{length}
use lib.Seq.{ext_get_or}
use Rattle.lists.specs.Tab.{pick, word}
use Rattle.lists.specs.First.{count_below}
use Rattle.lists.specs.OneToOne.{OneToOne}
use Rattle.lists.specs.Sum.{sum_below}
use Rattle.lists.proofs.Count.{sum-tests}
use Rattle.lists.proofs.Kept.{by-eq}
use Rattle.lists.proofs.OneToOne.{matched-by, matched-equally}
use Rattle.lists.proofs.Reading.{Alike}
use Rattle.lists.proofs.Then.{by_le}
use Rattle.field.specs.Field.{p}
use Rattle.answer.specs.Refusal.{accepted}
use Rattle.answer.proofs.Overwrite.{left}
use Rattle.bitwise.specs.Columns.{NUM-COUNTERS}
use Rattle.bitwise.specs.Counters.{charge, merged, merge_refusal, merge_after}
use Rattle.bitwise.specs.Lookups.{lookup_count, lookup_counter, kind_of, x_of, y_of, z_of, charge_each, added_ops, add_ops_refusal, add_ops_after}
use Rattle.bitwise.proofs.Counters.{charge-same, charge-other}
use Rattle.bitwise.proofs.Histogram.{merged-at, merged-past, merged-length, merge-commutes}
use Rattle.bitwise.proofs.Large.{count-some, some-counted}
use Rattle.bitwise.proofs.LookupRefusals.{Lookups, add-accepted}
use Rattle.bitwise.proofs.Lookups.{lookup-lt, each-length}
use Rattle.bitwise.proofs.Refusals.{merge-accepted}

-- ---- merging with counters that are 0
module _ (a zeros : List ℕ) (all-zero : (k : ℕ) → k < NUM-COUNTERS → word zeros k ≡ 0) where
  pub neutral-last : merge_refusal a zeros ≡ accepted → merge_after a zeros ≡ a
  neutral-last passed =
      let row = ((merge-accepted a zeros).0 passed).0 in
      left (merged a zeros) a passed
      ∙ ext_get_or 0 (merged a zeros) a (merged-length a zeros row.long)
      (λ k _. by_le NUM-COUNTERS k (merged-past a zeros k)
      (λ l. merged-at a zeros k l ∙ ap (λ (z : ℕ). (word a k + z) % p) (all-zero k l) ∙ ap (λ (n : ℕ). n % p) (add-zero (word a k)) ∙ mod-eq_of_lt (row.below k l)))

  -- what stands past the counters is that of the first slice
  pub neutral-first : merge_refusal zeros a ≡ accepted → Alike NUM-COUNTERS (merge_after zeros a) a
  neutral-first passed k l =
      let e = (merge-accepted zeros a).0 passed in
      merge-commutes zeros a passed k l ∙ ap (λ (x : List ℕ). word x k) (neutral-last ((merge-accepted a zeros).1 (e.1, e.0)))

-- ---- a counter after n lookups, the i-th on counter `at` i
module _ (at : ℕ → ℕ) (words : List ℕ) (c : ℕ) (there : c < length words) (small : word words c < p) where
  -- how many of them fall on it
  abbrev falls : ℕ → ℕ
  falls n = sum_below n (λ i. pick (eqb c (at i)) 1 0)

  pub each_at : (n : ℕ) → word (charge_each at n words) c ≡ (word words c + falls n) % p
  unfolding charge_each sum_below
  each_at zero = sym (ap (λ (k : ℕ). k % p) (add-zero (word words c)) ∙ mod-eq_of_lt small)
  each_at (suc n) =
      by-eq c (at n)
      (λ e.
      ap (λ (k : ℕ). word (charge (charge_each at n words) (at n) 1) k) e
      ∙ charge-same (charge_each at n words) (at n) 1 (omega (arith, each-length at n words, there, e))
      ∙ ap (λ (k : ℕ). (word (charge_each at n words) k + 1) % p) (sym e)
      ∙ ap (λ (k : ℕ). (k + 1) % p) (each_at n)
      ∙ mod-add-mod (word words c + falls n) p 1
      ∙ ap (λ (k : ℕ). k % p) (add_assoc (word words c) (falls n) 1)
      ∙ ap (λ (t : Bool). (word words c + (falls n + pick t 1 0)) % p) (sym (eq-eqb c (at n) e)))
      (λ d.
      charge-other (charge_each at n words) (at n) 1 c d ∙ each_at n
      ∙ ap (λ (k : ℕ). (word words c + k) % p) (sym (add-zero (falls n)))
      ∙ ap (λ (t : Bool). (word words c + (falls n + pick t 1 0)) % p) (sym (ne_eqb c (at n) d)))

each-past : (at : ℕ → ℕ) (words : List ℕ) (c n : ℕ) → ((i : ℕ) → i < n → c ≡ at i → ⊥) → word (charge_each at n words) c ≡ word words c
unfolding charge_each
each-past at words c zero h = refl
each-past at words c (suc n) h = charge-other (charge_each at n words) (at n) 1 c (h n (omega arith)) ∙ each-past at words c n (λ i l. h i (omega arith))

-- ---- two lists of the same lookups
-- lookup i of the one has the four words of lookup j of the other
abbrev pub SameLookup : List ℕ → List ℕ → ℕ → ℕ → Type 0
SameLookup ops other i j = (kind_of ops i ≡ kind_of other j) × (x_of ops i ≡ x_of other j) × (y_of ops i ≡ y_of other j) × (z_of ops i ≡ z_of other j)

abbrev pub Reordered : List ℕ → List ℕ → Type 0
Reordered ops other = OneToOne (λ i. i < lookup_count ops) (λ j. j < lookup_count other) (SameLookup ops other)

module _ (counters ops other : List ℕ) (order : Reordered ops other) (taken : add_ops_refusal counters ops ≡ accepted) where
  list : Lookups ops
  list = ((add-accepted counters ops).0 taken).1

  enough : NUM-COUNTERS ≤ length counters
  enough = ((add-accepted counters ops).0 taken).0

  -- lookup j of the other has the counter of one of the first
  same-counter : (j : ℕ) → j < lookup_count other → lookup_counter ops (order.from j) ≡ lookup_counter other j
  same-counter j l =
      let a = order.alike (order.from j) (order.from_in j l) in
      (λ t. (a.1 t + a.2 t * 256 + a.3 t * 65536) * 10 + a.0 t) ∙ ap (lookup_counter other) (order.to-from j l)

  -- where its length is that of whole lookups the other is accepted too
  pub order-taken : length other % 4 ≡ 0 → add_ops_refusal counters other ≡ accepted
  order-taken whole =
      (add-accepted counters other).1 (
        enough,
        record {
          whole = whole;
          each = λ j l.
              let i = order.from j in
              let g = order.from_in j l in
              let a = order.alike i g in
              let q : order.to i ≡ j = order.to-from j l in
              let b = list.each i g in
              record {
                kind-below = subst (λ (n : ℕ). n < 10) (a.0 ∙ ap (kind_of other) q) b.kind-below;
                x_below = subst (λ (n : ℕ). n < 256) (a.1 ∙ ap (x_of other) q) b.x_below;
                y-below = subst (λ (n : ℕ). n < 256) (a.2 ∙ ap (y_of other) q) b.y-below;
                z-below = subst (λ (n : ℕ). n < 16) (a.3 ∙ ap (z_of other) q) b.z-below;
              };
        },
        λ j l. subst (λ (k : ℕ). word counters k < p) (same-counter j l) (((add-accepted counters ops).0 taken).2 (order.from j) (order.from_in j l)),
      )

  -- as many fall on each counter
  same-falls : (c : ℕ) → count_below (λ i. eqb c (lookup_counter ops i)) (lookup_count ops) ≡ count_below (λ j. eqb c (lookup_counter other j)) (lookup_count other)
  same-falls c =
      matched-equally eqb (lookup_count ops) (λ k. true) (lookup_counter ops) (lookup_count other) (λ k. true) (lookup_counter other)
      (matched-by (λ k l. l.0) (λ k l. (l, refl)) (λ j l. l.0) (λ j l. (l, refl))
      (λ i j l a. λ t. (a.1 t + a.2 t * 256 + a.3 t * 65536) * 10 + a.0 t) order) c

  pub order-free : length other % 4 ≡ 0 → add_ops_after counters ops ≡ add_ops_after counters other
  unfolding added_ops
  order-free whole =
      let also = order-taken whole in
      let their = ((add-accepted counters other).0 also).1 in
      let here = lookup_counter ops in
      let there = lookup_counter other in
      let n = lookup_count ops in
      let m = lookup_count other in
      left (added_ops counters ops) counters taken
      ∙ ext_get_or 0 (charge_each here n counters) (charge_each there m counters) (each-length here n counters ∙ sym (each-length there m counters))
      (λ c _. by_le NUM-COUNTERS c
      (λ past.
      each-past here counters c n (λ i l e. omega (arith, past, e, lookup-lt ops i (list.each i l)))
      ∙ sym (each-past there counters c m (λ i l e. omega (arith, past, e, lookup-lt other i (their.each i l)))))
      (λ l. by-eq (count_below (λ i. eqb c (here i)) n) 0
      -- a counter that they do not charge
      (λ none.
      each-past here counters c n (λ i b e. omega (arith, none, count-some (λ k. eqb c (here k)) n i b (eq-eqb c (here i) e)))
      ∙ sym (each-past there counters c m (λ i b e. omega (arith, none, same-falls c, count-some (λ k. eqb c (there k)) m i b (eq-eqb c (there i) e)))))
      (λ some.
      let x = some-counted (λ i. eqb c (here i)) n (omega (arith, some)) in
      let below : word counters c < p = subst (λ (k : ℕ). word counters k < p) (sym (eqb-true c (here x.0) x.2)) (((add-accepted counters ops).0 taken).2 x.0 x.1) in
      let long : c < length counters = omega (arith, l, enough) in
      each_at here counters c long below n
      ∙ ap (λ (k : ℕ). (word counters c + k) % p) (falls-same c)
      ∙ sym (each_at there counters c long below m))))
      ∙ sym (left (added_ops counters other) counters also)
    where
      falls-same : (c : ℕ) → sum_below (lookup_count ops) (λ i. pick (eqb c (lookup_counter ops i)) 1 0) ≡ sum_below (lookup_count other) (λ i. pick (eqb c (lookup_counter other i)) 1 0)
      falls-same c =
          sum-tests (λ i. eqb c (lookup_counter ops i)) (lookup_count ops)
          ∙ same-falls c
          ∙ sym (sum-tests (λ i. eqb c (lookup_counter other i)) (lookup_count other))
