-- Lookups that are counted: what the checks of a list say, and that counting into the counters and filling the table after it
-- is counting into the table.
use mathlib.Core.Path.{◌≡◌, refl, sym, ap, subst, ◌∙◌}
use mathlib.Core.Bool.{Bool, true, false}
use mathlib.Core.List.{List}
use mathlib.Core.Option.{none, some, or_else}
use Prim.Native.Nat.{ℕ, zero, suc, ◌+◌, ◌-◌, ◌*◌, ◌/◌, ◌%◌, ◌≤◌, ◌<◌}
use native.Mathlib.Nat.{add-zero, add_assoc, mod-add-mod, mod-eq_of_lt}
use native.Mathlib.Numerals.{add-one}
use native.Mathlib.Omega.{arith}
use borrow.Author.Tests.{leb-false, le-leb, lt-leb, eq-eqb, ne_eqb, eqb-true}
use lib.Dec.{leb, eqb}
use lib.ListN.{length}
use lib.Seq.{ext_get_or}
use Rattle.lists.specs.Tab.{pick, word}
use Rattle.lists.specs.First.{when, first, first_at, count_below}
use Rattle.lists.proofs.Then.{by_le}
use Rattle.lists.proofs.Kept.{by-eq}
use Rattle.lists.proofs.First.{first-clear, first-none}
use Rattle.field.specs.Field.{p}
use Rattle.bitwise.specs.Columns.{NUM-ROWS, NUM-COUNTERS, TABLE-WORDS}
use Rattle.bitwise.specs.Counters.{charge, large_charged}
use Rattle.bitwise.specs.Table.{filled}
use Rattle.bitwise.specs.Lookups.{Lookup, kind_of, x_of, y_of, z_of, past_at, not_byte_at, charge_each, lookup_counter, named_in, mu_at}
use Rattle.bitwise.proofs.Numbers.{mu-column-at}
use Rattle.bitwise.proofs.Counters.{counter-lt, charge-length, charge-same, charge-other, charge-below}
use Rattle.bitwise.proofs.Large.{large-none, large-clear, large-first, count-some, some-counted}
use Rattle.bitwise.proofs.Table.{filled-count, filled-fixed, filled-past, filled-length}

-- ---- one of two tests, the first before the second
either_first : (b c : Bool) (m n : ℕ) → b ≡ true → or_else (when b m) (when c n) ≡ some m
unfolding or_else
either_first b c m n e = rw e

either_second : (b c : Bool) (m n : ℕ) → b ≡ false → c ≡ true → or_else (when b m) (when c n) ≡ some n
unfolding or_else
either_second b c m n e f = rw (e, f)

either-none : (b c : Bool) (m n : ℕ) → b ≡ false → c ≡ false → or_else (when b m) (when c n) ≡ none
unfolding or_else
either-none b c m n e f = rw (e, f)

some-none : (m : ℕ) → some m ≡ none → ⊥
some-none m e = let z : ◌≡◌ {A = ℕ} 0 1 = cc in omega arith

either-clear : (b c : Bool) (m n : ℕ) → or_else (when b m) (when c n) ≡ none → (b ≡ false) × (c ≡ false)
unfolding or_else
either-clear true c m n e = absurd (some-none m e)
either-clear false true m n e = absurd (some-none n e)
either-clear false false m n e = (refl, refl)

-- ---- the words of lookup i
module _ (ops : List ℕ) (i : ℕ) where
  pub past-kind : 10 ≤ kind_of ops i → past_at ops i ≡ some 10
  unfolding past_at
  past-kind h = either_first (leb 10 (kind_of ops i)) (leb 16 (z_of ops i)) 10 16 (le-leb 10 (kind_of ops i) h)

  pub past-z : kind_of ops i < 10 → 16 ≤ z_of ops i → past_at ops i ≡ some 16
  unfolding past_at
  past-z h l = either_second (leb 10 (kind_of ops i)) (leb 16 (z_of ops i)) 10 16 (lt-leb 10 (kind_of ops i) h) (le-leb 16 (z_of ops i) l)

  pub past-none : kind_of ops i < 10 → z_of ops i < 16 → past_at ops i ≡ none
  unfolding past_at
  past-none h l = either-none (leb 10 (kind_of ops i)) (leb 16 (z_of ops i)) 10 16 (lt-leb 10 (kind_of ops i) h) (lt-leb 16 (z_of ops i) l)

  pub past-clear : past_at ops i ≡ none → (kind_of ops i < 10) × (z_of ops i < 16)
  unfolding past_at
  past-clear e =
      let c = either-clear (leb 10 (kind_of ops i)) (leb 16 (z_of ops i)) 10 16 e in
      (leb-false 10 (kind_of ops i) c.0, leb-false 16 (z_of ops i) c.1)

  pub byte-x : 256 ≤ x_of ops i → not_byte_at ops i ≡ some (4 * i + 1)
  unfolding not_byte_at
  byte-x h = either_first (leb 256 (x_of ops i)) (leb 256 (y_of ops i)) (4 * i + 1) (4 * i + 2) (le-leb 256 (x_of ops i) h)

  pub byte-y : x_of ops i < 256 → 256 ≤ y_of ops i → not_byte_at ops i ≡ some (4 * i + 2)
  unfolding not_byte_at
  byte-y h l = either_second (leb 256 (x_of ops i)) (leb 256 (y_of ops i)) (4 * i + 1) (4 * i + 2) (lt-leb 256 (x_of ops i) h) (le-leb 256 (y_of ops i) l)

  pub byte-none : x_of ops i < 256 → y_of ops i < 256 → not_byte_at ops i ≡ none
  unfolding not_byte_at
  byte-none h l = either-none (leb 256 (x_of ops i)) (leb 256 (y_of ops i)) (4 * i + 1) (4 * i + 2) (lt-leb 256 (x_of ops i) h) (lt-leb 256 (y_of ops i) l)

  pub byte-clear : not_byte_at ops i ≡ none → (x_of ops i < 256) × (y_of ops i < 256)
  unfolding not_byte_at
  byte-clear e =
      let c = either-clear (leb 256 (x_of ops i)) (leb 256 (y_of ops i)) (4 * i + 1) (4 * i + 2) e in
      (leb-false 256 (x_of ops i) c.0, leb-false 256 (y_of ops i) c.1)

-- ---- the lookups of a list
pub lookups-are : (ops : List ℕ) (n : ℕ) → first (past_at ops) n ≡ none → first (not_byte_at ops) n ≡ none → (i : ℕ) → i < n → Lookup ops i
lookups-are ops n e f i l =
    let a = past-clear ops i (first-clear (past_at ops) n i e l) in
    let b = byte-clear ops i (first-clear (not_byte_at ops) n i f l) in
    record { kind-below = a.0; x_below = b.0; y-below = b.1; z-below = a.1 }

pub none-not-byte : (ops : List ℕ) (n : ℕ) → ((i : ℕ) → i < n → Lookup ops i) → first (not_byte_at ops) n ≡ none
none-not-byte ops n h = first-none (not_byte_at ops) n (λ i l. byte-none ops i (h i l).x_below (h i l).y-below)

pub lookup-lt : (ops : List ℕ) (i : ℕ) → Lookup ops i → lookup_counter ops i < NUM-COUNTERS
lookup-lt ops i l = counter-lt (kind_of ops i) (x_of ops i) (y_of ops i) (z_of ops i) l.kind-below l.x_below l.y-below l.z-below

-- ---- the counters that a list charges
module _ (ops : List ℕ) where
  pub named_none : (c : ℕ) → named_in ops 0 c ≡ 0
  unfolding named_in count_below
  named_none c = refl

  pub named_more : (i c : ℕ) → named_in ops i c + pick (eqb c (lookup_counter ops i)) 1 0 ≡ named_in ops (i + 1) c
  unfolding named_in count_below
  named_more i c = one (eqb c (lookup_counter ops i)) (named_in ops i c) ∙ ap (λ (n : ℕ). named_in ops n c) (sym (add-one i))
    where
      one : (b : Bool) (n : ℕ) → n + pick b 1 0 ≡ pick b (n + 1) n
      one true n = refl
      one false n = add-zero n

  -- the search finds nothing exactly where the word of each lookup's counter is below p
  pub named-clear : (words : ℕ → ℕ) (n m : ℕ) → ((i : ℕ) → i < n → lookup_counter ops i < m) → first_at (large_charged (named_in ops n) words) m ≡ none
      → (i : ℕ) → i < n → words (lookup_counter ops i) < p
  unfolding named_in
  named-clear words n m b e i l =
      large-clear (named_in ops n) words m e (lookup_counter ops i) (b i l)
      (count-some (λ j. eqb (lookup_counter ops i) (lookup_counter ops j)) n i l (eq-eqb (lookup_counter ops i) (lookup_counter ops i) refl))

  named-lower : (words : ℕ → ℕ) (n k : ℕ) → ((i : ℕ) → i < n → lookup_counter ops i < k → words (lookup_counter ops i) < p) → (c : ℕ) → c < k → 0 < named_in ops n c → words c < p
  unfolding named_in
  named-lower words n k h c l pos =
      let x = some-counted (λ j. eqb c (lookup_counter ops j)) n pos in
      let q : lookup_counter ops x.0 ≡ c = sym (eqb-true c (lookup_counter ops x.0) x.2) in
      subst (λ (j : ℕ). words j < p) q (h x.0 x.1 (subst (λ (j : ℕ). j < k) (sym q) l))

  pub named-below : (words : ℕ → ℕ) (n m : ℕ) → ((i : ℕ) → i < n → words (lookup_counter ops i) < p) → first_at (large_charged (named_in ops n) words) m ≡ none
  named-below words n m h = large-none (named_in ops n) words m (named-lower words n m (λ i l _. h i l))

  pub named-first : (words : ℕ → ℕ) (n m i : ℕ) → i < n → lookup_counter ops i < m → p ≤ words (lookup_counter ops i)
      → ((j : ℕ) → j < n → lookup_counter ops j < lookup_counter ops i → words (lookup_counter ops j) < p) → first_at (large_charged (named_in ops n) words) m ≡ some (lookup_counter ops i)
  unfolding named_in
  named-first words n m i l b big lower =
      large-first (named_in ops n) words m (lookup_counter ops i) b
      (count-some (λ j. eqb (lookup_counter ops i) (lookup_counter ops j)) n i l (eq-eqb (lookup_counter ops i) (lookup_counter ops i) refl))
      big (named-lower words n (lookup_counter ops i) lower)

-- ---- one more on each of several words
module _ (at : ℕ → ℕ) where
  pub each_more : (i : ℕ) (words : List ℕ) → charge (charge_each at i words) (at i) 1 ≡ charge_each at (i + 1) words
  unfolding charge_each
  each_more i words = ap (λ (n : ℕ). charge_each at n words) (sym (add-one i))

  pub each-length : (n : ℕ) (words : List ℕ) → length (charge_each at n words) ≡ length words
  unfolding charge_each
  each-length zero words = refl
  each-length (suc i) words = charge-length (charge_each at i words) (at i) 1 ∙ each-length i words

  -- a word below p stays so
  pub each_below : (n : ℕ) (words : List ℕ) (k : ℕ) → k < length words → word words k < p → word (charge_each at n words) k < p
  unfolding charge_each
  each_below zero words k b h = h
  each_below (suc i) words k b h = charge-below (charge_each at i words) (at i) 1 k (omega (arith, each-length i words, b)) (each_below i words k b h)

  -- a word below p is afterwards what it was and as often one more as it was named, mod p
  pub each_counts : (n : ℕ) (words : List ℕ) (k : ℕ) → k < length words → word words k < p
      → word (charge_each at n words) k ≡ (word words k + count_below (λ i. eqb k (at i)) n) % p
  unfolding charge_each count_below
  each_counts zero words k b h = sym (mod-eq_of_lt h) ∙ ap (λ (m : ℕ). m % p) (sym (add-zero (word words k)))
  each_counts (suc i) words k b h =
      let before = each_counts i words k b h in
      let c = count_below (λ j. eqb k (at j)) i in
      by-eq k (at i)
      (λ e. let room : at i < length (charge_each at i words) = omega (arith, e, b, each-length i words) in
      ap (word (charge (charge_each at i words) (at i) 1)) e ∙ charge-same (charge_each at i words) (at i) 1 room
      ∙ ap (λ (m : ℕ). (m + 1) % p) (ap (word (charge_each at i words)) (sym e) ∙ before)
      ∙ mod-add-mod (word words k + c) p 1
      ∙ ap (λ (m : ℕ). m % p) (add_assoc (word words k) c 1)
      ∙ ap (λ (t : Bool). (word words k + pick t (c + 1) c) % p) (sym (eq-eqb k (at i) e)))
      (λ e. charge-other (charge_each at i words) (at i) 1 k e ∙ before
      ∙ ap (λ (t : Bool). (word words k + pick t (c + 1) c) % p) (sym (ne_eqb k (at i) e)))

-- ---- where the counters stand in the table
pub mu-is : (i : ℕ) → mu_at i ≡ i / 10 * 21 + (11 + i % 10)
unfolding mu_at
mu-is i = ap (λ (c : ℕ). i / 10 * 21 + c) (mu-column-at (i % 10) (omega arith))

pub mu-lt : (i : ℕ) → i < NUM-COUNTERS → mu_at i < TABLE-WORDS
mu-lt i h = omega (arith, mu-is i, h)

mu-apart : (i j : ℕ) → mu_at i ≡ mu_at j → i ≡ j
mu-apart i j e = let a = mu-is i in let b = mu-is j in let q : i / 10 * 21 + (11 + i % 10) ≡ j / 10 * 21 + (11 + j % 10) = sym a ∙ e ∙ b in
    let d : i / 10 ≡ j / 10 = omega (arith, q) in
    omega (arith, q, d)

-- a word of the table is a fixed one, or stands for a counter
pub by-column : {P : Type 0} (k : ℕ) → k < TABLE-WORDS → ((r c : ℕ) → r < NUM-ROWS → c < 11 → k ≡ r * 21 + c → P) → ((j : ℕ) → j < NUM-COUNTERS → k ≡ mu_at j → P) → P
by-column k h f g =
    by_le 11 (k % 21)
    (λ l. let j : ℕ = k / 21 * 10 + (k % 21 - 11) in
    let d : (k / 21 * 10 + (k % 21 - 11)) / 10 ≡ k / 21 = omega (arith, l) in
    let m : (k / 21 * 10 + (k % 21 - 11)) % 10 ≡ k % 21 - 11 = omega (arith, l) in
    let e = mu-is (k / 21 * 10 + (k % 21 - 11)) in
    g (k / 21 * 10 + (k % 21 - 11)) (omega (arith, h, l)) (omega (arith, e, d, m, l)))
    (λ l. f (k / 21) (k % 21) (omega (arith, h)) l (omega arith))

-- ---- counting, then filling
module _ (table : List ℕ) (whole : TABLE-WORDS ≤ length table) where
  -- a counter stands where `mu_at` says
  pub filled_at : (counters : List ℕ) (i : ℕ) → i < NUM-COUNTERS → word (filled counters table) (mu_at i) ≡ word counters i
  filled_at counters i h =
      let e : i / 10 * 10 + i % 10 ≡ i = omega arith in
      ap (word (filled counters table)) (mu-is i)
      ∙ filled-count counters table (i / 10) (i % 10) (omega (arith, h)) (omega arith)
      ∙ ap (word counters) e

  -- n more on a counter, and then filled, is n more on its word of the filled table
  pub filled-charge : (counters : List ℕ) (i n : ℕ) → NUM-COUNTERS ≤ length counters → i < NUM-COUNTERS
      → filled (charge counters i n) table ≡ charge (filled counters table) (mu_at i) n
  filled-charge counters i n long h =
      let size = filled-length counters table whole in
      let room : mu_at i < length (filled counters table) = omega (arith, size, whole, mu-lt i h) in
      let other : (k : ℕ) → (k ≡ mu_at i → ⊥) → word (charge (filled counters table) (mu_at i) n) k ≡ word (filled counters table) k = charge-other (filled counters table) (mu_at i) n in
      ext_get_or 0 (filled (charge counters i n) table) (charge (filled counters table) (mu_at i) n)
      (filled-length (charge counters i n) table whole ∙ sym size ∙ sym (charge-length (filled counters table) (mu_at i) n))
      (λ k b. by_le TABLE-WORDS k
      (λ l. filled-past (charge counters i n) table k l ∙ sym (filled-past counters table k l) ∙ sym (other k (λ e. omega (arith, e, l, mu-lt i h))))
      (λ l. by-column k l
      (λ r c hr hc e. let apart : r * 21 + c ≡ mu_at i → ⊥ = λ q. omega (arith, q, mu-is i, hc) in
      ap (word (filled (charge counters i n) table)) e ∙ filled-fixed (charge counters i n) table r c hr hc ∙ sym (filled-fixed counters table r c hr hc)
      ∙ sym (other (r * 21 + c) apart) ∙ ap (word (charge (filled counters table) (mu_at i) n)) (sym e))
      (λ j hj e. ap (word (filled (charge counters i n) table)) e ∙ filled_at (charge counters i n) j hj
      ∙ by-eq j i
      (λ q. ap (word (charge counters i n)) q ∙ charge-same counters i n (omega (arith, long, h))
      ∙ ap (λ (m : ℕ). (m + n) % p) (sym (filled_at counters i h))
      ∙ sym (charge-same (filled counters table) (mu_at i) n room) ∙ ap (λ (m : ℕ). word (charge (filled counters table) (mu_at i) n) (mu_at m)) (sym q))
      (λ q. charge-other counters i n j q ∙ sym (filled_at counters j hj) ∙ sym (other (mu_at j) (λ m. q (mu-apart j i m))))
      ∙ ap (word (charge (filled counters table) (mu_at i) n)) (sym e))))

  pub filled-each : (at : ℕ → ℕ) (n : ℕ) (counters : List ℕ) → NUM-COUNTERS ≤ length counters → ((i : ℕ) → i < n → at i < NUM-COUNTERS)
      → filled (charge_each at n counters) table ≡ charge_each (λ i. mu_at (at i)) n (filled counters table)
  unfolding charge_each
  filled-each at zero counters long h = refl
  filled-each at (suc i) counters long h =
      filled-charge (charge_each at i counters) (at i) 1 (omega (arith, each-length at i counters, long)) (h i (omega arith))
      ∙ ap (λ (l : List ℕ). charge l (mu_at (at i)) 1) (filled-each at i counters long (λ j l. h j (omega arith)))
