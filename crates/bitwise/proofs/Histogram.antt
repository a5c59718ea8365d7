-- "The histogram is a commutative monoid: increments and merge are order-independent": merging, and what is charged before
-- it and after it.
use mathlib.Core.Path.{◌≡◌, sym, ap, ◌∙◌}
use mathlib.Core.List.{List}
use Prim.Native.Nat.{ℕ, ◌+◌, ◌%◌, ◌≤◌, ◌<◌}
use native.Mathlib.Omega.{arith}
use lib.ListN.{length}
use lib.Seq.{ext_get_or}
use Rattle.lists.specs.Tab.{word}
use Rattle.lists.proofs.Then.{by_le}
use Rattle.lists.proofs.Kept.{by-eq}
use Rattle.lists.proofs.Reading.{Alike}
use Rattle.field.specs.Field.{p, fadd}
use Rattle.field.specs.Elements.{ElementRow}
use Rattle.field.proofs.Field.{mod-p}
use Rattle.field.proofs.Sums.{fadd-comm, fadd-assoc, fadd-swap}
use Rattle.answer.specs.Refusal.{accepted}
use Rattle.answer.proofs.Overwrite.{over-new, over-past, over-length, left}
use Rattle.bitwise.specs.Columns.{NUM-COUNTERS}
use Rattle.bitwise.specs.Counters.{counter_at, charge, bump_refusal, bump_n_after, merged, merge_refusal, merge_after}
use Rattle.bitwise.proofs.Counters.{counter-lt, charge-length, charge-same, charge-other, charge-row}
use Rattle.bitwise.proofs.Refusals.{bump-accepted, merge-accepted}

-- ---- the words of a merged histogram
module _ (a b : List ℕ) where
  pub merged-at : (k : ℕ) → k < NUM-COUNTERS → word (merged a b) k ≡ (word a k + word b k) % p
  unfolding merged
  merged-at k h = over-new NUM-COUNTERS (λ i. fadd (word a i) (word b i)) a k h

  pub merged-past : (k : ℕ) → NUM-COUNTERS ≤ k → word (merged a b) k ≡ word a k
  unfolding merged
  merged-past k h = over-past NUM-COUNTERS (λ i. fadd (word a i) (word b i)) a k h

  pub merged-length : NUM-COUNTERS ≤ length a → length (merged a b) ≡ length a
  unfolding merged
  merged-length h = over-length NUM-COUNTERS (λ i. fadd (word a i) (word b i)) a h

  pub merged-elements : NUM-COUNTERS ≤ length a → ElementRow NUM-COUNTERS (merged a b)
  merged-elements h =
      record {
        long = omega (arith, merged-length h, h);
        below = λ k l. let e = merged-at k l in omega (arith, e, mod-p (word a k + word b k));
      }

-- two lists as long as each other that have the same counters, and the same words past them
same-words : (l m : List ℕ) → length l ≡ length m → ((k : ℕ) → k < NUM-COUNTERS → word l k ≡ word m k) → ((k : ℕ) → NUM-COUNTERS ≤ k → word l k ≡ word m k) → l ≡ m
same-words l m e h g = ext_get_or 0 l m e (λ k b. by_le NUM-COUNTERS k (g k) (h k))

-- ---- merging commutes, and is associative
module _ (a b : List ℕ) (passed : merge_refusal a b ≡ accepted) where
  pub merge-turned : merge_refusal b a ≡ accepted
  merge-turned = let e = (merge-accepted a b).0 passed in (merge-accepted b a).1 (e.1, e.0)

  pub merge-commutes : Alike NUM-COUNTERS (merge_after a b) (merge_after b a)
  merge-commutes k h =
      ap (λ (l : List ℕ). word l k) (left (merged a b) a passed)
      ∙ merged-at a b k h ∙ fadd-comm (word a k) (word b k) ∙ sym (merged-at b a k h)
      ∙ sym (ap (λ (l : List ℕ). word l k) (left (merged b a) b merge-turned))

module _ (a b c : List ℕ) (ab : merge_refusal a b ≡ accepted) (bc : merge_refusal b c ≡ accepted) where
  long-a : NUM-COUNTERS ≤ length a
  long-a = ((merge-accepted a b).0 ab).0.long

  long-b : NUM-COUNTERS ≤ length b
  long-b = ((merge-accepted a b).0 ab).1.long

  merged-again : merged (merged a b) c ≡ merged a (merged b c)
  merged-again =
      same-words (merged (merged a b) c) (merged a (merged b c))
      (merged-length (merged a b) c (omega (arith, merged-length a b long-a, long-a)) ∙ merged-length a b long-a ∙ sym (merged-length a (merged b c) long-a))
      (λ k h.
      merged-at (merged a b) c k h ∙ ap (λ (n : ℕ). fadd n (word c k)) (merged-at a b k h)
      ∙ fadd-assoc (word a k) (word b k) (word c k)
      ∙ ap (fadd (word a k)) (sym (merged-at b c k h)) ∙ sym (merged-at a (merged b c) k h))
      (λ k h. merged-past (merged a b) c k h ∙ merged-past a b k h ∙ sym (merged-past a (merged b c) k h))

  -- both ways are accepted
  pub merge-first : merge_refusal (merge_after a b) c ≡ accepted
  merge-first =
      ap (λ (l : List ℕ). merge_refusal l c) (left (merged a b) a ab)
      ∙ (merge-accepted (merged a b) c).1 (merged-elements a b long-a, ((merge-accepted b c).0 bc).1)

  pub merge-last : merge_refusal a (merge_after b c) ≡ accepted
  merge-last =
      ap (merge_refusal a) (left (merged b c) b bc)
      ∙ (merge-accepted a (merged b c)).1 (((merge-accepted a b).0 ab).0, merged-elements b c long-b)

  pub merge-associates : merge_after (merge_after a b) c ≡ merge_after a (merge_after b c)
  merge-associates =
      left (merged (merge_after a b) c) (merge_after a b) merge-first
      ∙ ap (λ (l : List ℕ). merged l c) (left (merged a b) a ab)
      ∙ merged-again
      ∙ ap (merged a) (sym (left (merged b c) b bc))
      ∙ sym (left (merged a (merge_after b c)) a merge-last)

-- ---- what is charged to one of two histograms that are then merged is charged to the merged one
module _ (a b : List ℕ) (long-a : NUM-COUNTERS ≤ length a) (long-b : NUM-COUNTERS ≤ length b) (at n : ℕ) (h : at < NUM-COUNTERS) where
  charged-same : word (charge (merged a b) at n) at ≡ fadd (fadd (word a at) (word b at)) n
  charged-same = charge-same (merged a b) at n (omega (arith, merged-length a b long-a, long-a, h)) ∙ ap (λ (m : ℕ). fadd m n) (merged-at a b at h)

  pub charge-first : merged (charge a at n) b ≡ charge (merged a b) at n
  charge-first =
      same-words (merged (charge a at n) b) (charge (merged a b) at n)
      (merged-length (charge a at n) b (omega (arith, charge-length a at n, long-a)) ∙ charge-length a at n
      ∙ sym (merged-length a b long-a) ∙ sym (charge-length (merged a b) at n))
      (λ k l. by-eq k at
      (λ e. ap (word (merged (charge a at n) b)) e ∙ merged-at (charge a at n) b at h
      ∙ ap (λ (m : ℕ). fadd m (word b at)) (charge-same a at n (omega (arith, long-a, h)))
      ∙ fadd-swap (word a at) n (word b at)
      ∙ sym charged-same ∙ ap (word (charge (merged a b) at n)) (sym e))
      (λ e. merged-at (charge a at n) b k l ∙ ap (λ (m : ℕ). fadd m (word b k)) (charge-other a at n k e)
      ∙ sym (merged-at a b k l) ∙ sym (charge-other (merged a b) at n k e)))
      (λ k l. let e : k ≡ at → ⊥ = λ q. omega (arith, q, l, h) in
      merged-past (charge a at n) b k l ∙ charge-other a at n k e ∙ sym (merged-past a b k l) ∙ sym (charge-other (merged a b) at n k e))

  pub charge-last : merged a (charge b at n) ≡ charge (merged a b) at n
  charge-last =
      same-words (merged a (charge b at n)) (charge (merged a b) at n)
      (merged-length a (charge b at n) long-a ∙ sym (merged-length a b long-a) ∙ sym (charge-length (merged a b) at n))
      (λ k l. by-eq k at
      (λ e. ap (word (merged a (charge b at n))) e ∙ merged-at a (charge b at n) at h
      ∙ ap (fadd (word a at)) (charge-same b at n (omega (arith, long-b, h)))
      ∙ sym (fadd-assoc (word a at) (word b at) n)
      ∙ sym charged-same ∙ ap (word (charge (merged a b) at n)) (sym e))
      (λ e. merged-at a (charge b at n) k l ∙ ap (fadd (word a k)) (charge-other b at n k e)
      ∙ sym (merged-at a b k l) ∙ sym (charge-other (merged a b) at n k e)))
      (λ k l. let e : k ≡ at → ⊥ = λ q. omega (arith, q, l, h) in
      merged-past a (charge b at n) k l ∙ sym (merged-past a b k l) ∙ sym (charge-other (merged a b) at n k e))

module _ (a b : List ℕ) (passed : merge_refusal a b ≡ accepted) (kind x y z n : ℕ) (hk : kind < 10) (hx : x < 256) (hy : y < 256) (hz : z < 16) where
  at_lt : counter_at kind x y z < NUM-COUNTERS
  at_lt = counter-lt kind x y z hk hx hy hz

  taken : (l : List ℕ) → ElementRow NUM-COUNTERS l → bump_refusal l kind x y z ≡ accepted
  taken l e =
      (bump-accepted l kind x y z).1
      (record { kind-below = hk; z-below = hz; long = e.long; element = e.below (counter_at kind x y z) at_lt })

  first-row : ElementRow NUM-COUNTERS a
  first-row = ((merge-accepted a b).0 passed).0

  other_row : ElementRow NUM-COUNTERS b
  other_row = ((merge-accepted a b).0 passed).1

  -- bumped after the merge
  after_is : bump_n_after (merge_after a b) kind x y z n ≡ charge (merged a b) (counter_at kind x y z) n
  after_is =
      ap (λ (l : List ℕ). bump_n_after l kind x y z n) (left (merged a b) a passed)
      ∙ left (charge (merged a b) (counter_at kind x y z) n) (merged a b) (taken (merged a b) (merged-elements a b first-row.long))

  pub bump-first : merge_after (bump_n_after a kind x y z n) b ≡ bump_n_after (merge_after a b) kind x y z n
  bump-first =
      ap (λ (l : List ℕ). merge_after l b) (left (charge a (counter_at kind x y z) n) a (taken a first-row))
      ∙ left (merged (charge a (counter_at kind x y z) n) b) (charge a (counter_at kind x y z) n)
      ((merge-accepted (charge a (counter_at kind x y z) n) b).1 (charge-row a (counter_at kind x y z) n NUM-COUNTERS first-row, other_row))
      ∙ charge-first a b first-row.long other_row.long (counter_at kind x y z) n at_lt
      ∙ sym after_is

  pub bump-last : merge_after a (bump_n_after b kind x y z n) ≡ bump_n_after (merge_after a b) kind x y z n
  bump-last =
      ap (merge_after a) (left (charge b (counter_at kind x y z) n) b (taken b other_row))
      ∙ left (merged a (charge b (counter_at kind x y z) n)) a
      ((merge-accepted a (charge b (counter_at kind x y z) n)).1 (first-row, charge-row b (counter_at kind x y z) n NUM-COUNTERS other_row))
      ∙ charge-last a b first-row.long other_row.long (counter_at kind x y z) n at_lt
      ∙ sym after_is
