-- What a list of numbers in the order of their keys has, where it lists the numbers below N that pass a test, each once.
--     Listed        it lists them
--     Arranged      they ascend by their keys, then by the numbers
--     arranged-by   what ascends and lists them is arranged; arranged-sorted, the numbers chosen and sorted
use mathlib.Core.Path.{◌≡◌, refl, sym, ap, ap₂, subst, ◌∙◌}
use mathlib.Core.Bool.{Bool, true, false, ◌&&◌}
use mathlib.Core.List.{List, [], ◌∷◌, ◌++◌}
use mathlib.Core.Logic.{◌⊎◌, inl, inr}
use Prim.Native.Nat.{ℕ, zero, suc, ◌+◌, ◌≤◌, ◌<◌}
use native.Mathlib.Omega.{arith}
use borrow.Author.Tests.{eq-eqb, eqb-true, ltb-true, lt-ltb, le-ltb}
use lib.Dec.{eqb, ltb}
use lib.ListN.{length}
use Rattle.lists.specs.Tab.{pick, word}
use Rattle.lists.specs.Select.{cons_if, words_test}
use Rattle.lists.proofs.Tests.{true-not-false, and-true, true-and}
use Rattle.lists.proofs.Then.{by_le}
use Rattle.sort.specs.Sorted.{sorted_by, AscendsBy, AllBelow, copies}
use Rattle.sort_places.specs.Order.{words_below, by_key}
use Rattle.sort_places.proofs.Order.{test-same, same_test, below-irreflexive, below-transitive, key-cases, key-strict}
use Rattle.sort.proofs.Unique.{sorted-copies, sorted-ascends, strictly}
use Rattle.judge_within.specs.Chosen.{chosen}

-- ---- copies
copies_at : (xs : List ℕ) (k : ℕ) → k < length xs → 1 ≤ copies (word xs k) xs
unfolding copies
copies_at [] k l = absurd (omega arith)
copies_at (x ∷ xs) zero l = rw (eq-eqb x x refl) (omega arith)
copies_at (x ∷ xs) (suc k) l = omega (arith, copies_at xs k (omega arith))

-- where a number stands
unfoldable index_of : ℕ → List ℕ → ℕ
index_of p [] = 0
index_of p (x ∷ xs) = pick (eqb p x) 0 (suc (index_of p xs))

index_is : (p : ℕ) (xs : List ℕ) → 1 ≤ copies p xs → (index_of p xs < length xs) × (word xs (index_of p xs) ≡ p)
unfolding copies index_of
index_is p [] h = absurd (omega arith)
index_is p (x ∷ xs) h = go (eqb p x) refl h (index_is p xs)
  where
    go : (b : Bool) → eqb p x ≡ b → 1 ≤ pick b 1 0 + copies p xs → (1 ≤ copies p xs → (index_of p xs < length xs) × (word xs (index_of p xs) ≡ p)) →
        (pick b 0 (suc (index_of p xs)) < length (x ∷ xs)) × (word (x ∷ xs) (pick b 0 (suc (index_of p xs))) ≡ p)
    go true e l back = (omega arith, sym (eqb-true p x e))
    go false e l back = let r = back (omega arith) in (omega (arith, r.0), r.1)

-- ---- the numbers that are listed
unfoldable pub Listed : (ℕ → Bool) → ℕ → List ℕ → Type 0
Listed on N xs = (p : ℕ) → copies p xs ≡ pick (ltb p N && on p) 1 0

copies-append : (p : ℕ) (xs ys : List ℕ) → copies p (xs ++ ys) ≡ copies p xs + copies p ys
unfolding copies
copies-append p [] ys = omega arith
copies-append p (x ∷ xs) ys = omega (arith, copies-append p xs ys)

copies-if : (p n : ℕ) (b : Bool) → copies p (cons_if b n []) ≡ pick (eqb p n && b) 1 0
unfolding copies
copies-if p n true = go (eqb p n)
  where
    go : (c : Bool) → pick c 1 0 + 0 ≡ pick {A = ℕ} (c && true) 1 0
    go true = refl
    go false = refl
copies-if p n false = go (eqb p n)
  where
    go : (c : Bool) → 0 ≡ pick {A = ℕ} (c && false) 1 0
    go true = refl
    go false = refl

pub chosen-listed : (on : ℕ → Bool) (n : ℕ) → Listed on n (chosen on n)
unfolding Listed chosen copies
chosen-listed on zero p = rw (le-ltb p 0 (omega arith))
chosen-listed on (suc n) p = copies-append p (chosen on n) (cons_if (on n) n []) ∙ ap₂ ◌+◌ (chosen-listed on n p) (copies-if p n (on n)) ∙ go (eqb p n) refl
  where
    one : (b : Bool) → pick {A = ℕ} (false && b) 1 0 + pick (true && b) 1 0 ≡ pick (true && b) 1 0
    one true = refl
    one false = refl

    none : (a b c : Bool) → pick {A = ℕ} (a && b) 1 0 + pick (false && c) 1 0 ≡ pick (a && b) 1 0
    none a b c = omega arith

    bound : (p ≡ n → ⊥) → ltb p n ≡ ltb p (suc n)
    bound d = by_le n p (λ l. le-ltb p n l ∙ sym (le-ltb p (suc n) (omega (arith, d)))) (λ l. lt-ltb p n l ∙ sym (lt-ltb p (suc n) (omega arith)))

    go : (c : Bool) → eqb p n ≡ c → pick (ltb p n && on p) 1 0 + pick (c && on n) 1 0 ≡ pick {A = ℕ} (ltb p (suc n) && on p) 1 0
    go true e =
        let q = eqb-true p n e in
        let a : ltb p n ≡ false = le-ltb p n (omega arith) in
        let b : ltb p (suc n) ≡ true = lt-ltb p (suc n) (omega arith) in
        (λ i. pick {A = ℕ} (a i && on p) 1 0 + pick (true && on (sym q i)) 1 0) ∙ one (on p) ∙ (λ i. pick {A = ℕ} (sym b i && on p) 1 0)
    go false e =
        none (ltb p n) (on p) (on n)
        ∙ ap (λ (b : Bool). pick {A = ℕ} (b && on p) 1 0) (bound (λ q. true-not-false (sym (eq-eqb p n q) ∙ e)))

-- ---- numbers by their keys
module _ (key : ℕ → List ℕ) where
  -- two have one key
  abbrev pub same : ℕ → ℕ → Bool
  same p q = words_test (key p) (key q)

  pub same_key : (p q : ℕ) → same p q ≡ true → key p ≡ key q
  same_key p q e = same_test (key p) (key q) e

  pub key-same : (p q : ℕ) → key p ≡ key q → same p q ≡ true
  key-same p q e = test-same (key p) (key q) e

  not-below : (p q : ℕ) → key p ≡ key q → words_below (key p) (key q) ≡ true → ⊥
  not-below p q e h = true-not-false (sym h ∙ ap (λ (x : List ℕ). words_below x (key q)) e ∙ below-irreflexive (key q))

  -- of three in order, where the outer two have one key the middle one has it
  pub between : (p q r : ℕ) → by_key key p q ≡ true → by_key key q r ≡ true → key p ≡ key r → key p ≡ key q
  between p q r a b e = go (key-cases key p q a) (key-cases key q r b)
    where
      go : (words_below (key p) (key q) ≡ true) ⊎ ((key p ≡ key q) × (p < q)) → (words_below (key q) (key r) ≡ true) ⊎ ((key q ≡ key r) × (q < r)) → key p ≡ key q
      go (inl h) (inl k) = absurd (not-below p r e (below-transitive (key p) (key q) (key r) h k))
      go (inl h) (inr k) = e ∙ sym k.0
      go (inr h) k = h.0

  pub tied : (p q : ℕ) → by_key key p q ≡ true → key p ≡ key q → p < q
  tied p q a e = elim (key-cases key p q a) [
    | inl h ↦ absurd (not-below p q e h)
    | inr h ↦ h.1
  ]

-- ---- arranged
pub record Arranged (on : ℕ → Bool) (N : ℕ) (key : ℕ → List ℕ) (xs : List ℕ) : Type 0 where
  pub inside : (k : ℕ) → k < length xs → (word xs k < N) × (on (word xs k) ≡ true)
  pub index : ℕ → ℕ
  pub found : (p : ℕ) → p < N → on p ≡ true → (index p < length xs) × (word xs (index p) ≡ p)
  pub rises : (i j : ℕ) → i < j → j < length xs → by_key key (word xs i) (word xs j) ≡ true

pick-one : (b : Bool) → 1 ≤ pick {A = ℕ} b 1 0 → b ≡ true
pick-one true l = refl
pick-one false l = absurd (omega arith)

pick-most : (b : Bool) → pick {A = ℕ} b 1 0 ≤ 1
pick-most true = omega arith
pick-most false = omega arith

pub arranged-by : (on : ℕ → Bool) (N : ℕ) (key : ℕ → List ℕ) (xs : List ℕ) → AscendsBy (by_key key) xs → Listed on N xs → Arranged on N key xs
unfolding Listed
arranged-by on N key xs a h =
    record {
      inside = λ k l.
          let t = and-true _ _ (pick-one (ltb (word xs k) N && on (word xs k)) (subst (λ (n : ℕ). 1 ≤ n) (h (word xs k)) (copies_at xs k l))) in
          (ltb-true (word xs k) N t.0, t.1);
      index = λ p. index_of p xs;
      found = λ p l e.
          index_is p xs (subst (λ (n : ℕ). 1 ≤ n) (sym (h p ∙ ap (λ (b : Bool). pick {A = ℕ} b 1 0) (true-and _ _ (lt-ltb p N l) e))) (omega arith));
      rises = strictly (by_key key) (key-strict key) xs a (λ x. omega (arith, h x, pick-most (ltb x N && on x)));
    }

pub arranged-sorted : (on : ℕ → Bool) (N : ℕ) (key : ℕ → List ℕ) → Arranged on N key (sorted_by (by_key key) (chosen on N))
unfolding Listed
arranged-sorted on N key =
    arranged-by on N key (sorted_by (by_key key) (chosen on N)) (sorted-ascends (by_key key) (key-strict key) (chosen on N))
    (λ p. sorted-copies (by_key key) p (chosen on N) ∙ chosen-listed on N p)

-- they are below N
pub chosen-below : (on : ℕ → Bool) (N : ℕ) (xs : List ℕ) → xs ≡ chosen on N → AllBelow N xs
unfolding Listed AllBelow
chosen-below on N xs e k l =
    let h : copies (word xs k) xs ≡ pick (ltb (word xs k) N && on (word xs k)) 1 0 = ap (copies (word xs k)) e ∙ chosen-listed on N (word xs k) in
    let t = and-true _ _ (pick-one (ltb (word xs k) N && on (word xs k)) (subst (λ (n : ℕ). 1 ≤ n) h (copies_at xs k l))) in
    ltb-true (word xs k) N t.0
