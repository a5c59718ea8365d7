-- "The order of the counts changes nothing but which of the tied files is shown.": of two lists that have every count equally often the refusal
-- is the same, all sums and the files at each height are the same, and the fullest of the one is as full as that of the other, and so the
-- emptiest.
use mathlib.Core.Path.{◌≡◌, refl, sym, ap, ap₂, subst, ◌∙◌}
use mathlib.Core.Logic.{◌↔◌}
use mathlib.Core.Bool.{Bool, true, false}
use mathlib.Core.List.{List, [], ◌∷◌, ◌++◌}
use mathlib.Core.Option.{Option}
use Prim.Native.Nat.{ℕ, suc, ◌+◌, ◌-◌, ◌*◌, ◌≤◌, ◌<◌}
use native.Mathlib.Numerals.{one-add}
use native.Mathlib.Omega.{arith}
use borrow.Author.Tests.{eq-eqb, eqb-true}
use lib.Dec.{eqb, ltb}
use lib.ListN.{length, take, drop}
use Rattle.lists.specs.Tab.{pick, word}
use Rattle.lists.specs.First.{any_below, count_below}
use Rattle.lists.specs.Sum.{sum_below}
use Rattle.lists.proofs.Count.{sum-tests, count-find, count-hit}
use Rattle.lists.proofs.Failure.{separates-any}
use Rattle.lists.proofs.Laws.{tab-same}
use Rattle.lists.proofs.OneToOne.{equally-matched, matched-equally, matched-by}
use Rattle.lists.proofs.Sum.{sum-add, sum_same, sum-const}
use Rattle.lists.proofs.Then.{by_le, T_true}
use Rattle.lists.proofs.Tests.{true-not-false, T_of}
use Rattle.sort.specs.Sorted.{insert_by, sorted_by, insert, sorted, copies}
use Rattle.sort.proofs.Laws.{by-test}
use Rattle.sort.proofs.Words.{sorted-ascends, sorted-copies, sorted-unique}
use Rattle.answer.specs.Limits.{MAX-OPS}
use Rattle.answer.specs.Refusal.{not_rounds, not_floor}
use Rattle.keccak_rnd.specs.Row.{round_height}
use Rattle.month.specs.Month.{HEIGHTS, height_of, used_at, total_at, fuller, operations_of, used_of, padding_of, fullest, emptiest, files_at, shown, month_words, month_refusal, Best, Permuted, SameCounts}
use Rattle.month.proofs.Fullness.{beaten, equally-full, shown-best, shown-one, shown-none}
use Rattle.month.proofs.Refusals.{later-checks, any_past, month-checks}
use Rattle.month.proofs.Unbeaten.{itself}

-- ---- a sum over the counts of a list, whatever is taken of each
abbrev sum_of : (ℕ → ℕ) → List ℕ → ℕ
sum_of f xs = sum_below (length xs) (λ i. f (word xs i))

sum-front : (f : ℕ → ℕ) (x : ℕ) (xs : List ℕ) → sum_of f (x ∷ xs) ≡ f x + sum_of f xs
unfolding sum_below
sum-front f x xs =
    let e : suc (length xs) ≡ 1 + length xs = omega arith in
    ap (λ (n : ℕ). sum_below n (λ i. f (word (x ∷ xs) i))) e
    ∙ sum-add 1 (length xs) (λ i. f (word (x ∷ xs) i))
    ∙ rest
  where
    tail : sum_below (length xs) (λ k. f (word (x ∷ xs) (1 + k))) ≡ sum_of f xs
    tail = sum_same (length xs) _ _ (λ k l. ap (λ (n : ℕ). f (word (x ∷ xs) n)) (one-add k))

    rest : 0 + f x + sum_below (length xs) (λ k. f (word (x ∷ xs) (1 + k))) ≡ f x + sum_of f xs
    rest = omega (arith, tail)

sum-insert : (f : ℕ → ℕ) (x : ℕ) (ys : List ℕ) → sum_of f (insert x ys) ≡ f x + sum_of f ys
unfolding insert_by
sum-insert f x [] = sum-front f x []
sum-insert f x (y ∷ ys) = go (ltb y x) (sum-insert f x ys)
  where
    go : (b : Bool) → sum_of f (insert x ys) ≡ f x + sum_of f ys → sum_of f (pick b (y ∷ insert x ys) (x ∷ y ∷ ys)) ≡ f x + sum_of f (y ∷ ys)
    go true e = omega (arith, e, sum-front f y (insert x ys), sum-front f y ys)
    go false e = sum-front f x (y ∷ ys)

sum-sorted : (f : ℕ → ℕ) (xs : List ℕ) → sum_of f (sorted xs) ≡ sum_of f xs
unfolding sorted_by
sum-sorted f [] = refl
sum-sorted f (x ∷ xs) = omega (arith, sum-insert f x (sorted xs), sum-sorted f xs, sum-front f x xs)

-- ---- a permutation, and equally many of each
copies-sum : (x : ℕ) (xs : List ℕ) → copies x xs ≡ sum_of (λ n. pick (eqb x n) 1 0) xs
unfolding copies sum_below
copies-sum x [] = refl
copies-sum x (y ∷ ys) = ap (λ (n : ℕ). pick (eqb x y) 1 0 + n) (copies-sum x ys) ∙ sym (sum-front (λ n. pick (eqb x n) 1 0) y ys)

copies-count : (x : ℕ) (xs : List ℕ) → copies x xs ≡ count_below (λ i. eqb x (word xs i)) (length xs)
copies-count x xs = copies-sum x xs ∙ sum-tests (λ i. eqb x (word xs i)) (length xs)

module _ (xs ys : List ℕ) where
  abbrev every : ℕ → Bool
  every k = true

  permuted-same : Permuted xs ys → SameCounts xs ys
  permuted-same h x =
      copies-count x xs
      ∙ matched-equally eqb (length xs) every (word xs) (length ys) every (word ys)
      (matched-by (λ k c. c.0) (λ k l. (l, refl)) (λ j c. c.0) (λ j l. (l, refl)) (λ k j l e. e) h) x
      ∙ sym (copies-count x ys)

  same-permuted : SameCounts xs ys → Permuted xs ys
  same-permuted same =
      matched-by (λ k l. (l, refl)) (λ k c. c.0) (λ j l. (l, refl)) (λ j c. c.0) (λ k j c e. e)
      (equally-matched eqb (λ a b t. eqb-true a b (T_true _ t)) (λ a. T_of _ (eq-eqb a a refl)) (length xs) every (word xs) (length ys) every (word ys)
      (λ x. sym (copies-count x xs) ∙ same x ∙ copies-count x ys))

  pub permuted-exactly : Permuted xs ys ↔ SameCounts xs ys
  permuted-exactly = (permuted-same, same-permuted)

module _ (xs ys : List ℕ) (same : SameCounts xs ys) where
  sum-order : (f : ℕ → ℕ) → sum_of f xs ≡ sum_of f ys
  sum-order f =
      sym (sum-sorted f xs)
      ∙ ap (sum_of f) (sorted-unique ys (sorted xs) (sorted-ascends xs) (λ x. sorted-copies x xs ∙ same x))
      ∙ sum-sorted f ys

  count-order : (t : ℕ → Bool) → count_below (λ i. t (word xs i)) (length xs) ≡ count_below (λ i. t (word ys i)) (length ys)
  count-order t =
      sym (sum-tests (λ i. t (word xs i)) (length xs)) ∙ sum-order (λ n. pick (t n) 1 0) ∙ sum-tests (λ i. t (word ys i)) (length ys)

  length-order : length xs ≡ length ys
  length-order = omega (arith, sum-order (λ n. 1), sum-const (length xs) 1, sum-const (length ys) 1)

  -- a count of the one is a count of the other
  find : (i : ℕ) → i < length xs → (j : ℕ) × (j < length ys) × (word ys j ≡ word xs i)
  find i l =
      let t : ℕ → Bool = λ n. eqb n (word xs i) in
      let one : 1 ≤ count_below (λ k. t (word xs k)) (length xs) = count-hit (λ k. t (word xs k)) (length xs) i l (eq-eqb (word xs i) (word xs i) refl) in
      let x = count-find (λ k. t (word ys k)) (length ys) (omega (arith, one, count-order t)) in
      (x.0, x.1, eqb-true (word ys x.0) (word xs i) x.2)

  any_some : (t : ℕ → Bool) → any_below (λ i. t (word xs i)) (length xs) ≡ true → any_below (λ i. t (word ys i)) (length ys) ≡ true
  any_some t e =
      let x = (separates-any (λ i. t (word xs i)) (length xs) (λ i l. itself (t (word xs i)))).fails e in
      let y = find x.0 x.1 in
      (separates-any (λ i. t (word ys i)) (length ys) (λ i l. itself (t (word ys i)))).is_true (y.0, y.1, ap t y.2 ∙ x.2)

  -- the best of the one against the best of the other, in their words
  against : (full : Bool) (nr floor k m : ℕ) → Best (beaten full nr floor xs) (length xs) k → Best (beaten full nr floor ys) (length ys) m
      → pick full (fuller nr floor (word xs k) (word ys m)) (fuller nr floor (word ys m) (word xs k)) ≡ false
  unfolding beaten
  against full nr floor k m b d =
      let x = find k b.there in
      subst (λ (n : ℕ). pick full (fuller nr floor n (word ys m)) (fuller nr floor (word ys m) n) ≡ false) x.2 (d.unbeaten x.0 x.1)

-- neither is fuller
neither : (nr floor : ℕ) (full : Bool) (n m : ℕ) → pick full (fuller nr floor n m) (fuller nr floor m n) ≡ false → pick full (fuller nr floor m n) (fuller nr floor n m) ≡ false
    → n * nr * round_height nr floor m ≡ m * nr * round_height nr floor n
neither nr floor true n m e q = equally-full nr floor n m e q
neither nr floor false n m e q = equally-full nr floor n m q e

-- ---- what is the same
module _ (nr floor : ℕ) (xs ys : List ℕ) (same : SameCounts xs ys) where
  back : SameCounts ys xs
  back x = sym (same x)

  pub refusal-order : (room : ℕ) → month_refusal nr floor xs room ≡ month_refusal nr floor ys room
  refusal-order room =
      month-checks nr floor xs room
      ∙ ap₂ (λ (n : ℕ) (b : Bool). not_rounds nr (not_floor floor (later-checks n b room))) (length-order xs ys same) any
      ∙ sym (month-checks nr floor ys room)
    where
      past : ℕ → Bool
      past n = ltb MAX-OPS n

      any : any_past xs ≡ any_past ys
      any =
          by-test (any_past xs) (λ e. e ∙ sym (any_some xs ys same past e))
          (λ e. by-test (any_past ys) (λ q. absurd (true-not-false (sym (any_some ys xs back past q) ∙ e))) (λ q. e ∙ sym q))

  -- of the shown files: there is one in both or in none, and they are equally full
  abbrev the : Bool → List ℕ → Option ℕ
  the full counts = pick full (fullest nr floor counts) (emptiest nr floor counts)

  equal-fullness : (full : Bool) → shown (used_at nr xs) (the full xs) * shown (total_at nr floor ys) (the full ys) ≡ shown (used_at nr ys) (the full ys) * shown (total_at nr floor xs) (the full xs)
  equal-fullness full = by_le 1 (length xs) some-file no-file
    where
      no-file : length xs < 1 → shown (used_at nr xs) (the full xs) * shown (total_at nr floor ys) (the full ys) ≡ shown (used_at nr ys) (the full ys) * shown (total_at nr floor xs) (the full xs)
      no-file l =
          let e = shown-none full nr floor xs (omega arith) in
          let f = shown-none full nr floor ys (omega (arith, l, length-order xs ys same)) in
          rw (e, f)

      some-file : 1 ≤ length xs → shown (used_at nr xs) (the full xs) * shown (total_at nr floor ys) (the full ys) ≡ shown (used_at nr ys) (the full ys) * shown (total_at nr floor xs) (the full xs)
      some-file l =
          let x = shown-one full nr floor xs l in
          let y = shown-one full nr floor ys (omega (arith, l, length-order xs ys same)) in
          let b = (shown-best full nr floor xs x.0).0 x.1 in
          let d = (shown-best full nr floor ys y.0).0 y.1 in
          rw (x.1, y.1) (neither nr floor full (word xs x.0) (word ys y.0) (against xs ys same full nr floor x.0 y.0 b d) (against ys xs back full nr floor y.0 x.0 d b))

  files-order : (h : ℕ) → files_at nr floor xs h ≡ files_at nr floor ys h
  unfolding files_at
  files-order h = count-order xs ys same (λ n. eqb (round_height nr floor n) h)

  last-order : shown (λ i. 1) (fullest nr floor xs) ≡ shown (λ i. 1) (fullest nr floor ys)
  last-order =
      by_le 1 (length xs)
      (λ l. rw ((shown-one true nr floor xs l).1, (shown-one true nr floor ys (omega (arith, l, length-order xs ys same))).1))
      (λ l. rw (shown-none true nr floor xs (omega arith), shown-none true nr floor ys (omega (arith, l, length-order xs ys same))))

  -- ---- the words: files, operations, used and padding rows, then the files at each height and the last
  pub sums-order : take 4 (month_words nr floor xs) ≡ take 4 (month_words nr floor ys)
  unfolding month_words operations_of used_of padding_of
  sums-order =
      let a = length-order xs ys same in
      let b = sum-order xs ys same (λ n. n) in
      let c = sum-order xs ys same (λ n. n * nr) in
      let d = sum-order xs ys same (λ n. round_height nr floor n - n * nr) in
      λ t. a t ∷ b t ∷ c t ∷ d t ∷ []

  pub heights-order : drop 8 (month_words nr floor xs) ≡ drop 8 (month_words nr floor ys)
  unfolding month_words
  heights-order =
      ap₂ (λ (a : List ℕ) (n : ℕ). a ++ (n ∷ [])) (tab-same HEIGHTS _ _ (λ e l. files-order (height_of e))) last-order

  -- the fullest, and the emptiest
  pub full-order : word (month_words nr floor xs) 4 * word (month_words nr floor ys) 5 ≡ word (month_words nr floor ys) 4 * word (month_words nr floor xs) 5
  unfolding month_words
  full-order = equal-fullness true

  pub empty-order : word (month_words nr floor xs) 6 * word (month_words nr floor ys) 7 ≡ word (month_words nr floor ys) 6 * word (month_words nr floor xs) 7
  unfolding month_words
  empty-order = equal-fullness false
