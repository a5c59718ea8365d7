-- Both ways to say which elements have partners, and when all have.
--     passed-not-alone, alone-from   behind a common part: who is alone in what follows
--     agree-more, agree-skip         a common part that grows
--     used-is                        of the copies of an element those are given away before which fewer stand than have had their turn
--     alone-is, left_is              by counts and one by one is the same
--     all-partnered                  where both have equally many and none of the one is alone, none of the other is
--     alone-of-same, alone-in-same   runs that are equal below their size have the same first ones alone
--     none-alone, none-alone-matched none of either is alone: every element stands equally often in both; they can be matched one to one
use mathlib.Core.Path.{◌≡◌, refl, sym, ap, ◌∙◌}
use mathlib.Core.Bool.{Bool, true, false, not, ◌&&◌}
use mathlib.Core.Option.{Option, none, some}
use mathlib.Core.Logic.{◌↔◌}
use mathlib.Core.List.{List}
use Prim.Native.Nat.{ℕ, zero, suc, ◌+◌, ◌≤◌, ◌<◌}
use native.Mathlib.Nat.{le_refl}
use native.Mathlib.Omega.{arith}
use borrow.Author.Tests as N
use borrow.Author.Tests.{le-leb, lt-leb, ltb-true, ltb-false, leb-false, lt-ltb, le-ltb, eqb-true, eqb-false, eq-eqb, ne_eqb}
use lib.Dec.{leb, ltb, eqb}
use Rattle.lists.specs.Tab.{pick}
use Rattle.lists.specs.First.{first_at, count_below, is_some}
use Rattle.lists.specs.OneToOne.{OneToOne}
use Rattle.lists.specs.Select.{words_test}
use Rattle.lists.proofs.Then.{T_true}
use Rattle.lists.proofs.Tests.{true-not-false, T_of, and-true, true-and, false-and, and-false}
use Rattle.lists.proofs.First.{at_same, at_clear, at-nothing, at-found, count-start, count-more, count-skip}
use Rattle.lists.proofs.Count.{count_same, count-before}
use Rattle.lists.proofs.OneToOne.{Chosen, equally-matched, matched-equally}
use Rattle.lists.proofs.Select.{words-sound, words_same_lem}
use Rattle.partners.specs.Partners.{Run, holds_at, copies_to, copies_in, count_between, EquallyOften, alone, first_alone, is_free, partner_for, also_given, used, unpartnered, left}
use Rattle.partners.proofs.Counts.{count-stays, count-grows, count-up, count-capped, count-place, between_is, count-given, count-fills, and_same, leb-sums, leb-not, ltb_next}

-- ---- what is held
module _ (A : Run) where
  holds-own : (i : ℕ) → A.chosen i ≡ true → holds_at A (A.element i) i ≡ true
  unfolding holds_at
  holds-own i c = true-and _ _ c (T_true _ (words_same_lem (A.element i)))

  holds-is : (x : List ℕ) (k : ℕ) → holds_at A x k ≡ true → (A.chosen k ≡ true) × (x ≡ A.element k)
  unfolding holds_at
  holds-is x k e = let h = and-true _ _ e in (h.0, words-sound _ _ (T_of _ h.1))

  holds-none : (x : List ℕ) (k : ℕ) → A.chosen k ≡ false → holds_at A x k ≡ false
  unfolding holds_at
  holds-none x k e = ap (λ (b : Bool). b && words_test x (A.element k)) e

-- an element before a, where those before a have partners
partnered : (A B : Run) (a i : ℕ) → i < a → (A.chosen i ≡ true → copies_to A (A.element i) a ≤ copies_in B (A.element i)) → alone A B i ≡ false
unfolding alone
partnered A B a i l h =
    false-and _ _
    (λ (c : A.chosen i ≡ true).
    let g : copies_to A (A.element i) i < copies_in B (A.element i) = omega (arith, h c, count-before (holds_at A (A.element i)) a i l (holds-own A i c)) in
    lt-leb _ _ g)

-- ---- behind a common part
module _ (A B : Run) (a b : ℕ) (same : EquallyOften A B a b) where
  pub passed-not-alone : b ≤ B.size → (i : ℕ) → i < a → alone A B i ≡ false
  passed-not-alone m i l = partnered A B a i l (λ c. omega (arith, same (A.element i), count-up (holds_at B (A.element i)) b B.size m))

  pub alone-from : b ≤ B.size → (i : ℕ) → a ≤ i →
      alone A B i ≡ (A.chosen i && leb (count_between (holds_at B (A.element i)) b B.size) (count_between (holds_at A (A.element i)) a i))
  unfolding alone
  alone-from m i l =
      let x = A.element i in
      ap (λ (t : Bool). A.chosen i && t)
      (leb-sums _ _ _ _ _ _ (between_is (holds_at B x) b B.size m) (between_is (holds_at A x) a i l) (sym (same x)))

  pub agree-more : A.chosen a ≡ true → B.chosen b ≡ true → A.element a ≡ B.element b → EquallyOften A B (a + 1) (b + 1)
  unfolding holds_at
  agree-more ca cb e x = go (words_test x (A.element a)) refl
    where
      go : (t : Bool) → words_test x (A.element a) ≡ t → copies_to A x (a + 1) ≡ copies_to B x (b + 1)
      go true h =
          count-more (holds_at A x) a (true-and (A.chosen a) (words_test x (A.element a)) ca h)
          ∙ ap (λ (n : ℕ). n + 1) (same x)
          ∙ sym (count-more (holds_at B x) b (true-and (B.chosen b) (words_test x (B.element b)) cb (ap (words_test x) (sym e) ∙ h)))
      go false h =
          count-skip (holds_at A x) a (false-and (A.chosen a) (words_test x (A.element a)) (λ z. h))
          ∙ same x
          ∙ sym (count-skip (holds_at B x) b (false-and (B.chosen b) (words_test x (B.element b)) (λ z. ap (words_test x) (sym e) ∙ h)))

  pub agree-skip : B.chosen b ≡ false → EquallyOften A B a (b + 1)
  agree-skip e x = same x ∙ sym (count-skip (holds_at B x) b (holds-none B x b e))

-- ---- one by one
-- an equal element
holds_same : (A : Run) (x : List ℕ) (k : ℕ) → A.chosen k ≡ true → x ≡ A.element k → holds_at A x k ≡ true
holds_same A x k c e = ap (λ (y : List ℕ). holds_at A y k) e ∙ holds-own A k c

module _ (A B : Run) where
  -- whether k is given away to the first i of A, by counts
  given_to : ℕ → ℕ → Bool
  given_to i k = B.chosen k && ltb (copies_to B (B.element k) k) (copies_to A (B.element k) i)

  module _ (i : ℕ) (back : (k : ℕ) → k < B.size → used A B i k ≡ given_to i k) (x : List ℕ) where
    -- what is free for x
    free-is : (k : ℕ) → k < B.size → is_free B (used A B i) x k ≡ true → (holds_at B x k ≡ true) × (copies_to A x i ≤ copies_to B x k)
    unfolding is_free given_to
    free-is k l e =
        let f = and-true _ _ e in
        let o = holds-is B x k f.1 in
        let u : used A B i k ≡ false = N.not-true _ f.0 in
        let g : ltb (copies_to B (B.element k) k) (copies_to A (B.element k) i) ≡ false = and-false _ _ (sym (back k l) ∙ u) o.0 in
        (f.1, ltb-false _ _ (ap (λ (y : List ℕ). ltb (copies_to B y k) (copies_to A y i)) o.1 ∙ g))

    not_free : (k : ℕ) → k < B.size → is_free B (used A B i) x k ≡ false → holds_at B x k ≡ true → copies_to B x k < copies_to A x i
    unfolding is_free given_to
    not_free k l e h =
        let o = holds-is B x k h in
        let u : used A B i k ≡ true = go (used A B i k) (ap (λ (b : Bool). not (used A B i k) && b) (sym h) ∙ e) in
        let g = and-true (B.chosen k) _ (sym (back k l) ∙ u) in
        ltb-true _ _ (ap (λ (y : List ℕ). ltb (copies_to B y k) (copies_to A y i)) o.1 ∙ g.1)
      where
        go : (b : Bool) → (not b && true) ≡ false → b ≡ true
        go true q = refl
        go false q = sym q

    -- nothing is free for x before n: at most as many copies as have had their turn
    none_free : (n : ℕ) → n ≤ B.size → first_at (is_free B (used A B i) x) n ≡ none → copies_to B x n ≤ copies_to A x i
    none_free n m e =
        count-capped (holds_at B x) n (copies_to A x i) (λ k l h. not_free k (omega arith) (at_clear _ n k e l) h)

  -- another turn makes no difference for k, unless it is the turn of its element and it is next to be given away
  kept : (i k : ℕ) → (holds_at A (B.element k) i ≡ true → B.chosen k ≡ true → copies_to B (B.element k) k ≡ copies_to A (B.element k) i → ⊥) →
      given_to i k ≡ given_to (suc i) k
  unfolding given_to
  kept i k d = and_same (B.chosen k) _ _ (λ c. go c (holds_at A x i) refl)
    where
      x : List ℕ
      x = B.element k

      go : B.chosen k ≡ true → (b : Bool) → holds_at A x i ≡ b → ltb (copies_to B x k) (copies_to A x i) ≡ ltb (copies_to B x k) (copies_to A x (suc i))
      go c false e = ap (ltb (copies_to B x k)) (sym (count-stays (holds_at A x) i e))
      go c true e =
          ltb_next (copies_to B x k) (copies_to A x i) (d e c)
          ∙ ap (ltb (copies_to B x k)) (sym (count-grows (holds_at A x) i e))

  -- the turn of index i, which is one of the run
  module _ (i : ℕ) (back : (k : ℕ) → k < B.size → used A B i k ≡ given_to i k) (c : A.chosen i ≡ true) (k : ℕ) (l : k < B.size) where
    y : List ℕ
    y = A.element i

    none-given : partner_for B (used A B i) y ≡ none → used A B i k ≡ given_to (suc i) k
    unfolding y
    none-given e =
        back k l
        ∙ kept i k
        (λ r b z.
        let q = (holds-is A _ i r).1 in
        let h = not_free i back y k l (at_clear _ _ k e l) (holds_same B y k b (sym q)) in
        let n : copies_to B y k ≡ copies_to A y i = ap (λ (x : List ℕ). copies_to B x k) (sym q) ∙ z ∙ ap (λ (x : List ℕ). copies_to A x i) q in omega arith)

    module _ (j : ℕ) (e : partner_for B (used A B i) y ≡ some j) where
      found-free : (j < B.size) × (holds_at B y j ≡ true) × (copies_to B y j ≡ copies_to A y i)
      found-free =
          let f = at-found _ B.size j e in
          let g = free-is i back y j f.0 f.1 in
          let h = none_free i back y j (omega (arith, f.0)) f.2 in (f.0, g.0, omega (arith, g.1, h))

      now-given : j ≡ k → true ≡ given_to (suc i) k
      unfolding given_to y
      now-given q =
          let f = found-free in
          let o = holds-is B y j f.1 in
          let n = ap (λ (x : List ℕ). copies_to A x (suc i)) o.1 in
          let m = ap (λ (x : List ℕ). copies_to B x j) o.1 in
          let more = count-grows (holds_at A y) i (holds-own A i c) in
          let less : copies_to B (B.element j) j < copies_to A (B.element j) (suc i) = omega (arith, n, m, more, f.2) in
          sym (true-and _ _ o.0 (lt-ltb _ _ less))
          ∙ ap (λ (z : ℕ). B.chosen z && ltb (copies_to B (B.element z) z) (copies_to A (B.element z) (suc i))) q

      not-now : (j ≡ k → ⊥) → used A B i k ≡ given_to (suc i) k
      unfolding y
      not-now d =
          back k l
          ∙ kept i k
          (λ r b z.
          let q = (holds-is A _ i r).1 in
          let f = found-free in
          let n : copies_to B y k ≡ copies_to A y i = ap (λ (x : List ℕ). copies_to B x k) (sym q) ∙ z ∙ ap (λ (x : List ℕ). copies_to A x i) q in
          d (count-place (holds_at B y) j k f.1 (holds_same B y k b (sym q)) (f.2 ∙ sym n)))

    turn : (o : Option ℕ) → partner_for B (used A B i) y ≡ o → also_given o (used A B i) k ≡ given_to (suc i) k
    turn none e = none-given e
    turn (some j) e = go (eqb j k) refl
      where
        go : (b : Bool) → eqb j k ≡ b → pick b true (used A B i k) ≡ given_to (suc i) k
        go true q = now-given j e (eqb-true j k q)
        go false q = not-now j e (eqb-false j k q)

  used-is : (i k : ℕ) → k < B.size → used A B i k ≡ given_to i k
  unfolding used given_to y
  used-is zero k l =
      let z : copies_to A (B.element k) zero ≤ copies_to B (B.element k) k = omega (arith, count-start (holds_at A (B.element k))) in
      sym (false-and (B.chosen k) _ (λ c. le-ltb _ _ z))
  used-is (suc i) k l = go (A.chosen i) refl (used-is i)
    where
      go : (b : Bool) → A.chosen i ≡ b → ((k : ℕ) → k < B.size → used A B i k ≡ given_to i k) →
          pick b (also_given (partner_for B (used A B i) (A.element i)) (used A B i) k) (used A B i k) ≡ given_to (suc i) k
      go true c back = turn i back c k l (partner_for B (used A B i) (A.element i)) refl
      go false c back = back k l ∙ kept i k (λ q b z. true-not-false (sym q ∙ holds-none A (B.element k) i c))

  -- ---- both ways are the same
  pub alone-is : (i : ℕ) → alone A B i ≡ unpartnered A B i
  unfolding alone unpartnered
  alone-is i = and_same (A.chosen i) _ _ (λ c. go (partner_for B (used A B i) x) refl)
    where
      x : List ℕ
      x = A.element i

      go : (o : Option ℕ) → partner_for B (used A B i) x ≡ o → leb (copies_in B x) (copies_to A x i) ≡ not (is_some o)
      go none e = le-leb _ _ (none_free i (used-is i) x B.size (le_refl B.size) e)
      go (some j) e =
          let f = at-found _ B.size j e in
          let g = free-is i (used-is i) x j f.0 f.1 in
          lt-leb (copies_in B x) (copies_to A x i) (omega (arith, g.1, count-before (holds_at B x) B.size j f.0 g.0))

  pub left_is : (k : ℕ) → k < B.size → alone B A k ≡ left A B k
  unfolding alone left given_to
  left_is k l =
      and_same (B.chosen k) _ _
      (λ c.
      leb-not (copies_in A (B.element k)) (copies_to B (B.element k) k)
      ∙ ap not (sym (used-is A.size k l ∙ ap (λ (b : Bool). b && ltb (copies_to B (B.element k) k) (copies_in A (B.element k))) c)))

  -- ---- each turn gives one away
  module _ (no_one : first_alone A B ≡ none) where
    one-given : (i : ℕ) → A.chosen i ≡ true → i < A.size → (j : ℕ) × (partner_for B (used A B i) (A.element i) ≡ some j)
    unfolding unpartnered
    one-given i c l = go (partner_for B (used A B i) (A.element i)) refl
      where
        go : (o : Option ℕ) → partner_for B (used A B i) (A.element i) ≡ o → (j : ℕ) × (partner_for B (used A B i) (A.element i) ≡ some j)
        go (some j) e = (j, e)
        go none e =
            absurd
            (true-not-false
            (sym (true-and (A.chosen i) (not (is_some (partner_for B (used A B i) (A.element i)))) c (ap (λ (o : Option ℕ). not (is_some o)) e))
            ∙ sym (alone-is i)
            ∙ at_clear (alone A B) A.size i no_one l))

    given-count : (i : ℕ) → i ≤ A.size → count_below (used A B i) B.size ≡ count_below A.chosen i
    unfolding used count_below is_free
    given-count zero l =
        let z = count-capped (used A B zero) B.size 0 (λ k g e. absurd (true-not-false (sym e))) in omega (arith, z)
    given-count (suc i) l = go (A.chosen i) refl (given-count i (omega arith))
      where
        go : (b : Bool) → A.chosen i ≡ b → count_below (used A B i) B.size ≡ count_below A.chosen i →
            count_below (λ k. pick b (also_given (partner_for B (used A B i) (A.element i)) (used A B i) k) (used A B i k)) B.size
            ≡ pick b (count_below A.chosen i + 1) (count_below A.chosen i)
        go false c back = back
        go true c back =
            let f = one-given i c (omega arith) in
            let g = at-found _ B.size f.0 f.1 in
            ap (λ (o : Option ℕ). count_below (also_given o (used A B i)) B.size) f.1
            ∙ count-given (used A B i) (also_given (some f.0) (used A B i)) B.size f.0 g.0
            (N.not-true _ (and-true _ _ g.1).0)
            (ap (λ (b : Bool). pick b true (used A B i f.0)) (eq-eqb f.0 f.0 refl))
            (λ k d. ap (λ (b : Bool). pick b true (used A B i k)) (ne_eqb f.0 k (λ q. d (sym q))))
            ∙ ap (λ (n : ℕ). n + 1) back

    pub all-partnered : count_below A.chosen A.size ≡ count_below B.chosen B.size → first_alone B A ≡ none
    unfolding left given_to
    all-partnered e =
        at-nothing (alone B A) B.size
        (λ k l.
        left_is k l
        ∙ false-and _ _
        (λ c.
        ap not
        (count-fills (used A B A.size) B.chosen B.size (λ i g u. (and-true (B.chosen i) _ (sym (used-is A.size i g) ∙ u)).0)
        (given-count A.size (le_refl A.size) ∙ e) k l c)))

-- ---- all have partners
-- none of A is alone
module _ (A B : Run) where
  at_most : first_alone A B ≡ none → (x : List ℕ) → copies_in A x ≤ copies_in B x
  unfolding alone
  at_most e x =
      count-capped (holds_at A x) A.size (copies_in B x)
      (λ k l h.
      let o = holds-is A x k h in
      let f = and-false _ _ (at_clear (alone A B) A.size k e l) o.0 in
      leb-false _ _ (ap (λ (y : List ℕ). leb (copies_in B y) (copies_to A y k)) o.1 ∙ f))

  at-most-none : ((x : List ℕ) → copies_in A x ≤ copies_in B x) → first_alone A B ≡ none
  at-most-none h = at-nothing (alone A B) A.size (λ i l. partnered A B A.size i l (λ c. h (A.element i)))

module _ (A B : Run) where
  pub none-alone : ((first_alone A B ≡ none) × (first_alone B A ≡ none)) ↔ EquallyOften A B A.size B.size
  none-alone = (
    (λ h x. let a = at_most A B h.0 x in let b = at_most B A h.1 x in omega arith),
    λ e. (at-most-none A B (λ x. omega (arith, e x)), at-most-none B A (λ x. omega (arith, e x))),
  )

  -- the first a of A and the first b of B, and what matches them
  abbrev pub Matched : ℕ → ℕ → Type 0
  Matched a b = OneToOne (Chosen a A.chosen) (Chosen b B.chosen) (λ i k. A.element i ≡ B.element k)

  pub equally-one : (a b : ℕ) → EquallyOften A B a b ↔ Matched a b
  unfolding holds_at
  equally-one a b = (
    equally-matched words_test words-sound words_same_lem a A.chosen A.element b B.chosen B.element,
    matched-equally words_test a A.chosen A.element b B.chosen B.element,
  )

  pub none-alone-matched : ((first_alone A B ≡ none) × (first_alone B A ≡ none)) ↔ Matched A.size B.size
  none-alone-matched =
      let e = equally-one A.size B.size in (λ h. e.0 (none-alone.0 h), λ m. none-alone.1 (e.1 m))

-- ---- another run with the same elements at the same indices
module _ (A C : Run) (size : A.size ≡ C.size) (chosen : (k : ℕ) → k < A.size → A.chosen k ≡ C.chosen k)
    (element : (k : ℕ) → k < A.size → A.element k ≡ C.element k) where
  copies-same : (x : List ℕ) (k : ℕ) → k ≤ A.size → copies_to A x k ≡ copies_to C x k
  unfolding holds_at
  copies-same x k l =
      count_same (holds_at A x) (holds_at C x) k (λ j g. let h : j < A.size = omega arith in (λ i. chosen j h i && words_test x (element j h i)))

  pub alone-of-same : (B : Run) → first_alone A B ≡ first_alone C B
  unfolding alone
  alone-of-same B =
      at_same (alone A B) (alone C B) A.size
      (λ k l.
      let e = copies-same (A.element k) k (omega arith) in
      (λ i. A.chosen k && leb (copies_in B (A.element k)) (e i)) ∙ (λ i. chosen k l i && leb (copies_in B (element k l i)) (copies_to C (element k l i) k)))
      ∙ ap (first_at (alone C B)) size

  pub alone-in-same : (B : Run) → first_alone B A ≡ first_alone B C
  unfolding alone
  alone-in-same B =
      at_same (alone B A) (alone B C) B.size
      (λ k l.
      let x = B.element k in
      let e = copies-same x A.size (le_refl A.size) ∙ ap (copies_to C x) size in (λ i. B.chosen k && leb (e i) (copies_to B x k)))
