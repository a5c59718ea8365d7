-- In some order the same, said in two ways and proved equal: elements at the indices below n that pass the test s, and elements at those below m that pass t.
--     equally-matched   where every element stands equally often in both, their indices can be matched one to one, equal elements together
--     matched-equally   and the other way
--     count-matched     indices that are matched one to one are equally many
--     matched-by        the same matching by what else says which numbers are chosen, and what of two partners
use mathlib.Core.Path.{◌≡◌, refl, sym, ap, ◌∙◌}
use mathlib.Core.Bool.{Bool, true, false, ◌&&◌}
use Prim.Native.Nat.{ℕ, zero, suc, ◌+◌, ◌<◌}
use native.Mathlib.Omega.{arith}
use borrow.Author.Tests.{eqb-true, eq-eqb, ne_eqb}
use lib.Dec.{T, eqb}
use Rattle.lists.specs.Tab.{pick}
use Rattle.lists.specs.First.{count_below}
use Rattle.lists.specs.Sum.{sum_below}
use Rattle.lists.specs.OneToOne.{OneToOne}
use Rattle.lists.proofs.Then.{by_le, T_true}
use Rattle.lists.proofs.Tests.{true-not-false, T_of, and-true, true-and, false-and}
use Rattle.lists.proofs.Sum.{sum_same, sum-zero, sum-place, sum-swap}
use Rattle.lists.proofs.Count.{count-before, sum-tests}

-- index k is below n and passes s
abbrev pub Chosen : ℕ → (ℕ → Bool) → ℕ → Type 0
Chosen n s k = (k < n) × (s k ≡ true)

-- ---- the index at which a test passes for the i-th time, i passing before it
unfoldable nth : (ℕ → Bool) → ℕ → ℕ → ℕ
nth t zero i = 0
nth t (suc n) i = pick (t n && eqb (count_below t n) i) n (nth t n i)

nth-is : (t : ℕ → Bool) (n i : ℕ) → i < count_below t n → Chosen n t (nth t n i) × (count_below t (nth t n i) ≡ i)
unfolding count_below nth
nth-is t zero i h = absurd (omega arith)
nth-is t (suc n) i h = go (t n) (eqb (count_below t n) i) refl refl h (nth-is t n i)
  where
    go : (b c : Bool) → t n ≡ b → eqb (count_below t n) i ≡ c → i < pick b (count_below t n + 1) (count_below t n) →
        (i < count_below t n → Chosen n t (nth t n i) × (count_below t (nth t n i) ≡ i)) →
        Chosen (suc n) t (pick (b && c) n (nth t n i)) × (count_below t (pick (b && c) n (nth t n i)) ≡ i)
    go true true e f l back = ((omega arith, e), eqb-true _ _ f)
    go true false e f l back =
        let r = back (by_le (count_below t n) i (λ g. let q : count_below t n ≡ i = omega arith in absurd (true-not-false (sym (eq-eqb _ _ q) ∙ f))) (λ g. g)) in
        ((omega (arith, r.0.0), r.0.1), r.1)
    go false c e f l back = let r = back l in ((omega (arith, r.0.0), r.0.1), r.1)

-- no two indices are the i-th
same_place : (t : ℕ → Bool) (j k : ℕ) → t j ≡ true → t k ≡ true → count_below t j ≡ count_below t k → j ≡ k
same_place t j k a b e =
    by_le j k
    (λ l. by_le k j (λ g. omega arith) (λ g. absurd (omega (arith, count-before t k j g a))))
    (λ l. absurd (omega (arith, count-before t j k l b)))

nth-at : (t : ℕ → Bool) (n k : ℕ) → Chosen n t k → nth t n (count_below t k) ≡ k
nth-at t n k c =
    let r = nth-is t n (count_below t k) (count-before t n k c.0 c.1) in
    same_place t (nth t n (count_below t k)) k r.0.1 c.1 r.1

-- ---- from numbers to partners: the i-th copy here has the i-th copy there
-- whether index k passes and has the element a
abbrev pub copy : {A : Type 0} → (A → A → Bool) → (ℕ → Bool) → (ℕ → A) → A → ℕ → Bool
copy test s f a k = s k && test a (f k)

module _ {A : Type 0} (test : A → A → Bool) (sound : (a b : A) → T (test a b) → a ≡ b) (same : (a : A) → T (test a a)) where
  partner : (ℕ → Bool) → (ℕ → A) → ℕ → (ℕ → Bool) → (ℕ → A) → ℕ → ℕ
  partner s f m t g k = nth (copy test t g (f k)) m (count_below (copy test s f (f k)) k)

  module _ (n : ℕ) (s : ℕ → Bool) (f : ℕ → A) (m : ℕ) (t : ℕ → Bool) (g : ℕ → A)
      (equally : (a : A) → count_below (copy test s f a) n ≡ count_below (copy test t g a) m) where
    own : (k : ℕ) → Chosen n s k → Chosen n (copy test s f (f k)) k
    own k c = (c.0, true-and (s k) (test (f k) (f k)) c.1 (T_true _ (same (f k))))

    partner-is : (k : ℕ) → Chosen n s k →
        Chosen m t (partner s f m t g k) × (f k ≡ g (partner s f m t g k))
        × (count_below (copy test t g (f k)) (partner s f m t g k) ≡ count_below (copy test s f (f k)) k)
    unfolding partner
    partner-is k c =
        let o = own k c in
        let r = nth-is (copy test t g (f k)) m (count_below (copy test s f (f k)) k) (omega (arith, equally (f k), count-before (copy test s f (f k)) n k o.0 o.1)) in
        let b = and-true _ _ r.0.1 in
        ((r.0.0, b.0), sound _ _ (T_of _ b.1), r.1)

    partner-back : (k : ℕ) → Chosen n s k → partner t g n s f (partner s f m t g k) ≡ k
    unfolding partner
    partner-back k c =
        let r = partner-is k c in
        let j : ℕ = partner s f m t g k in
        ap (λ (a : A). nth (copy test s f a) n (count_below (copy test t g a) j)) (sym r.1)
        ∙ ap (nth (copy test s f (f k)) n) r.2
        ∙ nth-at (copy test s f (f k)) n k (own k c)

  module _ (n : ℕ) (s : ℕ → Bool) (f : ℕ → A) (m : ℕ) (t : ℕ → Bool) (g : ℕ → A) where
    pub equally-matched : ((a : A) → count_below (copy test s f a) n ≡ count_below (copy test t g a) m) →
        OneToOne (Chosen n s) (Chosen m t) (λ k j. f k ≡ g j)
    equally-matched e =
        record {
          to = partner s f m t g;
          from = partner t g n s f;
          to_in = λ k c. (partner-is n s f m t g e k c).0;
          from_in = λ j c. (partner-is m t g n s f (λ a. sym (e a)) j c).0;
          from-to = partner-back n s f m t g e;
          to-from = partner-back m t g n s f (λ a. sym (e a));
          alike = λ k c. (partner-is n s f m t g e k c).1;
        }

-- ---- from partners to numbers: each chosen index has one partner, so that pairs of partners are as many as either
module _ (n m : ℕ) (s t : ℕ → Bool) {R : ℕ → ℕ → Type 0} (h : OneToOne (Chosen n s) (Chosen m t) R) where
  -- 1 where k is chosen and j is its partner
  abbrev pair : ℕ → ℕ → ℕ
  pair k j = pick (s k && eqb j (h.to k)) 1 0

  no-pair : (k j : ℕ) → (s k ≡ true → j ≡ h.to k → ⊥) → pair k j ≡ 0
  no-pair k j d = ap (λ (b : Bool). pick {A = ℕ} b 1 0) (false-and (s k) (eqb j (h.to k)) (λ e. ne_eqb j (h.to k) (d e)))

  a_pair : (k j : ℕ) → s k ≡ true → j ≡ h.to k → pair k j ≡ 1
  a_pair k j e q = ap (λ (b : Bool). pick {A = ℕ} b 1 0) (true-and (s k) (eqb j (h.to k)) e (eq-eqb j (h.to k) q))

  of_left : (k : ℕ) → k < n → (b : Bool) → s k ≡ b → sum_below m (pair k) ≡ pick b 1 0
  of_left k l true e = sum-place m (h.to k) (pair k) (h.to_in k (l, e)).0 (λ j g d. no-pair k j (λ a q. d q)) ∙ a_pair k (h.to k) e refl
  of_left k l false e = sum-zero m (pair k) (λ j g. no-pair k j (λ a q. true-not-false (sym a ∙ e)))

  of_right : (j : ℕ) → j < m → (b : Bool) → t j ≡ b → sum_below n (λ k. pair k j) ≡ pick b 1 0
  of_right j l true e =
      let c = h.from_in j (l, e) in
      sum-place n (h.from j) (λ k. pair k j) c.0 (λ k g d. no-pair k j (λ a q. d (sym (h.from-to k (g, a)) ∙ ap h.from (sym q))))
      ∙ a_pair (h.from j) j c.1 (sym (h.to-from j (l, e)))
  of_right j l false e = sum-zero n (λ k. pair k j) (λ k g. no-pair k j (λ a q. true-not-false (sym (h.to_in k (g, a)).1 ∙ ap t (sym q) ∙ e)))

  pub count-matched : count_below s n ≡ count_below t m
  count-matched =
      sym (sum-tests s n)
      ∙ sum_same n (λ k. pick (s k) 1 0) (λ k. sum_below m (pair k)) (λ k l. sym (of_left k l (s k) refl))
      ∙ sum-swap n m pair
      ∙ sum_same m (λ j. sum_below n (λ k. pair k j)) (λ j. pick (t j) 1 0) (λ j l. of_right j l (t j) refl)
      ∙ sum-tests t m

-- the same matching, where other words say which numbers are chosen, and less is said of partners
pub matched-by : {P Q P' Q' : ℕ → Type 0} {R R' : ℕ → ℕ → Type 0} →
    ((k : ℕ) → P' k → P k) → ((k : ℕ) → P k → P' k) → ((j : ℕ) → Q' j → Q j) → ((j : ℕ) → Q j → Q' j) → ((k j : ℕ) → P k → R k j → R' k j) →
    OneToOne P Q R → OneToOne P' Q' R'
matched-by p p' q q' r h =
    record {
      to = h.to;
      from = h.from;
      to_in = λ k c. q' (h.to k) (h.to_in k (p k c));
      from_in = λ j c. p' (h.from j) (h.from_in j (q j c));
      from-to = λ k c. h.from-to k (p k c);
      to-from = λ j c. h.to-from j (q j c);
      alike = λ k c. r k (h.to k) (p k c) (h.alike k (p k c));
    }

module _ {A : Type 0} (test : A → A → Bool) (n : ℕ) (s : ℕ → Bool) (f : ℕ → A) (m : ℕ) (t : ℕ → Bool) (g : ℕ → A) where
  -- the copies of one element among them are matched too
  copies-matched : OneToOne (Chosen n s) (Chosen m t) (λ k j. f k ≡ g j) → (a : A) →
      OneToOne (Chosen n (copy test s f a)) (Chosen m (copy test t g a)) (λ k j. f k ≡ g j)
  copies-matched h a =
      record {
        to = h.to;
        from = h.from;
        to_in = λ k c. let b = and-true _ _ c.1 in let i = h.to_in k (c.0, b.0) in (i.0, true-and _ _ i.1 (ap (test a) (sym (h.alike k (c.0, b.0))) ∙ b.1));
        from_in = λ j c.
            let b = and-true _ _ c.1 in
            let i = h.from_in j (c.0, b.0) in
            (i.0, true-and _ _ i.1 (ap (test a) (h.alike (h.from j) i ∙ ap g (h.to-from j (c.0, b.0))) ∙ b.1));
        from-to = λ k c. h.from-to k (c.0, (and-true _ _ c.1).0);
        to-from = λ j c. h.to-from j (c.0, (and-true _ _ c.1).0);
        alike = λ k c. h.alike k (c.0, (and-true _ _ c.1).0);
      }

  pub matched-equally : OneToOne (Chosen n s) (Chosen m t) (λ k j. f k ≡ g j) → (a : A) → count_below (copy test s f a) n ≡ count_below (copy test t g a) m
  matched-equally h a = count-matched n m (copy test s f a) (copy test t g a) (copies-matched h a)
