-- The groups of equal keys in an arranged list, and the least number of which something is so.
--     arranged-count   how many of the numbers pass a test, counted in the list
--     group-count      how many of a group pass a test is how many of all with its key do
--     Lowest           the least number, of those before k in the list, of which `bad` is so; N where it is so of none
use mathlib.Core.Path.{◌≡◌, sym, ap, subst, ◌∙◌}
use mathlib.Core.Bool.{Bool, true, false, ◌&&◌}
use mathlib.Core.Option.{none, some}
use mathlib.Core.List.{List}
use Prim.Native.Nat.{ℕ, zero, suc, ◌+◌, ◌≤◌, ◌<◌}
use native.Mathlib.Omega.{arith}
use lib.ListN.{length}
use Rattle.lists.specs.Tab.{word}
use Rattle.lists.specs.First.{first_at, count_below}
use Rattle.lists.proofs.First.{at-hit, at-nothing, count-start}
use Rattle.lists.proofs.OneToOne.{count-matched}
use Rattle.lists.proofs.Tests.{true-not-false, not-true, and-true, true-and, false-and}
use Rattle.lists.proofs.Then.{by_le}
use Rattle.judge_within.specs.Groups.{Apart, GroupTo}
use Rattle.judge_within.proofs.Arranged.{Arranged, same, same_key, key-same, between, tied}

-- a test that passes at no index from m on
pub count-stop : (t : ℕ → Bool) (m n : ℕ) → m ≤ n → ((k : ℕ) → m ≤ k → k < n → t k ≡ false) → count_below t m ≡ count_below t n
unfolding count_below
count-stop t m zero l h = let e : m ≡ 0 = omega arith in ap (count_below t) e
count-stop t m (suc n) l h =
    by_le m n
    (λ g. rw (h n g (omega arith)) (count-stop t m n g (λ k a b. h k a (omega arith))))
    (λ g. let e : m ≡ suc n = omega arith in ap (count_below t) e)

pub apart-first : (key : ℕ → List ℕ) (xs : List ℕ) → Apart key xs 0
unfolding Apart
apart-first key xs i l = absurd (omega arith)

module _ (on : ℕ → Bool) (N : ℕ) (key : ℕ → List ℕ) (xs : List ℕ) (A : Arranged on N key xs) where
  abbrev n : ℕ
  n = length xs

  -- two places of the list are in the order of their numbers where the keys are equal
  pub in_order : (i j : ℕ) → i < n → j < n → key (word xs i) ≡ key (word xs j) → word xs i < word xs j → i < j
  in_order i j l m e g =
      by_le j i
      (λ h. absurd (by_le i j
      (λ f. let q : i ≡ j = omega arith in let z : word xs i ≡ word xs j = ap (word xs) q in omega arith)
      (λ f. let z = tied key (word xs j) (word xs i) (A.rises j i f l) (sym e) in omega arith)))
      (λ h. h)

  one_index : (i j : ℕ) → i < n → j < n → word xs i ≡ word xs j → i ≡ j
  one_index i j l m e =
      by_le i j
      (λ f. by_le j i (λ g. omega arith) (λ g. let z = tied key (word xs i) (word xs j) (A.rises i j g m) (ap key e) in absurd (omega arith)))
      (λ f. let z = tied key (word xs j) (word xs i) (A.rises j i f l) (ap key (sym e)) in absurd (omega arith))

  pub arranged-count : (f : ℕ → Bool) → count_below (λ k. f (word xs k)) n ≡ count_below (λ p. on p && f p) N
  arranged-count f =
      count-matched n N (λ k. f (word xs k)) (λ p. on p && f p) {R = λ k p. Unit {0}}
      (record {
        to = word xs;
        from = A.index;
        to_in = λ k c. let i = A.inside k c.0 in (i.0, true-and _ _ i.1 c.1);
        from_in = λ p c. let t = and-true (on p) (f p) c.1 in let i = A.found p c.0 t.0 in (i.0, ap f i.1 ∙ t.1);
        from-to = λ k c. let i = A.inside k c.0 in let j = A.found (word xs k) i.0 i.1 in one_index (A.index (word xs k)) k j.0 c.0 j.1;
        to-from = λ p c. let t = and-true (on p) (f p) c.1 in (A.found p c.0 t.0).1;
        alike = λ k c. tt;
      })

  -- ---- groups
  pub group-none : (s : ℕ) → GroupTo key xs s s
  unfolding GroupTo
  group-none s i l m = absurd (omega arith)

  pub group-more : (s e : ℕ) → GroupTo key xs s e → same key (word xs s) (word xs e) ≡ true → GroupTo key xs s (e + 1)
  unfolding GroupTo
  group-more s e g h i l m = by_le e i (λ k. let q : e ≡ i = omega arith in subst (λ (j : ℕ). same key (word xs s) (word xs j) ≡ true) q h) (λ k. g i l k)

  -- the first of a group is its least number
  pub group-least : (s e : ℕ) → GroupTo key xs s e → e ≤ n → (i : ℕ) → s ≤ i → i < e → word xs s ≤ word xs i
  unfolding GroupTo
  group-least s e G m i a b =
      by_le i s
      (λ g. let q : s ≡ i = omega arith in let z : word xs s ≡ word xs i = ap (word xs) q in omega arith)
      (λ g. let z = tied key (word xs s) (word xs i) (A.rises s i g (omega arith)) (same_key key _ _ (G i a b)) in omega arith)

  -- it ends where the next number has another key, or with the list
  module _ (s e : ℕ) (S : Apart key xs s) (G : GroupTo key xs s e) (l : s < e) (m : e ≤ n) (E : e < n → same key (word xs s) (word xs e) ≡ false) where
    pub later-apart : (k : ℕ) → e ≤ k → k < n → same key (word xs s) (word xs k) ≡ false
    later-apart k a b =
        not-true (same key (word xs s) (word xs k)) (λ h.
        let c = same_key key (word xs s) (word xs k) h in
        by_le k e
        (λ g. let q : k ≡ e = omega arith in true-not-false (sym (key-same key (word xs s) (word xs e) (c ∙ ap (λ (j : ℕ). key (word xs j)) q)) ∙ E (omega arith)))
        (λ g.
        let d = between key (word xs s) (word xs e) (word xs k) (A.rises s e l (omega arith)) (A.rises e k g b) c in
        true-not-false (sym (key-same key (word xs s) (word xs e) d) ∙ E (omega arith))))

    pub next-starts : e < n → Apart key xs e
    unfolding Apart GroupTo
    next-starts h i a =
        not-true (same key (word xs i) (word xs e)) (λ t.
        let c = same_key key (word xs i) (word xs e) t in
        by_le s i
        (λ g. true-not-false (sym (key-same key (word xs s) (word xs e) (same_key key _ _ (G i g a) ∙ c)) ∙ E h))
        (λ g.
        let d = between key (word xs i) (word xs s) (word xs e) (A.rises i s g (omega arith)) (A.rises s e l h) c in
        true-not-false (sym (key-same key (word xs i) (word xs s) d) ∙ S i g)))

    -- how many with the key of the group pass a test
    pub group-count : (f : ℕ → Bool) →
        count_below (λ k. f (word xs k) && same key (word xs s) (word xs k)) e ≡ count_below (λ p. on p && (f p && same key (word xs s) p)) N
    group-count f =
        count-stop (λ k. f (word xs k) && same key (word xs s) (word xs k)) e n m (λ k a b. false-and (f (word xs k)) (same key (word xs s) (word xs k)) (λ z. later-apart k a b))
        ∙ arranged-count (λ p. f p && same key (word xs s) p)

  pub group_empty : (s : ℕ) (f : ℕ → Bool) → Apart key xs s → count_below (λ k. f (word xs k) && same key (word xs s) (word xs k)) s ≡ 0
  unfolding Apart
  group_empty s f S =
      sym (count-stop (λ k. f (word xs k) && same key (word xs s) (word xs k)) 0 s (omega arith) (λ k a b. false-and (f (word xs k)) (same key (word xs s) (word xs k)) (λ z.
      not-true (same key (word xs s) (word xs k)) (λ t. true-not-false (sym (key-same key (word xs k) (word xs s) (sym (same_key key (word xs s) (word xs k) t))) ∙ S k b)))))
      ∙ count-start (λ k. f (word xs k) && same key (word xs s) (word xs k))

-- ---- the least number of which `bad` is so, among v 0, .., v (k - 1)
pub record Lowest (bad : ℕ → Bool) (N : ℕ) (v : ℕ → ℕ) (k least : ℕ) : Type 0 where
  pub small : least ≤ N
  pub is : least < N → bad least ≡ true
  pub below : (i : ℕ) → i < k → bad (v i) ≡ true → least ≤ v i

module _ (bad : ℕ → Bool) (N : ℕ) (v : ℕ → ℕ) where
  pub lowest_start : Lowest bad N v 0 N
  lowest_start = record { small = omega arith; is = λ l. absurd (omega arith); below = λ i l e. absurd (omega arith) }

  module _ (k j least : ℕ) (L : Lowest bad N v k least) where
    pub lowest-keep : ((i : ℕ) → k ≤ i → i < j → bad (v i) ≡ true → least ≤ v i) → Lowest bad N v j least
    lowest-keep h = record { small = L.small; is = L.is; below = λ i l e. by_le k i (λ g. h i g l e) (λ g. L.below i g e) }

    pub lowest-new : (new : ℕ) → new ≤ least → bad new ≡ true → ((i : ℕ) → k ≤ i → i < j → new ≤ v i) → Lowest bad N v j new
    lowest-new new l b h =
        let s = L.small in
        record {
          small = omega arith;
          is = λ z. b;
          below = λ i m e. by_le k i (λ g. h i g m) (λ g. let z = L.below i g e in omega arith);
        }

  -- where each of which it is so is among them
  module _ (k least : ℕ) (L : Lowest bad N v k least) (all : (p : ℕ) → p < N → bad p ≡ true → (i : ℕ) × (i < k) × (v i ≡ p)) where
    clear : (p : ℕ) → p < N → p < least → bad p ≡ false
    clear p l m = not-true (bad p) (λ e. let h = all p l e in let z = L.below h.0 h.1 (ap bad h.2 ∙ e) in omega (arith, z, h.2))

    pub lowest-some : least < N → first_at bad N ≡ some least
    lowest-some l = at-hit bad least N l (at-nothing bad least (λ p m. clear p (omega arith) m)) (L.is l)

    pub lowest-none : N ≤ least → first_at bad N ≡ none
    lowest-none l = at-nothing bad N (λ p m. clear p m (omega arith))
