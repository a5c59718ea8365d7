-- The first of the counters that are charged which is p or more: what the search says, and how it is found while what is added grows
-- by one counter at a time.
use mathlib.Core.Path.{◌≡◌, refl, sym, ap, subst, ◌∙◌}
use mathlib.Core.Bool.{Bool, true, false, ◌&&◌}
use mathlib.Core.Option.{none, some}
use Prim.Native.Nat.{ℕ, zero, suc, ◌+◌, ◌≤◌, ◌<◌}
use native.Mathlib.Nat.{le_refl}
use native.Mathlib.Omega.{arith}
use borrow.Author.Tests.{leb-false, ltb-true, le-leb, lt-leb, lt-ltb, le-ltb, eq-eqb, ne_eqb}
use lib.Dec.{leb, ltb, eqb}
use Rattle.lists.specs.Tab.{pick}
use Rattle.lists.specs.First.{first_at, count_below}
use Rattle.lists.proofs.Then.{by_le}
use Rattle.lists.proofs.Kept.{by-eq}
use Rattle.lists.proofs.Tests.{true-and, and-false, false-and}
use Rattle.lists.proofs.First.{at_clear, at-nothing, at-hit}
use Rattle.field.specs.Field.{p}
use Rattle.bitwise.specs.Counters.{large_charged, lower_large}

-- ---- what the search says
module _ (added words : ℕ → ℕ) where
  large-no : (c : ℕ) → (0 < added c → words c < p) → large_charged added words c ≡ false
  unfolding large_charged
  large-no c h = false-and (ltb 0 (added c)) (leb p (words c)) (λ e. lt-leb p (words c) (h (ltb-true 0 (added c) e)))

  pub large-none : (m : ℕ) → ((c : ℕ) → c < m → 0 < added c → words c < p) → first_at (large_charged added words) m ≡ none
  large-none m h = at-nothing (large_charged added words) m (λ c l. large-no c (h c l))

  pub large-clear : (m : ℕ) → first_at (large_charged added words) m ≡ none → (c : ℕ) → c < m → 0 < added c → words c < p
  unfolding large_charged
  large-clear m e c l h =
      leb-false p (words c) (and-false (ltb 0 (added c)) (leb p (words c)) (at_clear (large_charged added words) m c e l) (lt-ltb 0 (added c) h))

  pub large-first : (m k : ℕ) → k < m → 0 < added k → p ≤ words k → ((c : ℕ) → c < k → 0 < added c → words c < p)
      → first_at (large_charged added words) m ≡ some k
  unfolding large_charged
  large-first m k l h b lower =
      at-hit (large_charged added words) k m l (large-none k lower)
      (true-and (ltb 0 (added k)) (leb p (words k)) (lt-ltb 0 (added k) h) (le-leb p (words k) b))

-- ---- the lower of two
pub lower-small : (w c least : ℕ) → w < p → lower_large w c least ≡ least
unfolding lower_large
lower-small w c least h = ap (λ (b : Bool). pick (b && ltb c least) c least) (lt-leb p w h)

pub lower_high : (w c least : ℕ) → least ≤ c → lower_large w c least ≡ least
unfolding lower_large
lower_high w c least h = ap (λ (b : Bool). pick b c least) (false-and (leb p w) (ltb c least) (λ e. le-ltb c least h))

pub lower-is : (w c least : ℕ) → p ≤ w → c < least → lower_large w c least ≡ c
unfolding lower_large
lower-is w c least h l = ap (λ (b : Bool). pick b c least) (true-and (leb p w) (ltb c least) (le-leb p w h) (lt-ltb c least l))

-- ---- the search while what is added grows: of the counters below m `least` is the first, m where there is none
pub record Least (added words : ℕ → ℕ) (m least : ℕ) : Type 0 where
  pub bound : least ≤ m
  pub below : (c : ℕ) → c < least → 0 < added c → words c < p
  pub here : least < m → (0 < added least) × (p ≤ words least)

pub least_start : (added words : ℕ → ℕ) (m : ℕ) → ((c : ℕ) → added c ≡ 0) → Least added words m m
least_start added words m e = record { bound = le_refl m; below = λ c l h. absurd (omega (arith, e c, h)); here = λ l. absurd (omega (arith, l)) }

-- n more on counter k
abbrev more : (ℕ → ℕ) → ℕ → ℕ → ℕ → ℕ
more f k n c = f c + pick (eqb c k) n 0

more-there : (f : ℕ → ℕ) (k n : ℕ) → more f k n k ≡ f k + n
more-there f k n = ap (λ (b : Bool). f k + pick b n 0) (eq-eqb k k refl)

more-other : (f : ℕ → ℕ) (k n c : ℕ) → (c ≡ k → ⊥) → more f k n c ≡ f c
more-other f k n c d = ap (λ (b : Bool). f c + pick b n 0) (ne_eqb c k d) ∙ omega arith

module _ {f words : ℕ → ℕ} {m least : ℕ} (s : Least f words m least) where
  pub least-same : (g : ℕ → ℕ) → ((c : ℕ) → c < m → f c ≡ g c) → Least g words m least
  least-same g e =
      record {
        bound = s.bound;
        below = λ c l h. s.below c l (let q = e c (omega (arith, s.bound, l)) in omega (arith, q, h));
        here = λ l. let a = s.here l in let q = e least l in (omega (arith, q, a.0), a.1);
      }

  still : (k n : ℕ) → ((c : ℕ) → c < least → 0 < more f k n c → words c < p) → Least (more f k n) words m least
  still k n h = record { bound = s.bound; below = h; here = λ b. let a = s.here b in (omega (arith, a.0), a.1) }

  pub least_more : (k n : ℕ) → k < m → 0 < n → Least (λ c. f c + pick (eqb c k) n 0) words m (lower_large (words k) k least)
  least_more k n l pos =
      by_le p (words k)
      (λ big. by_le least k
      (λ high. subst (Least (more f k n) words m) (sym (lower_high (words k) k least high))
      (still k n (λ c b h. let q = more-other f k n c (λ e. omega (arith, e, b, high)) in s.below c b (omega (arith, q, h)))))
      (λ low. subst (Least (more f k n) words m) (sym (lower-is (words k) k least big low))
      (record {
        bound = omega (arith, l);
        below = λ c b h. let q = more-other f k n c (λ e. omega (arith, e, b)) in s.below c (omega (arith, b, low)) (omega (arith, q, h));
        here = λ b. let q = more-there f k n in (omega (arith, q, pos), big);
      })))
      (λ small. subst (Least (more f k n) words m) (sym (lower-small (words k) k least small))
      (still k n (λ c b h. by-eq c k (λ e. subst (λ (j : ℕ). words j < p) (sym e) small) (λ d. let q = more-other f k n c d in s.below c b (omega (arith, q, h))))))

  pub least-found : least < m → first_at (large_charged f words) m ≡ some least
  least-found l = let a = s.here l in large-first f words m least l a.0 a.1 s.below

  pub least-none : m ≤ least → first_at (large_charged f words) m ≡ none
  least-none l = large-none f words m (λ c b h. s.below c (omega (arith, b, l)) h)

-- ---- counted once at least
grows : (b : Bool) (c : ℕ) → 0 < c → 0 < pick b (c + 1) c
grows true c h = omega arith
grows false c h = h

pub count-some : (t : ℕ → Bool) (n i : ℕ) → i < n → t i ≡ true → 0 < count_below t n
unfolding count_below
count-some t zero i l e = absurd (omega (arith, l))
count-some t (suc n) i l e =
    by-eq i n
    (λ q. let b : t n ≡ true = ap t (sym q) ∙ e in let r : pick (t n) (count_below t n + 1) (count_below t n) ≡ count_below t n + 1 = ap (λ (x : Bool). pick x (count_below t n + 1) (count_below t n)) b in omega (arith, r))
    (λ q. grows (t n) (count_below t n) (count-some t n i (omega (arith, l, q)) e))

pub some-counted : (t : ℕ → Bool) (n : ℕ) → 0 < count_below t n → (i : ℕ) × (i < n) × (t i ≡ true)
unfolding count_below
some-counted t zero h = absurd (omega (arith, h))
some-counted t (suc n) h = by-test (t n) refl (some-counted t n)
  where
    by-test : (b : Bool) → t n ≡ b → (0 < count_below t n → (i : ℕ) × (i < n) × (t i ≡ true)) → (i : ℕ) × (i < suc n) × (t i ≡ true)
    by-test true e again = (n, le_refl (suc n), e)
    by-test false e again =
        let r : pick (t n) (count_below t n + 1) (count_below t n) ≡ count_below t n = ap (λ (x : Bool). pick x (count_below t n + 1) (count_below t n)) e in
        let x = again (omega (arith, r, h)) in
        (x.0, omega (arith, x.1), x.2)
