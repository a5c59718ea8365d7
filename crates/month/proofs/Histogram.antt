-- The files at each height: counted file by file, and all of them together are the files.
use mathlib.Core.Path.{◌≡◌, refl, sym, ap, ◌∙◌}
use mathlib.Core.Bool.{Bool, true, false}
use mathlib.Core.List.{List, [], ◌∷◌}
use Prim.Native.Nat.{ℕ, ◌+◌, ◌≤◌, ◌<◌}
use native.Mathlib.Nat.{mul-one}
use native.Mathlib.Omega.{arith}
use borrow.Author.Tests.{eq-eqb, ne_eqb}
use lib.Dec.{eqb}
use lib.ListN.{length, set, length-set}
use lib.Seq.{get_or-set_same, get_or-set_other}
use Rattle.lists.specs.Tab.{pick, tab, tab_from, word}
use Rattle.lists.specs.First.{count_below}
use Rattle.lists.specs.Sum.{sum_below}
use Rattle.lists.proofs.Count.{sum-tests}
use Rattle.lists.proofs.First.{count-more, count-skip, count-le}
use Rattle.lists.proofs.Kept.{by-eq}
use Rattle.lists.proofs.Laws.{length-tab, get_d-tab, tab-same, list-tab}
use Rattle.lists.proofs.Sum.{sum_same, sum-const, sum-swap, sum-place}
use Rattle.month.specs.Month.{HEIGHTS, height_of, total_at, files_at, Planned}
use Rattle.month.proofs.Heights.{height-one, height-is}

-- whether file i's table has this height; how many of the first i have each height
abbrev is_at : ℕ → ℕ → List ℕ → ℕ → ℕ → Bool
is_at nr floor counts h i = eqb (total_at nr floor counts i) h

unfoldable pub up_to : ℕ → ℕ → List ℕ → ℕ → List ℕ
up_to nr floor counts i = tab HEIGHTS (λ e. count_below (is_at nr floor counts (height_of e)) i)

module _ (nr floor : ℕ) (counts : List ℕ) where
  -- ---- a loop that counts
  pub counts-none :
      0 ∷ 0 ∷ 0 ∷ 0 ∷ 0 ∷ 0 ∷ 0 ∷ 0 ∷ 0 ∷ 0 ∷ 0 ∷ 0 ∷ 0 ∷ 0 ∷ 0 ∷ 0 ∷ 0 ∷ 0 ∷ 0 ∷ 0 ∷ 0 ∷ 0 ∷ 0 ∷ 0 ∷ 0 ∷ 0 ∷ 0 ∷ 0 ∷ 0 ∷ 0 ∷ [] ≡ up_to nr floor counts 0
  unfolding up_to tab tab_from count_below
  counts-none = refl

  module _ {files : List ℕ} (i : ℕ) (so_far : files ≡ up_to nr floor counts i) where
    pub counts-long : length files ≡ HEIGHTS
    unfolding up_to
    counts-long = ap length so_far ∙ length-tab HEIGHTS (λ e. count_below (is_at nr floor counts (height_of e)) i)

    counts-at : (e : ℕ) → e < HEIGHTS → word files e ≡ count_below (is_at nr floor counts (height_of e)) i
    unfolding up_to
    counts-at e l = ap (λ (f : List ℕ). word f e) so_far ∙ get_d-tab HEIGHTS (λ e. count_below (is_at nr floor counts (height_of e)) i) e 0 l

    pub counts-most : (e : ℕ) → e < HEIGHTS → word files e ≤ i
    counts-most e l = omega (arith, counts-at e l, count-le (is_at nr floor counts (height_of e)) i)

    pub counts-more : {e : ℕ} → e < HEIGHTS → total_at nr floor counts i ≡ height_of e → set files e (word files e + 1) ≡ up_to nr floor counts (i + 1)
    unfolding up_to
    counts-more {e} l q =
        list-tab (set files e (word files e + 1)) HEIGHTS (length-set files e (word files e + 1) ∙ counts-long)
        ∙ tab-same HEIGHTS (word (set files e (word files e + 1))) (λ k. count_below (is_at nr floor counts (height_of k)) (i + 1)) cell
      where
        cell : (k : ℕ) → k < HEIGHTS → word (set files e (word files e + 1)) k ≡ count_below (is_at nr floor counts (height_of k)) (i + 1)
        cell k b =
            by-eq k e
            (λ p.
            let at : is_at nr floor counts (height_of k) i ≡ true = eq-eqb _ _ (q ∙ ap height_of (sym p)) in
            let long : e < length files = omega (arith, counts-long, l) in
            ap (word (set files e (word files e + 1))) p
            ∙ get_or-set_same files e (word files e + 1) 0 long
            ∙ ap (λ (j : ℕ). word files j + 1) (sym p)
            ∙ ap (λ (n : ℕ). n + 1) (counts-at k b)
            ∙ sym (count-more (is_at nr floor counts (height_of k)) i at))
            (λ p.
            let off : is_at nr floor counts (height_of k) i ≡ false = ne_eqb _ _ (λ z. p (height-one k e (sym z ∙ q))) in
            get_or-set_other files e k (word files e + 1) 0 p ∙ counts-at k b ∙ sym (count-skip (is_at nr floor counts (height_of k)) i off))

  pub counts_all : {files : List ℕ} (i : ℕ) → files ≡ up_to nr floor counts i → i ≤ length counts → length counts ≤ i → files ≡ tab HEIGHTS (λ e. files_at nr floor counts (height_of e))
  unfolding up_to files_at
  counts_all i h l g = let e : i ≡ length counts = omega arith in h ∙ ap (up_to nr floor counts) e

  -- ---- all files: each is at one height
  module _ (p : Planned nr floor counts) where
    one_each : (i : ℕ) → i < length counts → sum_below HEIGHTS (λ e. pick (is_at nr floor counts (height_of e) i) 1 0) ≡ 1
    one_each i l =
        let x = height-is nr floor (word counts i) p.most-rounds p.power (p.each i l) in
        sum-place HEIGHTS x.0 _ x.1
        (λ j b n. ap (λ (t : Bool). pick t 1 0) (ne_eqb (total_at nr floor counts i) (height_of j) (λ q. n (height-one j x.0 (sym q ∙ x.2)))))
        ∙ ap (λ (t : Bool). pick t 1 0) (eq-eqb (total_at nr floor counts i) (height_of x.0) x.2)

    pub heights-sum : sum_below HEIGHTS (λ e. files_at nr floor counts (height_of e)) ≡ length counts
    unfolding files_at
    heights-sum =
        sum_same HEIGHTS _ _ (λ e l. sym (sum-tests (is_at nr floor counts (height_of e)) (length counts)))
        ∙ sum-swap HEIGHTS (length counts) (λ e i. pick (is_at nr floor counts (height_of e) i) 1 0)
        ∙ sum_same (length counts) _ (λ i. 1) one_each
        ∙ sum-const (length counts) 1
        ∙ mul-one (length counts)
