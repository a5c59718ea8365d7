-- What the scans along the records and along the rows cite.
--     Counted     a count from an index on
--     Left        how many may still come, of a number that is counted down
--     stands-next, stands-long, stands-cells     record after record of a file without a fault
--     held-record     whether the file's run holds something at a record
use mathlib.Core.Path.{◌≡◌, sym, ap, subst, ◌∙◌}
use mathlib.Core.Bool.{Bool, true, false}
use mathlib.Core.List.{List, []}
use Prim.Native.Nat.{ℕ, ◌+◌, ◌-◌, ◌≤◌, ◌<◌}
use native.Mathlib.Omega.{arith}
use borrow.Author.Tests.{lt-ltb, le-ltb}
use lib.Dec.{T, ltb}
use lib.ListN.{length, drop, get_or}
use Rattle.lists.specs.First.{count_below}
use Rattle.lists.specs.Select.{words_test}
use Rattle.lists.proofs.First.{count-more, count-skip, count-le}
use Rattle.lists.proofs.Select.{words_same_lem, words-sound}
use Rattle.lists.proofs.Tests.{T_of}
use Rattle.lists.proofs.Then.{T_true}
use Rattle.op_file.specs.File.{is_marked, size_of, records_of, start_at}
use Rattle.op_file.proofs.Starts.{file-reached}
use Rattle.op_file.proofs.Steps.{size-least}
use Rattle.partners.specs.Partners.{holds_at, count_between}
use Rattle.partners.proofs.Counts.{count-up, between_is}
use Rattle.same_operations.specs.Same.{record_cells, file_run}
use Rattle.same_operations.specs.Passed.{Stands}
use Rattle.same_operations.proofs.Equal.{either, first-cells}

-- ---- counts from index a on
-- n of the indices from a on and before k pass
pub record Counted (t : ℕ → Bool) (a k n : ℕ) : Type 0 where
  pub is : n + count_below t a ≡ count_below t k

pub counted_none : (t : ℕ → Bool) (a : ℕ) → Counted t a a 0
counted_none t a = record { is = omega arith }

module _ {t : ℕ → Bool} {a k n : ℕ} (h : Counted t a k n) where
  pub counted-more : {m : ℕ} → m ≡ n + 1 → t k ≡ true → Counted t a (k + 1) m
  counted-more e b = record { is = omega (arith, h.is, count-more t k b) }

  pub counted_skip : {m : ℕ} → m ≡ n → t k ≡ false → Counted t a (k + 1) m
  counted_skip e b = record { is = omega (arith, h.is, count-skip t k b) }

  pub counted-le : n ≤ k
  counted-le = omega (arith, h.is, count-le t k)

  pub counted_is : (i : ℕ) → a ≤ i → k ≤ i → i ≤ k → n ≡ count_between t a i
  counted_is i l g d = let e : k ≡ i = omega arith in omega (arith, h.is, between_is t a i l, ap (count_below t) e)

-- of c, `left` may still come
pub record Left (t : ℕ → Bool) (a c k left : ℕ) : Type 0 where
  pub is : count_below t k + left ≡ c + count_below t a

pub left-all : (t : ℕ → Bool) (a c : ℕ) → Left t a c a c
left-all t a c = record { is = omega arith }

module _ {t : ℕ → Bool} {a c k left : ℕ} (h : Left t a c k left) where
  pub left-more : {m : ℕ} → m ≡ left - 1 → (left ≡ 0 → ⊥) → t k ≡ true → Left t a c (k + 1) m
  left-more e z b = let g : 0 < left = omega arith in record { is = omega (arith, h.is, g, count-more t k b) }

  pub left-skip : {m : ℕ} → m ≡ left → t k ≡ false → Left t a c (k + 1) m
  left-skip e b = record { is = omega (arith, h.is, count-skip t k b) }

  pub left_over : (n : ℕ) → a ≤ k → k < n → left ≡ 0 → t k ≡ true → true ≡ ltb c (count_between t a n)
  left_over n d g z b = sym (lt-ltb c (count_between t a n) (omega (arith, h.is, count-more t k b, count-up t (k + 1) n (omega arith), between_is t a n (omega arith))))

  pub left-enough : (n : ℕ) → a ≤ n → k ≤ n → n ≤ k → false ≡ ltb c (count_between t a n)
  left-enough n d g z = let e : k ≡ n = omega arith in sym (le-ltb c (count_between t a n) (omega (arith, h.is, between_is t a n d, ap (count_below t) e)))

-- ---- record after record
module _ (file : List ℕ) {i from : ℕ} (s : Stands file i from) (l : i < length (records_of file)) where
  pub stands-long : from + size_of (drop from file) ≤ length file
  stands-long = subst (λ (k : ℕ). k + size_of (drop k file) ≤ length file) (sym s.starts) (file-reached file s.right i l).long

  pub stands-enough : from + 418 ≤ length file
  stands-enough = omega (arith, stands-long, size-least (is_marked (drop from file)))

  pub stands-next : {to : ℕ} → to ≡ from + size_of (drop from file) → Stands file (i + 1) to
  stands-next e =
      record {
        right = s.right;
        there = omega (arith, l);
        starts = e ∙ ap (λ (k : ℕ). k + size_of (drop k file)) s.starts ∙ sym (file-reached file s.right i l).next;
      }

  pub stands-cells : record_cells (drop from file) ≡ record_cells (get_or (records_of file) i [])
  stands-cells =
      ap (λ (k : ℕ). record_cells (drop k file)) s.starts
      ∙ sym (first-cells (drop (start_at (records_of file) i) file))
      ∙ ap record_cells (sym (file-reached file s.right i l).there)

  pub held-record : (x : List ℕ) {b : Bool} → b ≡ words_test x (record_cells (drop from file)) → b ≡ holds_at (file_run file) x i
  unfolding holds_at file_run
  held-record x e = e ∙ ap (words_test x) stands-cells

-- ---- equality the other way round
pub words-turn : (x y : List ℕ) → words_test x y ≡ words_test y x
words-turn x y = either _ _ (turn x y) (turn y x)
  where
    turn : (x y : List ℕ) → words_test x y ≡ true → words_test y x ≡ true
    turn x y e = T_true _ (subst (λ (z : List ℕ). T (words_test z x)) (words-sound x y (T_of _ e)) (words_same_lem x))
