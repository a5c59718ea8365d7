-- An ascending list by its runs of equal words.
use mathlib.Core.Path.{◌≡◌, refl, sym, ap, ap₂, subst, ◌∙◌}
use mathlib.Core.Bool.{Bool, true, false}
use mathlib.Core.List.{List, [], ◌∷◌, ◌++◌}
use Prim.Native.Nat.{ℕ, zero, suc, ◌+◌, ◌≤◌}
use native.Mathlib.Omega.{arith}
use borrow.Author.Tests.{eq-eqb, ne_eqb}
use lib.Dec.{eqb}
use lib.ListN.{length, drop, replicate}
use Rattle.lists.specs.Tab.{pick}
use Rattle.lists.proofs.Then.{by_le}
use Rattle.sort.specs.Sorted.{copies}
use Rattle.sort.proofs.Words.{Least, Asc, least-le, copies-below}
use Rattle.is_wh_rows.specs.Rows.{place, distinct}
use Rattle.is_wh_rows.proofs.Distinct.{place_same, place-least, least-distinct}

pub copies-yes : (x y : ℕ) (l : List ℕ) → x ≡ y → copies x (y ∷ l) ≡ 1 + copies x l
unfolding copies
copies-yes x y l e = rw (eq-eqb x y e)

pub copies-no : (x y : ℕ) (l : List ℕ) → (x ≡ y → ⊥) → copies x (y ∷ l) ≡ copies x l
unfolding copies
copies-no x y l e = rw (ne_eqb x y e) (omega arith)

pub copies-le : (x : ℕ) (l : List ℕ) → copies x l ≤ length l
unfolding copies
copies-le x [] = omega arith
copies-le x (y ∷ l) = go (eqb x y) (copies-le x l)
  where
    go : (b : Bool) → copies x l ≤ length l → pick b 1 0 + copies x l ≤ suc (length l)
    go true h = omega arith
    go false h = omega arith

-- ---- the run of x in front of an ascending list

pub record Split (x : ℕ) (l : List ℕ) (n : ℕ) : Type 0 where
  pub is : l ≡ replicate n x ++ drop n l
  pub later : Least (suc x) (drop n l)

split : (x : ℕ) (l : List ℕ) → Asc (x ∷ l) → Split x l (copies x l)
unfolding copies
split x [] h = record { is = refl; later = tt }
split x (y ∷ l) h = go (split x l (h.0.1, h.1.1))
  where
    go : Split x l (copies x l) → Split x (y ∷ l) (copies x (y ∷ l))
    go s =
        by_le y x
        (λ k.
        let e : x ≡ y = omega (arith, h.0.0) in
        let q : copies x (y ∷ l) ≡ suc (copies x l) = omega (arith, copies-yes x y l e) in
        subst (Split x (y ∷ l)) (sym q) (record { is = ap₂ (λ (a : ℕ) (r : List ℕ). a ∷ r) (sym e) s.is; later = s.later }))
        (λ k.
        let q : copies x (y ∷ l) ≡ 0 = copies-below x y (y ∷ l) k (omega arith, h.1.0) in
        subst (Split x (y ∷ l)) (sym q) (record { is = refl; later = (k, least-le (suc x) y l k h.1.0) }))

-- ---- a list that begins with a run

module _ (x : ℕ) (rest : List ℕ) (later : Least (suc x) rest) where
  distinct-run : (m : ℕ) → distinct (x ∷ (replicate m x ++ rest)) ≡ x ∷ distinct rest
  unfolding distinct
  distinct-run zero = place-least x (distinct rest) (least-distinct (suc x) rest later)
  distinct-run (suc m) = ap (place x) (distinct-run m) ∙ place_same x x (distinct rest) refl

-- the distinct words of an ascending list: the first, and then those behind its run
pub distinct-front : (x : ℕ) (l : List ℕ) → Asc (x ∷ l) → distinct (x ∷ l) ≡ x ∷ distinct (drop (copies x (x ∷ l)) (x ∷ l))
distinct-front x l h =
    let n = copies x l in
    let s = split x l h in
    let q : copies x (x ∷ l) ≡ suc n = omega (arith, copies-yes x x l refl) in
    ap (λ (r : List ℕ). distinct (x ∷ r)) s.is
    ∙ distinct-run x (drop n l) s.later n
    ∙ ap (λ (k : ℕ). x ∷ distinct (drop k (x ∷ l))) (sym q)

pub later-front : (x : ℕ) (l : List ℕ) → Asc (x ∷ l) → Least (suc x) (drop (copies x (x ∷ l)) (x ∷ l))
later-front x l h =
    let q : copies x (x ∷ l) ≡ suc (copies x l) = omega (arith, copies-yes x x l refl) in
    subst (λ (k : ℕ). Least (suc x) (drop k (x ∷ l))) (sym q) (split x l h).later

pub asc-drop : (l : List ℕ) (i : ℕ) → Asc l → Asc (drop i l)
asc-drop [] zero h = tt
asc-drop [] (suc i) h = tt
asc-drop (x ∷ l) zero h = h
asc-drop (x ∷ l) (suc i) h = asc-drop l i h.1
