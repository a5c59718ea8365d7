-- Laws of `place`, `distinct` and `rows_of`: the rows do not depend on the order of the list.
use mathlib.Core.Path.{◌≡◌, refl, sym, ap, ap₂, ◌∙◌}
use mathlib.Core.Bool.{Bool, true, false}
use mathlib.Core.List.{List, [], ◌∷◌, ◌++◌}
use Prim.Native.Nat.{ℕ, suc, ◌≤◌, ◌<◌}
use native.Mathlib.Omega.{arith}
use borrow.Author.Tests.{lt-ltb, le-ltb, eq-eqb, ne_eqb}
use lib.Dec.{eqb, ltb}
use Rattle.lists.specs.Tab.{pick}
use Rattle.lists.proofs.Then.{by_le}
use Rattle.sort.specs.Sorted.{insert_by, sorted_by, insert, sorted}
use Rattle.sort.proofs.Words.{Least}
use Rattle.is_wh_rows.specs.Rows.{Row, place, distinct, key_rows, rows_for}

-- x before, at or past the first word
pub place-before : (x y : ℕ) (ys : List ℕ) → x < y → place x (y ∷ ys) ≡ x ∷ y ∷ ys
unfolding place
place-before x y ys l = rw (lt-ltb x y l)

pub place_same : (x y : ℕ) (ys : List ℕ) → x ≡ y → place x (y ∷ ys) ≡ y ∷ ys
unfolding place
place_same x y ys e = rw (le-ltb x y (omega arith), eq-eqb x y e)

pub place-past : (x y : ℕ) (ys : List ℕ) → y < x → place x (y ∷ ys) ≡ y ∷ place x ys
unfolding place
place-past x y ys l = rw (le-ltb x y (omega arith), ne_eqb x y (λ e. omega arith))

pub place_none : (x : ℕ) → place x [] ≡ x ∷ []
unfolding place
place_none x = refl

pub by_order : {P : Type 0} (x y : ℕ) → (x < y → P) → (x ≡ y → P) → (y < x → P) → P
by_order x y f g h = by_le x y (λ l. by_le y x (λ m. g (omega arith)) f) h

-- x below y
place-two : (x y : ℕ) (l : List ℕ) → x < y → place x (place y l) ≡ place y (place x l)
place-two x y [] l =
    ap (place x) (place_none y)
    ∙ place-before x y [] l
    ∙ sym (ap (place y) (place_none x) ∙ place-past y x [] l ∙ ap (λ (r : List ℕ). x ∷ r) (place_none y))
place-two x y (z ∷ zs) l = go (place-two x y zs l)
  where
    before : x < z → {r : List ℕ} → place y (z ∷ zs) ≡ r → place y (place x (z ∷ zs)) ≡ x ∷ r
    before h e = ap (place y) (place-before x z zs h) ∙ place-past y x (z ∷ zs) l ∙ ap (λ (r : List ℕ). x ∷ r) e

    go : place x (place y zs) ≡ place y (place x zs) → place x (place y (z ∷ zs)) ≡ place y (place x (z ∷ zs))
    go ih =
        by_order y z
        (λ h. let e = place-before y z zs h in
        ap (place x) e ∙ place-before x y (z ∷ zs) l ∙ sym (before (omega arith) e))
        (λ h. let e = place_same y z zs h in
        let k : x < z = omega arith in
        ap (place x) e ∙ place-before x z zs k ∙ sym (before k e))
        (λ h. let e = place-past y z zs h in
        ap (place x) e
        ∙ by_order x z
        (λ k. place-before x z (place y zs) k ∙ sym (before k e))
        (λ k. place_same x z (place y zs) k ∙ sym (ap (place y) (place_same x z zs k) ∙ e))
        (λ k. place-past x z (place y zs) k ∙ ap (λ (r : List ℕ). z ∷ r) ih ∙ sym (ap (place y) (place-past x z zs k) ∙ place-past y z (place x zs) h)))

pub place-comm : (x y : ℕ) (l : List ℕ) → place x (place y l) ≡ place y (place x l)
place-comm x y l =
    by_order x y (place-two x y l) (λ e. ap₂ (λ (a b : ℕ). place a (place b l)) e (sym e)) (λ h. sym (place-two y x l h))

-- ---- distinct

distinct-insert : (x : ℕ) (l : List ℕ) → distinct (insert x l) ≡ place x (distinct l)
unfolding insert_by distinct
distinct-insert x [] = refl
distinct-insert x (y ∷ l) = go (ltb y x) (distinct-insert x l)
  where
    go : (b : Bool) → distinct (insert x l) ≡ place x (distinct l) → distinct (pick b (y ∷ insert x l) (x ∷ y ∷ l)) ≡ place x (place y (distinct l))
    go true e = ap (place y) e ∙ place-comm y x (distinct l)
    go false e = refl

pub distinct-sorted : (l : List ℕ) → distinct (sorted l) ≡ distinct l
unfolding sorted_by distinct
distinct-sorted [] = refl
distinct-sorted (x ∷ l) = distinct-insert x (sorted l) ∙ ap (place x) (distinct-sorted l)

pub place-least : (x : ℕ) (l : List ℕ) → Least (suc x) l → place x l ≡ x ∷ l
place-least x [] h = place_none x
place-least x (y ∷ l) h = place-before x y l h.0

pub least-place : (x y : ℕ) (l : List ℕ) → x ≤ y → Least x l → Least x (place y l)
unfolding place
least-place x y [] h k = (h, tt)
least-place x y (z ∷ l) h k = go (ltb y z) (eqb y z) (least-place x y l h k.1)
  where
    go : (a b : Bool) → Least x (place y l) → Least x (pick a (y ∷ z ∷ l) (pick b (z ∷ l) (z ∷ place y l)))
    go true b m = (h, k)
    go false true m = k
    go false false m = (k.0, m)

pub least-distinct : (x : ℕ) (l : List ℕ) → Least x l → Least x (distinct l)
unfolding distinct
least-distinct x [] h = tt
least-distinct x (y ∷ l) h = least-place x y (distinct l) h.0 (least-distinct x l h.1)

least_zero : (l : List ℕ) → Least 0 l
least_zero [] = tt
least_zero (x ∷ l) = (omega arith, least_zero l)

-- ---- rows

pub rows_for-same : (f g : ℕ → ℕ) (ks : List ℕ) (x : ℕ) → Least x ks → ((k : ℕ) → x ≤ k → f k ≡ g k) → rows_for f ks ≡ rows_for g ks
unfolding rows_for
rows_for-same f g [] x l h = refl
rows_for-same f g (k ∷ ks) x l h = ap₂ (λ (n : ℕ) (r : List Row). key_rows k n ++ r) (h k l.0) (rows_for-same f g ks x l.1 h)

pub rows-by : (f g : ℕ → ℕ) (ks : List ℕ) → ((k : ℕ) → f k ≡ g k) → rows_for f ks ≡ rows_for g ks
rows-by f g ks h = rows_for-same f g ks 0 (least_zero ks) (λ k l. h k)

-- ---- a word behind, and a word twice

pub distinct_snoc : (l : List ℕ) (c : ℕ) → distinct (l ++ (c ∷ [])) ≡ place c (distinct l)
unfolding distinct
distinct_snoc [] c = refl
distinct_snoc (x ∷ l) c = ap (place x) (distinct_snoc l c) ∙ place-comm x c (distinct l)

pub place_twice : (c : ℕ) (l : List ℕ) → place c (place c l) ≡ place c l
place_twice c [] = ap (place c) (place_none c) ∙ place_same c c [] refl ∙ sym (place_none c)
place_twice c (y ∷ l) = go (place_twice c l)
  where
    go : place c (place c l) ≡ place c l → place c (place c (y ∷ l)) ≡ place c (y ∷ l)
    go e =
        by_order c y
        (λ h. let q = place-before c y l h in
        ap (place c) q ∙ place_same c c (y ∷ l) refl ∙ sym q)
        (λ h. ap (place c) (place_same c y l h))
        (λ h. let q = place-past c y l h in
        ap (place c) q ∙ place-past c y (place c l) h ∙ ap (λ (r : List ℕ). y ∷ r) e ∙ sym q)
