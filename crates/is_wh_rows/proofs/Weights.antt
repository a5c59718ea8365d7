-- Loads say of their keys what the codes say: how often each occurs, which there are, and so which rows.
use mathlib.Core.Path.{◌≡◌, refl, sym, ap, ap₂, subst, ◌∙◌}
use mathlib.Core.Bool.{Bool, true, false, ◌&&◌}
use mathlib.Core.List.{List, [], ◌∷◌, ◌++◌}
use Prim.Native.Nat.{ℕ, zero, suc, ◌+◌, ◌-◌, ◌*◌, ◌/◌, ◌%◌, ◌≤◌, ◌<◌}
use native.Mathlib.Nat.{add_assoc}
use native.Mathlib.Numerals.{add-one}
use native.Mathlib.Omega.{arith}
use borrow.Author.Tests.{ltb-true, eqb-true, eq-eqb, ne_eqb}
use lib.Dec.{eqb, ltb}
use lib.ListN.{length, take, drop, set, length-append, drop_of_length-le}
use lib.Seq.{set_split, split_at}
use Rattle.lists.specs.Tab.{pick, tab, tab_from}
use Rattle.lists.proofs.Tests.{and-true}
use Rattle.lists.proofs.Then.{by_le}
use Rattle.sort.specs.Sorted.{insert_by, sorted_by, insert, sorted, copies}
use Rattle.sort.proofs.Words.{Least, Asc, copies-below}
use Rattle.is_wh_rows.specs.Rows.{Row, place, distinct, key_rows, rows_for, rows_of}
use Rattle.is_wh_rows.specs.Loads.{last_of, joins, joined, loads_of, weight, total, codes_in, rows_in}
use Rattle.is_wh_rows.proofs.Distinct.{rows_for-same, rows-by, distinct_snoc, place_twice, place-comm, least-distinct}
use Rattle.is_wh_rows.proofs.Runs.{copies-yes, distinct-front, later-front}
use Rattle.is_wh_rows.proofs.Counts.{copies-append}
use Rattle.is_wh_rows.proofs.Flat.{tab-last}

-- ---- a load behind

weight-snoc : (k v : ℕ) (l : List ℕ) → weight k (l ++ (v ∷ [])) ≡ weight k l + pick (eqb k (v / 65536)) (v % 65536 + 1) 0
unfolding weight
weight-snoc k v [] = omega arith
weight-snoc k v (w ∷ l) =
    ap (λ (n : ℕ). pick (eqb k (w / 65536)) (w % 65536 + 1) 0 + n) (weight-snoc k v l)
    ∙ sym (add_assoc (pick (eqb k (w / 65536)) (w % 65536 + 1) 0) (weight k l) (pick (eqb k (v / 65536)) (v % 65536 + 1) 0))

total-snoc : (v : ℕ) (l : List ℕ) → total (l ++ (v ∷ [])) ≡ total l + (v % 65536 + 1)
unfolding total
total-snoc v [] = omega arith
total-snoc v (w ∷ l) = omega (arith, total-snoc v l)

codes-snoc : (v : ℕ) (l : List ℕ) → codes_in (l ++ (v ∷ [])) ≡ codes_in l ++ (v / 65536 ∷ [])
unfolding codes_in
codes-snoc v [] = refl
codes-snoc v (w ∷ l) = ap (λ (r : List ℕ). w / 65536 ∷ r) (codes-snoc v l)

distinct-in : (v : ℕ) (l : List ℕ) → distinct (codes_in (l ++ (v ∷ []))) ≡ place (v / 65536) (distinct (codes_in l))
distinct-in v l = ap distinct (codes-snoc v l) ∙ distinct_snoc (codes_in l) (v / 65536)

-- ---- one key more

-- what it does to the loads l
record Grown (l m : List ℕ) (c : ℕ) : Type 0 where
  pub weighs : (k : ℕ) → weight k m ≡ weight k l + pick (eqb k c) 1 0
  pub counts : total m ≡ total l + 1
  pub places : distinct (codes_in m) ≡ place c (distinct (codes_in l))
  pub long : length m ≤ length l + 1

new-load : (l : List ℕ) (c : ℕ) → Grown l (l ++ (c * 65536 ∷ [])) c
new-load l c =
    let q : c * 65536 / 65536 ≡ c = omega arith in
    let r : c * 65536 % 65536 + 1 ≡ 1 = omega arith in
    record {
      weighs = λ k. weight-snoc k (c * 65536) l ∙ ap₂ (λ (a b : ℕ). weight k l + pick (eqb k a) b 0) q r;
      counts = total-snoc (c * 65536) l ∙ ap (λ (n : ℕ). total l + n) r;
      places = distinct-in (c * 65536) l ∙ ap (λ (n : ℕ). place n (distinct (codes_in l))) q;
      long = omega (arith, length-append l (c * 65536 ∷ []));
    }

larger-load : (a : List ℕ) (v c : ℕ) → v / 65536 ≡ c → v % 65536 < 65535 → Grown (a ++ (v ∷ [])) (a ++ ((v + 1) ∷ [])) c
larger-load a v c e h =
    let q : (v + 1) / 65536 ≡ c = omega arith in
    let r : (v + 1) % 65536 + 1 ≡ v % 65536 + 1 + 1 = omega arith in
    record {
      weighs = λ k. weight-snoc k (v + 1) a ∙ ap₂ (λ (x y : ℕ). weight k a + pick (eqb k x) y 0) q r ∙ more k (eqb k c) ∙ ap (λ (n : ℕ). n + pick (eqb k c) 1 0) (ap (λ (x : ℕ). weight k a + pick (eqb k x) (v % 65536 + 1) 0) (sym e) ∙ sym (weight-snoc k v a));
      counts = total-snoc (v + 1) a ∙ ap (λ (n : ℕ). total a + n) r ∙ omega (arith, total-snoc v a);
      places = distinct-in (v + 1) a ∙ ap (λ (x : ℕ). place x (distinct (codes_in a))) q ∙ sym (ap (place c) (distinct-in v a ∙ ap (λ (x : ℕ). place x (distinct (codes_in a))) e) ∙ place_twice c (distinct (codes_in a)));
      long = omega (arith, length-append a (v ∷ []), length-append a ((v + 1) ∷ []));
    }
  where
    more : (k : ℕ) (b : Bool) → weight k a + pick b (v % 65536 + 1 + 1) 0 ≡ weight k a + pick b (v % 65536 + 1) 0 + pick b 1 0
    more k true = omega arith
    more k false = omega arith

joined-last : (l : List ℕ) (c : ℕ) → joins l c ≡ true → Grown l (set l (length l - 1) (last_of l + 1)) c
unfolding joins
joined-last l c e =
    let same = eqb (last_of l / 65536) c in
    let free = ltb (last_of l % 65536) 65535 in
    let a = and-true (ltb 0 (length l)) (same && free) e in
    let b = and-true same free a.1 in
    let some : 0 < length l = ltb-true 0 (length l) a.0 in
    let i = length l - 1 in
    let none : drop (suc i) l ≡ [] = (let p : length l ≤ suc (length l - 1) = omega arith in drop_of_length-le l p) in
    let there : i < length l = omega arith in
    let now-is : l ≡ take i l ++ (last_of l ∷ []) = split_at l i 0 there ∙ ap (λ (r : List ℕ). take i l ++ (last_of l) ∷ r) none in
    let then_is : set l i (last_of l + 1) ≡ take i l ++ ((last_of l + 1) ∷ []) = set_split l i (last_of l + 1) there ∙ ap (λ (r : List ℕ). take i l ++ (last_of l + 1) ∷ r) none in
    subst (λ (m : List ℕ). Grown l m c) (sym then_is) (subst (λ (m : List ℕ). Grown m (take i l ++ ((last_of l + 1) ∷ [])) c) (sym now-is) (larger-load (take i l) (last_of l) c (eqb-true (last_of l / 65536) c b.0) (ltb-true (last_of l % 65536) 65535 b.1)))

grown : (l : List ℕ) (c : ℕ) → Grown l (joined l c) c
unfolding joined
grown l c = go (joins l c) refl
  where
    go : (b : Bool) → joins l c ≡ b → Grown l (pick b (set l (length l - 1) (last_of l + 1)) (l ++ (c * 65536 ∷ []))) c
    go false e = new-load l c
    go true e = joined-last l c e

-- ---- all keys

module _ (f : ℕ → ℕ) where
  pub loads-weigh : (k n : ℕ) → weight k (loads_of f n) ≡ copies k (tab n f)
  unfolding loads_of weight copies tab tab_from
  loads-weigh k zero = refl
  loads-weigh k (suc n) =
      (grown (loads_of f n) (f n)).weighs k
      ∙ ap (λ (m : ℕ). m + pick (eqb k (f n)) 1 0) (loads-weigh k n)
      ∙ sym (ap (λ (m : ℕ). copies k (tab m f)) (sym (add-one n)) ∙ ap (copies k) (sym (tab-last n f)) ∙ copies-append k (tab n f) (f n ∷ []) ∙ ap (λ (m : ℕ). copies k (tab n f) + m) (last (pick (eqb k (f n)) 1 0)))
    where
      last : (m : ℕ) → m + 0 ≡ m
      last m = omega arith

  pub loads-total : (n : ℕ) → total (loads_of f n) ≡ n
  unfolding loads_of total
  loads-total zero = refl
  loads-total (suc n) = omega (arith, (grown (loads_of f n) (f n)).counts, loads-total n)

  pub loads-long : (n : ℕ) → length (loads_of f n) ≤ n
  unfolding loads_of
  loads-long zero = omega arith
  loads-long (suc n) = omega (arith, (grown (loads_of f n) (f n)).long, loads-long n)

  loads-distinct : (n : ℕ) → distinct (codes_in (loads_of f n)) ≡ distinct (tab n f)
  unfolding loads_of codes_in tab tab_from
  loads-distinct zero = refl
  loads-distinct (suc n) =
      (grown (loads_of f n) (f n)).places
      ∙ ap (place (f n)) (loads-distinct n)
      ∙ sym (ap (λ (m : ℕ). distinct (tab m f)) (sym (add-one n)) ∙ ap distinct (sym (tab-last n f)) ∙ distinct_snoc (tab n f) (f n))

  pub loads-rows : (n : ℕ) → rows_in (loads_of f n) ≡ rows_of (tab n f)
  unfolding rows_in rows_of
  loads-rows n = ap (rows_for (λ k. weight k (loads_of f n))) (loads-distinct n) ∙ rows-by (λ k. weight k (loads_of f n)) (λ k. copies k (tab n f)) (distinct (tab n f)) (λ k. loads-weigh k n)

-- ---- sorted

weight-insert : (k x : ℕ) (l : List ℕ) → weight k (insert x l) ≡ pick (eqb k (x / 65536)) (x % 65536 + 1) 0 + weight k l
unfolding insert_by weight
weight-insert k x [] = refl
weight-insert k x (y ∷ l) = go (ltb y x) (weight-insert k x l)
  where
    go : (b : Bool) → weight k (insert x l) ≡ pick (eqb k (x / 65536)) (x % 65536 + 1) 0 + weight k l
        → weight k (pick b (y ∷ insert x l) (x ∷ y ∷ l)) ≡ pick (eqb k (x / 65536)) (x % 65536 + 1) 0 + (pick (eqb k (y / 65536)) (y % 65536 + 1) 0 + weight k l)
    go true e = omega arith
    go false e = refl

weight-sorted : (k : ℕ) (l : List ℕ) → weight k (sorted l) ≡ weight k l
unfolding sorted_by weight
weight-sorted k [] = refl
weight-sorted k (x ∷ l) = weight-insert k x (sorted l) ∙ ap (λ (n : ℕ). pick (eqb k (x / 65536)) (x % 65536 + 1) 0 + n) (weight-sorted k l)

total-insert : (x : ℕ) (l : List ℕ) → total (insert x l) ≡ x % 65536 + 1 + total l
unfolding insert_by total
total-insert x [] = refl
total-insert x (y ∷ l) = go (ltb y x) (total-insert x l)
  where
    go : (b : Bool) → total (insert x l) ≡ x % 65536 + 1 + total l → total (pick b (y ∷ insert x l) (x ∷ y ∷ l)) ≡ x % 65536 + 1 + (y % 65536 + 1 + total l)
    go true e = omega arith
    go false e = refl

pub total-sorted : (l : List ℕ) → total (sorted l) ≡ total l
unfolding sorted_by total
total-sorted [] = refl
total-sorted (x ∷ l) = total-insert x (sorted l) ∙ ap (λ (n : ℕ). x % 65536 + 1 + n) (total-sorted l)

distinct-inserted : (x : ℕ) (l : List ℕ) → distinct (codes_in (insert x l)) ≡ place (x / 65536) (distinct (codes_in l))
unfolding insert_by codes_in distinct
distinct-inserted x [] = refl
distinct-inserted x (y ∷ l) = go (ltb y x) (distinct-inserted x l)
  where
    go : (b : Bool) → distinct (codes_in (insert x l)) ≡ place (x / 65536) (distinct (codes_in l))
        → distinct (codes_in (pick b (y ∷ insert x l) (x ∷ y ∷ l))) ≡ place (x / 65536) (place (y / 65536) (distinct (codes_in l)))
    go true e = ap (place (y / 65536)) e ∙ place-comm (y / 65536) (x / 65536) (distinct (codes_in l))
    go false e = refl

distinct-sorted-in : (l : List ℕ) → distinct (codes_in (sorted l)) ≡ distinct (codes_in l)
unfolding sorted_by codes_in distinct
distinct-sorted-in [] = refl
distinct-sorted-in (x ∷ l) = distinct-inserted x (sorted l) ∙ ap (place (x / 65536)) (distinct-sorted-in l)

pub rows-sorted : (l : List ℕ) → rows_in (sorted l) ≡ rows_in l
unfolding rows_in
rows-sorted l = ap (rows_for (λ k. weight k (sorted l))) (distinct-sorted-in l) ∙ rows-by (λ k. weight k (sorted l)) (λ k. weight k l) (distinct (codes_in l)) (λ k. weight-sorted k l)

-- ---- ascending loads, by the runs of their codes

least-codes : (w : ℕ) (l : List ℕ) → Least w l → Least (w / 65536) (codes_in l)
unfolding codes_in
least-codes w [] h = tt
least-codes w (v ∷ l) h = let a = h.0 in (omega arith, least-codes w l h.1)

pub asc-codes : (l : List ℕ) → Asc l → Asc (codes_in l)
unfolding codes_in
asc-codes [] h = tt
asc-codes (w ∷ l) h = (least-codes w l h.0, asc-codes l h.1)

pub codes-drop : (l : List ℕ) (n : ℕ) → codes_in (drop n l) ≡ drop n (codes_in l)
unfolding codes_in
codes-drop [] zero = refl
codes-drop [] (suc n) = refl
codes-drop (w ∷ l) zero = refl
codes-drop (w ∷ l) (suc n) = codes-drop l n

pub weight-yes : (x w : ℕ) (l : List ℕ) → x ≡ w / 65536 → weight x (w ∷ l) ≡ w % 65536 + 1 + weight x l
unfolding weight
weight-yes x w l e = rw (eq-eqb x (w / 65536) e)

pub weight-no : (x w : ℕ) (l : List ℕ) → (x ≡ w / 65536 → ⊥) → weight x (w ∷ l) ≡ weight x l
unfolding weight
weight-no x w l e = rw (ne_eqb x (w / 65536) e) (omega arith)

weight-later : (x k : ℕ) (l : List ℕ) → Asc (x ∷ codes_in l) → suc x ≤ k → weight k l ≡ weight k (drop (copies x (codes_in l)) l)
unfolding codes_in copies
weight-later x k [] h m = refl
weight-later x k (w ∷ l) h m = go (weight-later x k l (h.0.1, h.1.1) m)
  where
    go : weight k l ≡ weight k (drop (copies x (codes_in l)) l) → weight k (w ∷ l) ≡ weight k (drop (copies x (w / 65536 ∷ codes_in l)) (w ∷ l))
    go ih =
        by_le (w / 65536) x
        (λ b.
        let e : x ≡ w / 65536 = omega (arith, h.0.0) in
        let q : copies x (w / 65536 ∷ codes_in l) ≡ suc (copies x (codes_in l)) = omega (arith, copies-yes x (w / 65536) (codes_in l) e) in
        weight-no k w l (λ z. omega arith) ∙ ih ∙ ap (λ (n : ℕ). weight k (drop n (w ∷ l))) (sym q))
        (λ b.
        let q : copies x (w / 65536 ∷ codes_in l) ≡ 0 = copies-below x (w / 65536) (w / 65536 ∷ codes_in l) b (omega arith, h.1.0) in
        ap (λ (n : ℕ). weight k (drop n (w ∷ l))) (sym q))

pub rows-front : (w : ℕ) (l : List ℕ) → Asc (codes_in (w ∷ l))
    → rows_in (w ∷ l) ≡ key_rows (w / 65536) (weight (w / 65536) (w ∷ l)) ++ rows_in (drop (copies (w / 65536) (codes_in (w ∷ l))) (w ∷ l))
unfolding rows_in rows_for codes_in
rows-front w l h =
    let x = w / 65536 in
    let n = copies x (x ∷ codes_in l) in
    let behind = drop n (x ∷ codes_in l) in
    let q : copies x (x ∷ codes_in l) ≡ suc (copies x (codes_in l)) = omega (arith, copies-yes x x (codes_in l) refl) in
    ap (rows_for (λ k. weight k (w ∷ l))) (distinct-front x (codes_in l) h)
    ∙ ap (λ (r : List Row). key_rows x (weight x (w ∷ l)) ++ r)
    (rows_for-same (λ k. weight k (w ∷ l)) (λ k. weight k (drop n (w ∷ l))) (distinct behind) (suc x) (least-distinct (suc x) behind (later-front x (codes_in l) h))
    (λ k m. weight-no k w l (λ z. omega arith) ∙ weight-later x k l h m ∙ ap (λ (j : ℕ). weight k (drop j (w ∷ l))) (sym q))
    ∙ ap (λ (r : List ℕ). rows_for (λ k. weight k (drop n (w ∷ l))) (distinct r)) (sym (codes-drop (w ∷ l) n)))
