-- The rows of a pair count together how often it is among the keys.
use mathlib.Core.Path.{◌≡◌, refl, sym, ap, ap₂, subst, ◌∙◌}
use mathlib.Core.Bool.{Bool, true, false, ◌&&◌}
use mathlib.Core.Logic.{◌⊎◌, inl, inr, ⊎_elim}
use mathlib.Core.Option.{none}
use mathlib.Core.List.{List, [], ◌∷◌, ◌++◌}
use Prim.Native.Nat.{ℕ, zero, suc, ◌+◌, ◌-◌, ◌*◌, ◌/◌, ◌%◌, ◌≤◌, ◌<◌, min}
use native.Mathlib.Nat.{add_assoc}
use native.Mathlib.Numerals.{add-one}
use native.Mathlib.Omega.{arith}
use borrow.Author.Tests.{eq-eqb, ne_eqb, eqb-true}
use lib.Dec.{eqb}
use lib.ListN.{length}
use Rattle.lists.specs.Tab.{pick, tab, tab_from, word}
use Rattle.lists.specs.First.{first_at, count_below}
use Rattle.lists.proofs.Count.{count_same}
use Rattle.lists.proofs.Tests.{true-and, false-and}
use Rattle.lists.proofs.Then.{by_le}
use Rattle.sort.specs.Sorted.{copies}
use Rattle.sort.proofs.Unique.{copies-none}
use Rattle.sort.proofs.Words.{Least, least-le, copies-below}
use Rattle.is_wh_rows.specs.Rows.{Row, MU-MAX, key_code, codes, place, distinct, row_of, rows_needed, mu_of, key_rows, rows_for, rows_of}
use Rattle.is_wh_rows.specs.Lists.{bad_at}
use Rattle.is_wh_rows.specs.Meaning.{times_sent, times_counted}
use Rattle.is_wh_rows.proofs.Distinct.{by_order, place-before, place_same, place-past, place_none, least-place}
use Rattle.is_wh_rows.proofs.Runs.{copies-yes, copies-no}
use Rattle.is_wh_rows.proofs.Flat.{tab-last}
use Rattle.is_wh_rows.proofs.Keys.{half-small}

-- ---- the distinct words: each once

abbrev pub Strict : List ℕ → Type 0
Strict [] = Unit {0}
Strict (x ∷ l) = Least (suc x) l × Strict l

strict_place : (x : ℕ) (l : List ℕ) → Strict l → Strict (place x l)
strict_place x [] h = subst Strict (sym (place_none x)) (tt, tt)
strict_place x (y ∷ l) h = go (strict_place x l h.1)
  where
    go : Strict (place x l) → Strict (place x (y ∷ l))
    go k =
        by_order x y
        (λ m. subst Strict (sym (place-before x y l m)) ((m, least-le (suc x) (suc y) l (omega arith) h.0), h))
        (λ m. subst Strict (sym (place_same x y l m)) h)
        (λ m. subst Strict (sym (place-past x y l m)) (least-place (suc y) x l m h.0, k))

pub strict-distinct : (l : List ℕ) → Strict (distinct l)
unfolding distinct
strict-distinct [] = tt
strict-distinct (x ∷ l) = strict_place x (distinct l) (strict-distinct l)

placed : (x : ℕ) (l : List ℕ) → Strict l → copies x (place x l) ≡ 1
placed x [] h = ap (copies x) (place_none x) ∙ copies-yes x x [] refl ∙ ap (λ (n : ℕ). 1 + n) (copies-none x)
placed x (y ∷ l) h = go (placed x l h.1)
  where
    go : copies x (place x l) ≡ 1 → copies x (place x (y ∷ l)) ≡ 1
    go e =
        by_order x y
        (λ m.
        let z : copies x (y ∷ l) ≡ 0 = copies-below x y (y ∷ l) m (omega arith, least-le y (suc y) l (omega arith) h.0) in
        ap (copies x) (place-before x y l m) ∙ copies-yes x x (y ∷ l) refl ∙ omega arith)
        (λ m.
        let z : copies x l ≡ 0 = copies-below x (suc y) l (omega arith) h.0 in
        ap (copies x) (place_same x y l m) ∙ copies-yes x y l m ∙ omega arith)
        (λ m. ap (copies x) (place-past x y l m) ∙ copies-no x y (place x l) (λ q. omega arith) ∙ e)

copies-behind : (k y : ℕ) (l m : List ℕ) → copies k l ≡ copies k m → copies k (y ∷ l) ≡ copies k (y ∷ m)
unfolding copies
copies-behind k y l m e = ap (λ (n : ℕ). pick (eqb k y) 1 0 + n) e

place_other : (k x : ℕ) (l : List ℕ) → (k ≡ x → ⊥) → copies k (place x l) ≡ copies k l
place_other k x [] h = ap (copies k) (place_none x) ∙ copies-no k x [] h
place_other k x (y ∷ l) h = go (place_other k x l h)
  where
    go : copies k (place x l) ≡ copies k l → copies k (place x (y ∷ l)) ≡ copies k (y ∷ l)
    go e =
        by_order x y
        (λ m. ap (copies k) (place-before x y l m) ∙ copies-no k x (y ∷ l) h)
        (λ m. ap (copies k) (place_same x y l m))
        (λ m. ap (copies k) (place-past x y l m) ∙ copies-behind k y (place x l) l e)

by-eq : {P : Type 0} (k x : ℕ) → (k ≡ x → P) → ((k ≡ x → ⊥) → P) → P
by-eq k x f g = by_order k x (λ m. g (λ e. omega arith)) f (λ m. g (λ e. omega arith))

-- a word is there once, or not at all
once-or-none : (k : ℕ) (l : List ℕ) → (copies k (distinct l) ≡ 1) ⊎ (copies k l ≡ 0)
unfolding distinct
once-or-none k [] = inr (copies-none k)
once-or-none k (x ∷ l) = go (once-or-none k l)
  where
    go : (copies k (distinct l) ≡ 1) ⊎ (copies k l ≡ 0) → (copies k (place x (distinct l)) ≡ 1) ⊎ (copies k (x ∷ l) ≡ 0)
    go d =
        by-eq k x
        (λ e. inl (subst (λ (y : ℕ). copies k (place y (distinct l)) ≡ 1) e (placed k (distinct l) (strict-distinct l))))
        (λ n. ⊎_elim (λ e. inl (place_other k x (distinct l) n ∙ e)) (λ e. inr (copies-no k x l n ∙ e)) d)

once : (k : ℕ) (l : List ℕ) → copies k (distinct l) * copies k l ≡ copies k l
once k l =
    ⊎_elim (λ e. ap (λ (n : ℕ). n * copies k l) e ∙ omega arith) (λ e. ap (λ (n : ℕ). copies k (distinct l) * n) e ∙ omega arith ∙ sym e) (once-or-none k l)

-- ---- the rows of a pair

-- a pair is known by its code
same-pair : (a b w h : ℕ) → b < 65536 → h < 65536 → (eqb a w && eqb b h) ≡ eqb (w * 65536 + h) (a * 65536 + b)
same-pair a b w h lb lh =
    by-eq (w * 65536 + h) (a * 65536 + b)
    (λ e. true-and (eqb a w) (eqb b h) (eq-eqb a w (omega arith)) (eq-eqb b h (omega arith)) ∙ sym (eq-eqb (w * 65536 + h) (a * 65536 + b) e))
    (λ n. false-and (eqb a w) (eqb b h) (λ t. let q : a ≡ w = eqb-true a w t in ne_eqb b h (λ e. n (omega arith))) ∙ sym (ne_eqb (w * 65536 + h) (a * 65536 + b) n))

counted-append : (w h : ℕ) (a b : List Row) → times_counted w h (a ++ b) ≡ times_counted w h a + times_counted w h b
unfolding times_counted
counted-append w h [] b = omega arith
counted-append w h (r ∷ a) b =
    ap (λ (n : ℕ). pick (eqb r.word w && eqb r.half h) r.mu 0 + n) (counted-append w h a b)
    ∙ sym (add_assoc (pick (eqb r.word w && eqb r.half h) r.mu 0) (times_counted w h a) (times_counted w h b))

one_more : (b : Bool) (n m z : ℕ) → (b ≡ true → n ≡ z) → pick b n 0 + m * z ≡ (pick b 1 0 + m) * z
one_more true n m z e = ap (λ (k : ℕ). k + m * z) (e refl) ∙ omega arith
one_more false n m z e = omega arith

module _ (w h : ℕ) (lh : h < 65536) where
  one-row : (c n : ℕ) → times_counted w h (row_of c n ∷ []) ≡ pick (eqb (w * 65536 + h) c) n 0
  unfolding times_counted
  one-row c n =
      let e : c / 65536 * 65536 + c % 65536 ≡ c = omega arith in
      ap (λ (b : Bool). pick b n 0 + 0) (same-pair (c / 65536) (c % 65536) w h (omega arith) lh ∙ ap (eqb (w * 65536 + h)) e) ∙ omega arith

  full-rows : (c n m : ℕ) → times_counted w h (tab m (λ j. row_of c (mu_of n j))) ≡ pick (eqb (w * 65536 + h) c) (min n (m * MU-MAX)) 0
  unfolding tab tab_from times_counted
  full-rows c n zero = go (eqb (w * 65536 + h) c)
    where
      go : (b : Bool) → 0 ≡ pick b (min n (0 * 1048575)) 0
      go true = omega arith
      go false = refl
  full-rows c n (suc m) =
      let f : ℕ → Row = λ j. row_of c (mu_of n j) in
      ap (λ (k : ℕ). times_counted w h (tab k f)) (sym (add-one m))
      ∙ ap (times_counted w h) (sym (tab-last m f))
      ∙ counted-append w h (tab m f) (f m ∷ [])
      ∙ ap₂ ◌+◌ (full-rows c n m) (one-row c (mu_of n m))
      ∙ go (eqb (w * 65536 + h) c)
    where
      go : (b : Bool) → pick b (min n (m * 1048575)) 0 + pick b (min 1048575 (n - m * 1048575)) 0 ≡ pick b (min n (suc m * 1048575)) 0
      go true = omega arith
      go false = omega arith

  key-counted : (c n : ℕ) → times_counted w h (key_rows c n) ≡ pick (eqb (w * 65536 + h) c) n 0
  unfolding key_rows
  key-counted c n = full-rows c n (rows_needed n) ∙ ap (λ (k : ℕ). pick (eqb (w * 65536 + h) c) k 0) whole
    where
      whole : min n (rows_needed n * MU-MAX) ≡ n
      whole = omega arith

  for-counted : (cs ks : List ℕ) → times_counted w h (rows_for (λ k. copies k cs) ks) ≡ copies (w * 65536 + h) ks * copies (w * 65536 + h) cs
  unfolding rows_for times_counted copies
  for-counted cs [] = omega arith
  for-counted cs (k ∷ ks) =
      counted-append w h (key_rows k (copies k cs)) (rows_for (λ q. copies q cs) ks) ∙ ap₂ ◌+◌ (key-counted k (copies k cs)) (for-counted cs ks)
      ∙ one_more (eqb (w * 65536 + h) k) (copies k cs) (copies (w * 65536 + h) ks) (copies (w * 65536 + h) cs) (λ e. ap (λ (n : ℕ). copies n cs) (sym (eqb-true (w * 65536 + h) k e)))

-- ---- the codes of the keys

pub copies-append : (c : ℕ) (a b : List ℕ) → copies c (a ++ b) ≡ copies c a + copies c b
unfolding copies
copies-append c [] b = omega arith
copies-append c (x ∷ a) b = ap (λ (n : ℕ). pick (eqb c x) 1 0 + n) (copies-append c a b) ∙ sym (add_assoc (pick (eqb c x) 1 0) (copies c a) (copies c b))

copies-tab : (c n : ℕ) (f : ℕ → ℕ) → copies c (tab n f) ≡ count_below (λ i. eqb c (f i)) n
unfolding tab tab_from copies count_below
copies-tab c zero f = refl
copies-tab c (suc n) f =
    ap (λ (k : ℕ). copies c (tab k f)) (sym (add-one n))
    ∙ ap (copies c) (sym (tab-last n f))
    ∙ copies-append c (tab n f) (f n ∷ [])
    ∙ ap (λ (m : ℕ). m + (pick (eqb c (f n)) 1 0 + 0)) (copies-tab c n f)
    ∙ go (eqb c (f n)) (count_below (λ i. eqb c (f i)) n)
  where
    go : (b : Bool) (m : ℕ) → m + (pick b 1 0 + 0) ≡ pick b (m + 1) m
    go true m = omega arith
    go false m = omega arith

never : (n : ℕ) → count_below (λ i. false) n ≡ 0
unfolding count_below
never zero = refl
never (suc n) = never n

-- ---- a half of more than 16 bits is no key's, and no row's
module _ (w h : ℕ) (big : 65536 ≤ h) where
  late-row : (c n : ℕ) → times_counted w h (row_of c n ∷ []) ≡ 0
  unfolding times_counted
  late-row c n = ap (λ (b : Bool). pick b n 0 + 0) (false-and (eqb (c / 65536) w) (eqb (c % 65536) h) (λ t. ne_eqb (c % 65536) h (λ e. omega arith)))

  late-rows : (c n m : ℕ) → times_counted w h (tab m (λ j. row_of c (mu_of n j))) ≡ 0
  unfolding tab tab_from times_counted
  late-rows c n zero = refl
  late-rows c n (suc m) =
      let f : ℕ → Row = λ j. row_of c (mu_of n j) in
      ap (λ (k : ℕ). times_counted w h (tab k f)) (sym (add-one m))
      ∙ ap (times_counted w h) (sym (tab-last m f))
      ∙ counted-append w h (tab m f) (f m ∷ [])
      ∙ ap₂ ◌+◌ (late-rows c n m) (late-row c (mu_of n m))

  late-for : (f : ℕ → ℕ) (ks : List ℕ) → times_counted w h (rows_for f ks) ≡ 0
  unfolding rows_for times_counted key_rows
  late-for f [] = refl
  late-for f (k ∷ ks) = counted-append w h (key_rows k (f k)) (rows_for f ks) ∙ ap₂ ◌+◌ (late-rows k (f k) (rows_needed (f k))) (late-for f ks)

  late-keys : (keys : List ℕ) → first_at (bad_at 2 keys) (length keys) ≡ none → times_sent w h keys ≡ 0
  unfolding times_sent
  late-keys keys ok =
      count_same _ (λ i. false) (length keys / 2) (λ i l. false-and (eqb (word keys (2 * i)) w) (eqb (word keys (2 * i + 1)) h) (λ t. ne_eqb (word keys (2 * i + 1)) h (λ e. omega (arith, half-small keys ok i (omega arith)))))
      ∙ never (length keys / 2)

-- the rows of a pair count together how often it is sent
pub all-counted : (keys : List ℕ) → first_at (bad_at 2 keys) (length keys) ≡ none → (w h : ℕ) → times_counted w h (rows_of (codes keys)) ≡ times_sent w h keys
unfolding rows_of codes times_sent key_code
all-counted keys ok w h =
    by_le 65536 h (λ big. late-for w h big (λ k. copies k (codes keys)) (distinct (codes keys)) ∙ sym (late-keys w h big keys ok))
    (λ lh.
    let cs = codes keys in
    let c = w * 65536 + h in
    for-counted w h lh cs (distinct cs)
    ∙ once c cs
    ∙ copies-tab c (length keys / 2) (key_code keys)
    ∙ count_same _ _ (length keys / 2) (λ i l. sym (same-pair (word keys (2 * i)) (word keys (2 * i + 1)) w h (half-small keys ok i (omega arith)) lh)))
