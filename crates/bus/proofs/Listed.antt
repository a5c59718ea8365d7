-- A table's rows as a list `tab n f`: its elements, and what counts over indices are as counts along it.
--     mem-tab, tab-mem       its elements are f 0, .., f (n - 1)
--     by-tab                 a count over indices is a count along it
--     selected-length, selected-at   how many elements pass a test, and where one of them stands among those
--     apart-tab              the active rows have different timestamps where their indices say so
use mathlib.Core.Path.{◌≡◌, refl, sym, ap, subst, ◌∙◌}
use mathlib.Core.Logic.{inl, inr}
use mathlib.Core.Bool.{Bool, true, false}
use mathlib.Core.List.Memᴰ
use mathlib.Core.List.{List, [], ◌∷◌, ◌++◌, map, map-append, Memᴰ}
use Prim.Native.Nat.{ℕ, zero, suc, ◌+◌, ◌-◌, ◌<◌}
use native.Mathlib.Omega.{arith}
use lib.Dec.{T}
use lib.ListN.{length, get_or}
use lib.Seq.{get_or-append-add}
use Rattle.lists.specs.Tab.{tab, tab_from, pick}
use Rattle.lists.specs.First.{count_below}
use Rattle.lists.specs.Select.{cons_if, selected}
use Rattle.lists.proofs.Laws.{length-tab, get_d-tab, tab-add}
use Rattle.lists.proofs.Select.{selected-append, selected-mem}
use Rattle.bus.specs.Count.{indicator, count_by}
use Rattle.bus.specs.Bus.{Core, DistinctStamps}
use Rattle.bus.proofs.Count.{by_append}
use Rattle.bus.proofs.Bus.{apart-append}

-- ---- elements
-- the element of a place
pub index-mem : {X : Type 0} (d : X) (xs : List X) (j : ℕ) → j < length xs → Memᴰ (get_or xs j d) xs
index-mem d [] j l = absurd (omega arith)
index-mem d (x ∷ xs) zero l = Memᴰ.head refl
index-mem d (x ∷ xs) (suc j) l = Memᴰ.tail (index-mem d xs j (omega arith))

pub map_same : {A : Type 0} (f : A → A) (xs : List A) → ((a : A) → Memᴰ a xs → f a ≡ a) → map f xs ≡ xs
map_same f [] h = refl
map_same f (x ∷ xs) h = λ i. h x (Memᴰ.head refl) i ∷ map_same f xs (λ a m. h a (Memᴰ.tail m)) i

module _ {A : Type 0} where
  mem-from : (i n : ℕ) (f : ℕ → A) {a : A} → Memᴰ a (tab_from i n f) → (r : ℕ) × (r < n) × (a ≡ f (i + r))
  unfolding tab_from
  mem-from i zero f m = absurd (Memᴰ.not-nil m)
  mem-from i (suc n) f m = elim (Memᴰ.cases_cons m) [
    | inl e ↦ (0, omega arith, e ∙ ap f (omega arith))
    | inr u ↦ let h = mem-from (suc i) n f u in (suc h.0, omega (arith, h.1), h.2 ∙ ap f (omega arith))
  ]

  pub mem-tab : (n : ℕ) (f : ℕ → A) {a : A} → Memᴰ a (tab n f) → (r : ℕ) × (r < n) × (a ≡ f r)
  unfolding tab
  mem-tab n f m = let h = mem-from 0 n f m in (h.0, h.1, h.2 ∙ ap f (omega arith))

  pub tab-mem : (n : ℕ) (f : ℕ → A) (r : ℕ) → r < n → Memᴰ (f r) (tab n f)
  tab-mem n f r l = subst (λ (a : A). Memᴰ a (tab n f)) (get_d-tab n f r (f r) l) (index-mem (f r) (tab n f) r (omega (arith, length-tab n f)))

  -- the first element in front, and the last behind
  tab-first : (n : ℕ) (f : ℕ → A) → tab (suc n) f ≡ f 0 ∷ tab n (λ k. f (suc k))
  unfolding tab tab_from
  tab-first n f = let e : suc n ≡ 1 + n = omega arith in ap (λ (k : ℕ). tab k f) e ∙ tab-add 1 n f (λ k. f (suc k)) (λ k l. ap f (omega arith))

  tab-last : (n : ℕ) (f : ℕ → A) → tab (suc n) f ≡ tab n f ++ (f n ∷ [])
  unfolding tab tab_from
  tab-last n f = let e : suc n ≡ n + 1 = omega arith in ap (λ (k : ℕ). tab k f) e ∙ tab-add n 1 f (λ k. f n) (λ k l. ap f (omega arith))

-- the elements at each place, mapped
pub tab-map : {A B : Type 0} (g : A → B) (d : A) (xs : List A) → tab (length xs) (λ k. g (get_or xs k d)) ≡ map g xs
unfolding tab tab_from
tab-map g d [] = refl
tab-map {A} {B} g d (x ∷ xs) = tab-first (length xs) (λ k. g (get_or (x ∷ xs) k d)) ∙ ap (λ (l : List B). g x ∷ l) (tab-map g d xs)

-- ---- counts
pick-bit : (b : Bool) (n : ℕ) → n + (indicator b + 0) ≡ pick b (n + 1) n
pick-bit true n = refl
pick-bit false n = omega arith

pub by-tab : {A : Type 0} (p : A → Bool) (n : ℕ) (f : ℕ → A) → count_by p (tab n f) ≡ count_below (λ r. p (f r)) n
unfolding tab tab_from count_by count_below
by-tab p zero f = refl
by-tab p (suc n) f =
    ap (count_by p) (tab-last n f) ∙ by_append p (tab n f) (f n ∷ [])
    ∙ ap (λ (k : ℕ). k + (indicator (p (f n)) + 0)) (by-tab p n f) ∙ pick-bit (p (f n)) (count_below (λ r. p (f r)) n)

-- ---- the elements that pass a test
pub selected-length : {A : Type 0} (act : A → Bool) (xs : List A) → length (selected act xs) ≡ count_by act xs
unfolding selected count_by
selected-length act [] = refl
selected-length act (x ∷ xs) = go (act x) (selected-length act xs)
  where
    go : (b : Bool) → length (selected act xs) ≡ count_by act xs → length (cons_if b x (selected act xs)) ≡ indicator b + count_by act xs
    go true e = omega arith
    go false e = omega arith

-- the r-th element, where it passes, stands in the selection behind as many as pass before it
pub selected-at : {A : Type 0} (act : A → Bool) (f : ℕ → A) (d : A) (n r : ℕ) → r < n → act (f r) ≡ true →
    get_or (selected act (tab n f)) (count_below (λ k. act (f k)) r) d ≡ f r
unfolding selected
selected-at {A} act f d n r l e =
    let m : ℕ = n - suc r in
    let c : ℕ = count_below (λ k. act (f k)) r in
    let X : List A = selected act (tab r f) in
    let Z : List A = selected act (tab m (λ k. f (r + suc k))) in
    let size : n ≡ r + suc m = omega arith in
    let here : r + 0 ≡ r = omega arith in
    let behind : c ≡ length X + 0 = omega (arith, selected-length act (tab r f), by-tab act r f) in
    ap (λ (k : ℕ). get_or (selected act (tab k f)) c d) size
    ∙ ap (λ (l : List A). get_or (selected act l) c d) (tab-add r (suc m) f (λ k. f (r + k)) (λ k l. refl) ∙ ap (λ (l : List A). tab r f ++ l) (tab-first m (λ k. f (r + k))))
    ∙ ap (λ (l : List A). get_or l c d) (selected-append act (tab r f) (f (r + 0) ∷ tab m (λ k. f (r + suc k))))
    ∙ ap (λ (b : Bool). get_or (X ++ cons_if b (f (r + 0)) Z) c d) (ap (λ (k : ℕ). act (f k)) here ∙ e)
    ∙ ap (λ (k : ℕ). get_or (X ++ (f (r + 0) ∷ Z)) k d) behind
    ∙ get_or-append-add X (f (r + 0) ∷ Z) 0 d
    ∙ ap f here

-- ---- timestamps
module _ {X Ts S : Type 0} (act : X → Bool) (core : X → Core Ts S) (f : ℕ → X) where
  last_apart : (b : Bool) (x : X) → DistinctStamps (map core (cons_if b x []))
  last_apart true x = ((λ c m e. Memᴰ.not-nil m), tt)
  last_apart false x = tt

  last_mem : (b : Bool) (x : X) (c : Core Ts S) → Memᴰ c (map core (cons_if b x [])) → T b × (c ≡ core x)
  last_mem true x c m = (tt, Memᴰ.eq_of_singleton m)
  last_mem false x c m = absurd (Memᴰ.not-nil m)

  pub apart-tab : (n : ℕ) → ((q r : ℕ) → q < r → r < n → T (act (f q)) → T (act (f r)) → (core (f q)).ts ≡ (core (f r)).ts → ⊥) → DistinctStamps (map core (selected act (tab n f)))
  unfolding tab tab_from selected
  apart-tab zero h = tt
  apart-tab (suc n) h =
      subst DistinctStamps (sym (ap (λ (l : List X). map core (selected act l)) (tab-last n f) ∙ ap (map core) (selected-append act (tab n f) (f n ∷ []))
      ∙ map-append core (selected act (tab n f)) (selected act (f n ∷ []))))
      (apart-append (map core (selected act (tab n f))) (map core (selected act (f n ∷ [])))
      (apart-tab n (λ q r l k. h q r l (omega arith)))
      (last_apart (act (f n)) (f n))
      (λ c d m k e.
      let y = Memᴰ.of_map core (selected act (tab n f)) m in
      let z = selected-mem act y.0 (tab n f) y.1 in
      let w = mem-tab n f z.0 in
      let v = last_mem (act (f n)) (f n) d k in
      h w.0 n w.1 (omega arith) (subst (λ (a : X). T (act a)) w.2 z.1) v.0
      (ap (λ (a : X). (core a).ts) (sym w.2) ∙ ap (λ (a : Core Ts S). a.ts) y.2 ∙ e ∙ ap (λ (a : Core Ts S). a.ts) v.1)))
