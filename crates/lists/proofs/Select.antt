-- Laws of the elements that pass a test, and of the equality of lists of words.
use mathlib.Core.Path.{◌≡◌, refl, sym, ap, subst, ◌∙◌}
use mathlib.Core.Logic.{◌⊎◌, inl, inr}
use mathlib.Core.Bool.{Bool, true, false}
use mathlib.Core.List.Memᴰ
use mathlib.Core.List.{List, [], ◌∷◌, ◌++◌, Memᴰ}
use Prim.Native.Nat.{ℕ}
use lib.Dec.{T, eqb, eqb→eq, eqb_refl}
use Rattle.lists.specs.Select.{cons_if, selected, words_test}
use Rattle.lists.proofs.Sum.{and_left, and_right, and_both}

module _ {A : Type 0} (act : A → Bool) where
  -- a selected element is an element, and passes
  pub selected-mem : (a : A) (xs : List A) → Memᴰ a (selected act xs) → Memᴰ a xs × T (act a)
  unfolding selected
  selected-mem a [] m = absurd (Memᴰ.not-nil m)
  selected-mem a (x ∷ xs) m = go (act x) refl m (selected-mem a xs)
    where
      go : (b : Bool) → act x ≡ b → Memᴰ a (cons_if b x (selected act xs)) → (Memᴰ a (selected act xs) → Memᴰ a xs × T (act a)) → Memᴰ a (x ∷ xs) × T (act a)
      go false e n ih = let r = ih n in (Memᴰ.tail r.0, r.1)
      go true e n ih = elim (Memᴰ.cases_cons n) [
        | inl q ↦ (Memᴰ.head q, subst (λ (z : A). T (act z)) (sym q) (subst T (sym e) tt))
        | inr n' ↦ let r = ih n' in (Memᴰ.tail r.0, r.1)
      ]

  pub mem-selected : (a : A) (xs : List A) → Memᴰ a xs → T (act a) → Memᴰ a (selected act xs)
  unfolding selected
  mem-selected a [] m t = absurd (Memᴰ.not-nil m)
  mem-selected a (x ∷ xs) m t = go (act x) refl (Memᴰ.cases_cons m) (λ n. mem-selected a xs n t)
    where
      go : (b : Bool) → act x ≡ b → (a ≡ x) ⊎ Memᴰ a xs → (Memᴰ a xs → Memᴰ a (selected act xs)) → Memᴰ a (cons_if b x (selected act xs))
      go true e (inl q) ih = Memᴰ.head q
      go true e (inr n) ih = Memᴰ.tail (ih n)
      go false e (inl q) ih = absurd (subst T (ap act q ∙ e) t)
      go false e (inr n) ih = ih n

  pub selected-append : (xs ys : List A) → selected act (xs ++ ys) ≡ selected act xs ++ selected act ys
  unfolding selected
  selected-append [] ys = refl
  selected-append (x ∷ xs) ys = go (act x) (selected-append xs ys)
    where
      go : (b : Bool) → selected act (xs ++ ys) ≡ selected act xs ++ selected act ys → cons_if b x (selected act (xs ++ ys)) ≡ cons_if b x (selected act xs) ++ selected act ys
      go true e = ap (λ (l : List A). x ∷ l) e
      go false e = e

  pub selected-all : (xs : List A) → ((a : A) → Memᴰ a xs → act a ≡ true) → selected act xs ≡ xs
  unfolding selected
  selected-all [] h = refl
  selected-all (x ∷ xs) h = ap (λ (b : Bool). cons_if b x (selected act xs)) (h x (Memᴰ.head refl)) ∙ ap (λ (l : List A). x ∷ l) (selected-all xs (λ a m. h a (Memᴰ.tail m)))

  pub selected-none : (xs : List A) → ((a : A) → Memᴰ a xs → act a ≡ false) → selected act xs ≡ []
  unfolding selected
  selected-none [] h = refl
  selected-none (x ∷ xs) h = ap (λ (b : Bool). cons_if b x (selected act xs)) (h x (Memᴰ.head refl)) ∙ selected-none xs (λ a m. h a (Memᴰ.tail m))

pub words-sound : (xs ys : List ℕ) → T (words_test xs ys) → xs ≡ ys
unfolding words_test
words-sound [] [] t = refl
words-sound [] (y ∷ ys) t = absurd t
words-sound (x ∷ xs) [] t = absurd t
words-sound (x ∷ xs) (y ∷ ys) t =
    let p = eqb→eq x y (and_left (eqb x y) (words_test xs ys) t) in
    let q = words-sound xs ys (and_right (eqb x y) (words_test xs ys) t) in
    λ i. p i ∷ q i

pub words_same_lem : (xs : List ℕ) → T (words_test xs xs)
unfolding words_test
words_same_lem [] = tt
words_same_lem (x ∷ xs) = and_both (eqb x x) (words_test xs xs) (eqb_refl x) (words_same_lem xs)
