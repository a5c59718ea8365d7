-- Stores that leave words as they are: those that a list has there already, and those before or past the stored ones; and a part of a list.
use mathlib.Core.Path.{◌≡◌, refl, sym, ap, subst, ◌∙◌}
use mathlib.Core.List.{List, [], ◌∷◌, ◌++◌}
use mathlib.Core.Logic.{◌⊎◌, inl, inr}
use Prim.Native.Nat.{ℕ, zero, suc, ◌+◌, ◌-◌, ◌≤◌, ◌<◌}
use native.Mathlib.Nat.{add-zero}
use native.Mathlib.Numerals.{add-one}
use native.Mathlib.Omega.{arith}
use borrow.Rule.Slice.PartMut.{mid_of, put_mid, mid_len}
use lib.ListN.{length, take, drop, set, length-drop, get_or-append}
use lib.Seq.{sets, length-sets, ext_get_or, set-get_or, get_or-set_other, get_or-append-add, get_or-drop, get_or-take, length-take-le}
use Rattle.lists.specs.Tab.{tab, word}
use Rattle.lists.proofs.Then.{by_le}
use Rattle.lists.proofs.Laws.{length-tab, list-tab, tab-same, sets-none, sets_more, sets-append, sets_over, sets-front, sets-mid, Filled}

-- two numbers are equal or not
pub by-eq : {P : Type 0} (a b : ℕ) → (a ≡ b → P) → ((a ≡ b → ⊥) → P) → P
by-eq a b f g = by_le a b (λ l. by_le b a (λ m. f (omega arith)) (λ m. g (λ e. omega (arith, e)))) (λ l. g (λ e. omega (arith, e)))

-- what a list has from `at` on, stored there again
pub sets_same : (l : List ℕ) (at m : ℕ) (f : ℕ → ℕ) → ((k : ℕ) → k < m → f k ≡ word l (at + k)) → sets l at (tab m f) ≡ l
sets_same l at zero f h = sym (sets-none l at f)
sets_same l at (suc m) f h =
    ap (λ (n : ℕ). sets l at (tab n f)) (sym (add-one m))
    ∙ sym (sets_more l at m f)
    ∙ ap (λ (r : List ℕ). set r (at + m) (f m)) (sets_same l at m f (λ k b. h k (omega arith)))
    ∙ ap (set l (at + m)) (h m (omega arith))
    ∙ set-get_or l (at + m) 0

-- m words that are there already, and then others
pub sets_behind : (l : List ℕ) (at m : ℕ) (f : ℕ → ℕ) (vs : List ℕ) → ((k : ℕ) → k < m → f k ≡ word l (at + k)) → sets l (at + m) vs ≡ sets l at (tab m f ++ vs)
sets_behind l at m f vs h =
    ap (λ (r : List ℕ). sets r (at + m) vs) (sym (sets_same l at m f h))
    ∙ ap (λ (n : ℕ). sets (sets l at (tab m f)) (at + n) vs) (sym (length-tab m f))
    ∙ sets-append l at (tab m f) vs

-- a word past those that are stored from the front
pub front-past : (l vs : List ℕ) (n k : ℕ) → length vs ≡ n → n ≤ k → word (vs ++ drop n l) k ≡ word l k
front-past l vs n k e h =
    let q : length vs + (k - n) ≡ k = omega arith in
    let r : n + (k - n) ≡ k = omega arith in
    ap (word (vs ++ drop n l)) (sym q) ∙ get_or-append-add vs (drop n l) (k - n) 0 ∙ get_or-drop n l (k - n) 0 ∙ ap (word l) r

-- where k words are stored from the front, those from the k-th on are as they were
pub filled-past : {l : List ℕ} {n : ℕ} {f : ℕ → ℕ} {row : List ℕ} {k : ℕ} → Filled l 0 n f row k → k ≤ length l → (j : ℕ) → k ≤ j → word row j ≡ word l j
filled-past {l} {f = f} {k = k} h b j c =
    ap (λ (r : List ℕ). word r j) (h.is ∙ sets-front l (tab k f) k (length-tab k f) b) ∙ front-past l (tab k f) k j (length-tab k f) c

-- words stored from `at` on: one before or past them, and one of them
pub sets-outside : (l : List ℕ) (at : ℕ) (vs : List ℕ) (j : ℕ) → (j < at) ⊎ (at + length vs ≤ j) → word (sets l at vs) j ≡ word l j
sets-outside l at [] j h = refl
sets-outside l at (v ∷ vs) j h = sets-outside (set l at v) (suc at) vs j (next h) ∙ get_or-set_other l at j v 0 (away h)
  where
    next : (j < at) ⊎ (at + suc (length vs) ≤ j) → (j < suc at) ⊎ (suc at + length vs ≤ j)
    next (inl b) = inl (omega (arith, b))
    next (inr b) = inr (omega (arith, b))

    away : (j < at) ⊎ (at + suc (length vs) ≤ j) → j ≡ at → ⊥
    away (inl b) e = omega (arith, b, e)
    away (inr b) e = omega (arith, b, e)

pub sets-stored : (l : List ℕ) (at : ℕ) (vs : List ℕ) (k : ℕ) → at + length vs ≤ length l → k < length vs → word (sets l at vs) (at + k) ≡ word vs k
sets-stored l at vs k h b =
    let front : length (take at l) ≡ at = length-take-le at l (omega arith) in
    ap (λ (t : List ℕ). word t (at + k)) (sets_over l at vs (length vs) refl h)
    ∙ ap (λ (n : ℕ). word (take at l ++ (vs ++ drop (at + length vs) l)) (n + k)) (sym front)
    ∙ get_or-append-add (take at l) (vs ++ drop (at + length vs) l) k 0
    ∙ get_or-append vs (drop (at + length vs) l) 0 k b

-- stored over words that were stored there
pub sets-again : (l : List ℕ) (at : ℕ) (us vs : List ℕ) → length us ≡ length vs → at + length vs ≤ length l → sets (sets l at us) at vs ≡ sets l at vs
sets-again l at us vs e h =
    ext_get_or 0 (sets (sets l at us) at vs) (sets l at vs) (length-sets (sets l at us) at vs ∙ length-sets l at us ∙ sym (length-sets l at vs))
    (λ j _. by_le at j (λ b. by_le (at + length vs) j (λ c. away j (inr c)) (λ c. stored j b c)) (λ b. away j (inl b)))
  where
    away : (j : ℕ) → (j < at) ⊎ (at + length vs ≤ j) → word (sets (sets l at us) at vs) j ≡ word (sets l at vs) j
    away j o =
        sets-outside (sets l at us) at vs j o ∙ sets-outside l at us j (subst (λ (n : ℕ). (j < at) ⊎ (at + n ≤ j)) (sym e) o) ∙ sym (sets-outside l at vs j o)

    stored : (j : ℕ) → at ≤ j → j < at + length vs → word (sets (sets l at us) at vs) j ≡ word (sets l at vs) j
    stored j b c =
        let q : at + (j - at) ≡ j = omega arith in
        let g : at + length vs ≤ length (sets l at us) = omega (arith, length-sets l at us) in
        ap (word (sets (sets l at us) at vs)) (sym q)
        ∙ sets-stored (sets l at us) at vs (j - at) g (omega arith)
        ∙ sym (sets-stored l at vs (j - at) h (omega arith))
        ∙ ap (word (sets l at vs)) q

-- a part of w words as a call reads it
pub part-tab : (l : List ℕ) (at w : ℕ) → at + w ≤ length l → take (at + w - at) (drop at l) ≡ tab w (λ k. word l (at + k))
part-tab l at w h =
    let e : at + w - at ≡ w = omega arith in
    ap (λ (n : ℕ). take n (drop at l)) e
    ∙ list-tab (take w (drop at l)) w (length-take-le w (drop at l) (omega (arith, length-drop at l)))
    ∙ tab-same w (λ k. word (take w (drop at l)) k) (λ k. word l (at + k)) (λ k b. get_or-take w (drop at l) k 0 b ∙ get_or-drop at l k 0)

-- the part of w words from `at`, lent to a call that stores vs at its front, and then given back
module _ (l : List ℕ) (at w : ℕ) (h : at + w ≤ length l) where
  pub part_length : length (mid_of at (at + w - at) l) ≡ w
  part_length = mid_len at (at + w) l h ∙ omega arith

  pub part-stored : (vs part : List ℕ) → length vs ≤ w → part ≡ sets (mid_of at (at + w - at) l) 0 vs → put_mid at (at + w - at) l part ≡ sets l at vs
  part-stored vs part b e =
      ap (put_mid at (at + w - at) l) e
      ∙ sets-mid at (at + w - at) 0 l vs (omega arith) (omega (arith, part_length))
      ∙ ap (λ (k : ℕ). sets l k vs) (add-zero at)
