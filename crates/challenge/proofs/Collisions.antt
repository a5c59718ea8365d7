-- Different words have the same fingerprint for few α.
--     same-entry         where the difference of the fingerprints has no coefficient, the words are the same
--     few-alphas         an entry has the fingerprint of other words for at most K of distinct α
--     few-collisions     and one of n entries for at most n·K
use mathlib.Core.Path.{◌≡◌, refl, sym, ap, ap₂, ◌∙◌, subst}
use mathlib.Core.Bool.{Bool, true, false, not, ◌&&◌, ◌||◌}
use mathlib.Core.List.{List, [], ◌∷◌, map}
use Prim.Native.Nat.{ℕ, zero, suc, ◌+◌, ◌*◌, ◌%◌, ◌≤◌, ◌<◌, suc-le-suc}
use native.Mathlib.Nat.{mod-eq_of_lt, not-suc-le-zero, suc_inj}
use native.Mathlib.Omega.{arith}
use lib.ListN.{length}
use lib.Dec.{T, eqb}
use Rattle.lists.specs.Select.{selected, words_test}
use Rattle.lists.proofs.Select.{words_same_lem}
use Rattle.lists.proofs.Then.{by_le, T_true}
use Rattle.lists.proofs.Tests.{true-not-false, and-true}
use Rattle.challenge.specs.Domain.{Domain}
use Rattle.challenge.specs.Check.{All, Distinct, decided, Entry, Fits, AllFit, eval as evalAt, fingerprint as fingerprintOf, ◌⊖◌ as minus}
use Rattle.challenge.proofs.Kept.{all_map, kept-few, kept_either, kept-none, decided-true}
use Rattle.challenge.proofs.Ring.{no_difference, minus_one}
use Rattle.challenge.proofs.Roots.{roots-none}
use Rattle.challenge.proofs.Polynomials.{sum_of, scaled, sum-few, scaled-length, eval-sum, eval-scaled}

not-not : (b : Bool) → not b ≡ true → b ≡ false
not-not true e = absurd (true-not-false (sym e))
not-not false e = refl

pub map-length : {A B : Type 0} (f : A → B) (xs : List A) → length (map f xs) ≡ length xs
map-length f [] = refl
map-length f (x ∷ xs) = ap suc (map-length f xs)

module _ {p : ℕ} (D : Domain p) where
  infixl 65 ◌⊕◌
  infixl 65 ◌⊖◌
  infixl 70 ◌⊗◌
  open D use {F, plus as ◌⊕◌, times as ◌⊗◌, negative, none, one, same, number, number-once, plus-negative}

  abbrev ◌⊖◌ : F → F → F
  a ⊖ b = minus D a b

  abbrev eval : List F → F → F
  eval cs x = evalAt D cs x

  abbrev fingerprint : F → List ℕ → F
  fingerprint α ws = fingerprintOf D α ws

  -- ---- differences, by coefficients
  differing : List F → List F → List F
  differing cs ds = sum_of D cs (scaled D (negative one) ds)

  eval-differing : (cs ds : List F) (x : F) → eval cs x ≡ eval ds x → eval (differing cs ds) x ≡ none
  unfolding differing
  eval-differing cs ds x e =
      eval-sum D cs (scaled D (negative one) ds) x
      ∙ ap₂ ◌⊕◌ e (eval-scaled D (negative one) ds x ∙ minus_one D (eval ds x))
      ∙ plus-negative (eval ds x)

  same_word : (x y : ℕ) → x < p → y < p → number x ⊕ negative one ⊗ number y ≡ none → x ≡ y
  same_word x y l m e =
      sym (mod-eq_of_lt l)
      ∙ number-once x y (no_difference D (number x) (number y) (ap (λ (z : F). number x ⊕ z) (sym (minus_one D (number y))) ∙ e))
      ∙ mod-eq_of_lt m

  same-words : (v w : List ℕ) → All (λ x. x < p) v → All (λ x. x < p) w → length v ≡ length w →
      All (λ c. c ≡ none) (differing (map number v) (map number w)) → v ≡ w
  unfolding differing sum_of scaled
  same-words [] [] h k e a = refl
  same-words [] (y ∷ w) h k e a = absurd (omega arith)
  same-words (x ∷ v) [] h k e a = absurd (omega arith)
  same-words (x ∷ v) (y ∷ w) h k e a =
      ap₂ ◌∷◌ (same_word x y h.0 k.0 a.0) (same-words v w h.1 k.1 (suc_inj e) a.1)

  -- whether other words have the fingerprint of ws, and whether those of one entry of a list have
  module _ (ws : List ℕ) where
    unfoldable pub collides : Entry → F → Bool
    collides e α = not (words_test ws e.words) && decided (same (fingerprint α ws) (fingerprint α e.words))

    unfoldable pub collides_with_one : List Entry → F → Bool
    collides_with_one [] α = false
    collides_with_one (e ∷ es) α = collides e α || collides_with_one es α

  module _ (width : ℕ → ℕ) (K : ℕ) where
    same-entry : (v w : List ℕ) → Fits p width K v → Fits p width K w →
        All (λ c. c ≡ none) (differing (map number v) (map number w)) → v ≡ w
    unfolding differing sum_of scaled
    same-entry [] w fv fw a = absurd (omega (arith, fv.as_many))
    same-entry (x ∷ v) [] fv fw a = absurd (omega (arith, fw.as_many))
    same-entry (x ∷ v) (y ∷ w) fv fw a =
        same-words (x ∷ v) (y ∷ w) fv.below fw.below
        (fv.as_many ∙ ap (λ (b : ℕ). suc (width b)) (same_word x y fv.below.0 fw.below.0 a.0) ∙ sym fw.as_many) a

    module _ (ws : List ℕ) (fit : Fits p width K ws) where
      pub few-alphas : (e : Entry) → Fits p width K e.words →
          (αs : List F) → Distinct αs → All (λ α. collides ws e α ≡ true) αs → length αs ≤ K
      unfolding collides fingerprintOf differing
      few-alphas e fe [] d h = omega arith
      few-alphas e fe (α ∷ αs) d h =
          let cs : List F = map number ws in
          let ds : List F = map number e.words in
          let few : length (differing cs ds) ≤ suc K =
          sum-few D (suc K) cs (scaled D (negative one) ds) (rw (map-length number ws) fit.few)
          (rw (scaled-length D (negative one) ds, map-length number e.words) fe.few) in
          let collided : (α : F) → collides ws e α ≡ true → (words_test ws e.words ≡ false) × (eval (differing cs ds) α ≡ none) =
          λ α q. let k = and-true (not (words_test ws e.words)) (decided (same (fingerprint α ws) (fingerprint α e.words))) q in
          (not-not (words_test ws e.words) k.0, eval-differing cs ds α (decided-true (same (fingerprint α ws) (fingerprint α e.words)) k.1)) in
          by_le (length (α ∷ αs)) K (λ l. l)
          (λ l.
          let q = same-entry ws e.words fit fe
          (roots-none D (α ∷ αs) (differing cs ds) d (omega (arith, few, l)) (all_map (λ α q. (collided α q).1) (α ∷ αs) h)) in
          absurd (true-not-false (sym (T_true (words_test ws e.words) (subst (λ (w : List ℕ). T (words_test ws w)) q (words_same_lem ws))) ∙ (collided α h.0).0)))

      pub few-collisions : (es : List Entry) → AllFit p width K es →
          (A : List F) → Distinct A → length (selected (collides_with_one ws es) A) ≤ length es * K
      unfolding collides_with_one
      few-collisions [] fs A d = omega (arith, kept-none A)
      few-collisions (e ∷ es) fs A d =
          omega (
            arith,
            kept_either (collides ws e) (collides_with_one ws es) A,
            kept-few (collides ws e) K (few-alphas e fs.0) A d,
            few-collisions es fs.1 A d,
          )
