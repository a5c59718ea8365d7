-- Lists of all pairs: without repetition, complete, and how long.
use mathlib.Core.Path.{◌≡◌, sym, ap, subst}
use mathlib.Core.List.{List, [], ◌∷◌, ◌++◌, map}
use mathlib.Core.Logic.{inl, inr}
use Prim.Native.Nat.{◌+◌, ◌*◌}
use native.Mathlib.Omega.{arith}
use lib.ListN.{length, length-append}
use Rattle.challenge.specs.Check.{All, Distinct}
use Rattle.challenge.proofs.Kept.{all_map}
use Rattle.challenge.proofs.Collisions.{map-length}
use Rattle.challenge_field.specs.Elements.{In, crossed}

module _ {A : Type 0} where
  all_append : (P : A → Type 0) (xs ys : List A) → All P xs → All P ys → All P (xs ++ ys)
  all_append P [] ys h k = k
  all_append P (x ∷ xs) ys h k = (h.0, all_append P xs ys h.1 k)

  distinct_append : (xs ys : List A) → Distinct xs → Distinct ys → All (λ x. All (λ y. ¬ (y ≡ x)) ys) xs → Distinct (xs ++ ys)
  distinct_append [] ys d e h = e
  distinct_append (x ∷ xs) ys d e h = (all_append (λ y. ¬ (y ≡ x)) xs ys d.0 h.0, distinct_append xs ys d.1 e h.1)

  in_left : (x : A) (xs ys : List A) → In x xs → In x (xs ++ ys)
  in_left x [] ys h = absurd h
  in_left x (y ∷ xs) ys (inl e) = inl e
  in_left x (y ∷ xs) ys (inr h) = inr (in_left x xs ys h)

  in_right : (x : A) (xs ys : List A) → In x ys → In x (xs ++ ys)
  in_right x [] ys h = h
  in_right x (y ∷ xs) ys h = inr (in_right x xs ys h)

module _ {A B : Type 0} where
  all_of_map : (P : B → Type 0) (f : A → B) (xs : List A) → All (λ x. P (f x)) xs → All P (map f xs)
  all_of_map P f [] h = tt
  all_of_map P f (x ∷ xs) h = (h.0, all_of_map P f xs h.1)

  pub distinct-map : (f : A → B) → ((x y : A) → f x ≡ f y → x ≡ y) → (xs : List A) → Distinct xs → Distinct (map f xs)
  distinct-map f once [] d = tt
  distinct-map f once (x ∷ xs) d =
      (all_of_map (λ y. ¬ (y ≡ f x)) f xs (all_map {P = λ y. ¬ (y ≡ x)} {Q = λ y. ¬ (f y ≡ f x)} (λ y n e. n (once y x e)) xs d.0), distinct-map f once xs d.1)

  pub in_map : (f : A → B) (x : A) (xs : List A) → In x xs → In (f x) (map f xs)
  in_map f x [] h = absurd h
  in_map f x (y ∷ xs) (inl e) = inl (ap f e)
  in_map f x (y ∷ xs) (inr h) = inr (in_map f x xs h)

everywhere : {A : Type 0} (P : A → Type 0) → ((x : A) → P x) → (xs : List A) → All P xs
everywhere P f [] = tt
everywhere P f (x ∷ xs) = (f x, everywhere P f xs)

module _ {A B : Type 0} where
  pub crossed-length : (xs : List A) (ys : List B) → length (crossed xs ys) ≡ length xs * length ys
  unfolding crossed
  crossed-length [] ys = omega arith
  crossed-length (x ∷ xs) ys =
      omega (arith, length-append (map (λ (y : B). (x, y)) ys) (crossed xs ys), map-length {B = A × B} (λ (y : B). (x, y)) ys, crossed-length xs ys)

  -- another first element
  elsewhere : (x : A) (xs : List A) (ys : List B) → All (λ z. ¬ (z ≡ x)) xs → All (λ u. ¬ (u.0 ≡ x)) (crossed xs ys)
  unfolding crossed
  elsewhere x [] ys h = tt
  elsewhere x (z ∷ xs) ys h =
      all_append (λ u. ¬ (u.0 ≡ x)) (map (λ (y : B). (z, y)) ys) (crossed xs ys)
      (all_of_map (λ u. ¬ (u.0 ≡ x)) (λ (y : B). (z, y)) ys (everywhere (λ (y : B). ¬ (z ≡ x)) (λ y. h.0) ys))
      (elsewhere x xs ys h.1)

  pub crossed-distinct : (xs : List A) (ys : List B) → Distinct xs → Distinct ys → Distinct (crossed xs ys)
  unfolding crossed
  crossed-distinct [] ys d e = tt
  crossed-distinct (x ∷ xs) ys d e =
      distinct_append (map (λ (y : B). (x, y)) ys) (crossed xs ys)
      (distinct-map (λ (y : B). (x, y)) (λ y z q. ap (λ (u : A × B). u.1) q) ys e)
      (crossed-distinct xs ys d.1 e)
      (all_of_map (λ u. All (λ v. ¬ (v ≡ u)) (crossed xs ys)) (λ (y : B). (x, y)) ys
      (everywhere (λ (y : B). All (λ v. ¬ (v ≡ (x, y))) (crossed xs ys))
      (λ y. all_map {P = λ v. ¬ (v.0 ≡ x)} {Q = λ v. ¬ (v ≡ (x, y))} (λ v n q. n (ap (λ (u : A × B). u.0) q)) (crossed xs ys) (elsewhere x xs ys d.0)) ys))

  pub crossed-all : (xs : List A) (ys : List B) (x : A) (y : B) → In x xs → In y ys → In {A = A × B} (x, y) (crossed xs ys)
  unfolding crossed
  crossed-all [] ys x y h k = absurd h
  crossed-all (z ∷ xs) ys x y (inl e) k =
      in_left (x, y) (map (λ (y : B). (z, y)) ys) (crossed xs ys)
      (subst (λ (w : A). In {A = A × B} (x, y) (map (λ (y : B). (w, y)) ys)) (sym e) (in_map (λ (y : B). (x, y)) y ys k))
  crossed-all (z ∷ xs) ys x y (inr h) k = in_right (x, y) (map (λ (y : B). (z, y)) ys) (crossed xs ys) (crossed-all xs ys x y h k)
