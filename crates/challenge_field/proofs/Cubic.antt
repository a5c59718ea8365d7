-- Triples over a domain, w³ = k, are a domain where k is no cube. For let (a + b w + c w²)(d + e w + f w²) be 0, and not all of d, e, f;
-- then with B = k c² - a b and C = b² - a c each of these times B³ is it times k C³, so B and C are 0; so b³ = a b c = k c³, and b and c are 0.
--     vanishes    a, b and c are 0, from one of the others that is not
--     cubic       the domain
--     w-cubed, spans    w³ is k, and every element is a + b w + c w²
use mathlib.Core.Path.{◌≡◌, sym, ap, ap₂, ◌∙◌}
use mathlib.Core.Logic.{◌⊎◌, inl, inr}
use Prim.Native.Nat.{ℕ}
use Rattle.challenge.specs.Domain.{Domain}
use Rattle.challenge.specs.Check.{◌⊖◌ as minus}
use Rattle.challenge.proofs.Ring.{none-plus, plus-left-comm, times-left-comm, plus_times, cancel, times_none, none-times, rejoin, no_difference, factor, minus_one}
use Rattle.challenge_field.specs.Cubic.{Triple as TripleOf, add as addOf, opposite as oppositeOf, constant as constant_of, multiply as multiplyOf}

module _ {p : ℕ} (D : Domain p) where
  infixl 65 ◌⊕◌
  infixl 65 ◌⊖◌
  infixl 70 ◌⊗◌
  open D use {F, same, plus as ◌⊕◌, times as ◌⊗◌, negative, none, one, plus_assoc, plus_comm, plus_none, plus-negative, times-assoc, times-comm, times-one, times-plus, no-divisors, one-is-not, number, number-plus, number-once}

  abbrev ◌⊖◌ : F → F → F
  a ⊖ b = minus D a b

  abbrev Triple : Type 0
  Triple = TripleOf D

  -- ---- laws of each part of a product
  pub assoc-0 : (k a b c d e f g h i : F) →
      (a ⊗ d ⊕ k ⊗ (b ⊗ f ⊕ c ⊗ e)) ⊗ g ⊕ k ⊗ ((a ⊗ e ⊕ b ⊗ d ⊕ k ⊗ (c ⊗ f)) ⊗ i ⊕ (a ⊗ f ⊕ b ⊗ e ⊕ c ⊗ d) ⊗ h)
      ≡ a ⊗ (d ⊗ g ⊕ k ⊗ (e ⊗ i ⊕ f ⊗ h)) ⊕ k ⊗ (b ⊗ (d ⊗ i ⊕ e ⊗ h ⊕ f ⊗ g) ⊕ c ⊗ (d ⊗ h ⊕ e ⊗ g ⊕ k ⊗ (f ⊗ i)))
  assoc-0 k a b c d e f g h i = simp (times-plus, plus_times D, plus_assoc, plus_comm, plus-left-comm D, times-assoc, times-left-comm D)

  pub assoc-1 : (k a b c d e f g h i : F) →
      (a ⊗ d ⊕ k ⊗ (b ⊗ f ⊕ c ⊗ e)) ⊗ h ⊕ (a ⊗ e ⊕ b ⊗ d ⊕ k ⊗ (c ⊗ f)) ⊗ g ⊕ k ⊗ ((a ⊗ f ⊕ b ⊗ e ⊕ c ⊗ d) ⊗ i)
      ≡ a ⊗ (d ⊗ h ⊕ e ⊗ g ⊕ k ⊗ (f ⊗ i)) ⊕ b ⊗ (d ⊗ g ⊕ k ⊗ (e ⊗ i ⊕ f ⊗ h)) ⊕ k ⊗ (c ⊗ (d ⊗ i ⊕ e ⊗ h ⊕ f ⊗ g))
  assoc-1 k a b c d e f g h i = simp (times-plus, plus_times D, plus_assoc, plus_comm, plus-left-comm D, times-assoc, times-left-comm D)

  pub assoc-2 : (k a b c d e f g h i : F) →
      (a ⊗ d ⊕ k ⊗ (b ⊗ f ⊕ c ⊗ e)) ⊗ i ⊕ (a ⊗ e ⊕ b ⊗ d ⊕ k ⊗ (c ⊗ f)) ⊗ h ⊕ (a ⊗ f ⊕ b ⊗ e ⊕ c ⊗ d) ⊗ g
      ≡ a ⊗ (d ⊗ i ⊕ e ⊗ h ⊕ f ⊗ g) ⊕ b ⊗ (d ⊗ h ⊕ e ⊗ g ⊕ k ⊗ (f ⊗ i)) ⊕ c ⊗ (d ⊗ g ⊕ k ⊗ (e ⊗ i ⊕ f ⊗ h))
  assoc-2 k a b c d e f g h i = simp (times-plus, plus_times D, plus_assoc, plus_comm, plus-left-comm D, times-assoc, times-left-comm D)

  pub comm-0 : (k a b c d e f : F) → a ⊗ d ⊕ k ⊗ (b ⊗ f ⊕ c ⊗ e) ≡ d ⊗ a ⊕ k ⊗ (e ⊗ c ⊕ f ⊗ b)
  comm-0 k a b c d e f = simp (times-plus, plus_comm, times-comm)

  pub comm-1 : (k a b c d e f : F) → a ⊗ e ⊕ b ⊗ d ⊕ k ⊗ (c ⊗ f) ≡ d ⊗ b ⊕ e ⊗ a ⊕ k ⊗ (f ⊗ c)
  comm-1 k a b c d e f = simp (plus_assoc, plus_comm, times-comm)

  pub comm-2 : (a b c d e f : F) → a ⊗ f ⊕ b ⊗ e ⊕ c ⊗ d ≡ d ⊗ c ⊕ e ⊗ b ⊕ f ⊗ a
  comm-2 a b c d e f = simp (plus_assoc, plus_comm, plus-left-comm D, times-comm)

  pub unit-0 : (k a b c : F) → a ⊗ one ⊕ k ⊗ (b ⊗ none ⊕ c ⊗ none) ≡ a
  unit-0 k a b c = simp (times-one, times_none D, plus_none)

  pub unit-1 : (k a b c : F) → a ⊗ none ⊕ b ⊗ one ⊕ k ⊗ (c ⊗ none) ≡ b
  unit-1 k a b c = simp (times-one, times_none D, plus_none, none-plus D)

  pub unit-2 : (a b c : F) → a ⊗ none ⊕ b ⊗ none ⊕ c ⊗ one ≡ c
  unit-2 a b c = simp (times-one, times_none D, plus_none, none-plus D)

  pub plus-0 : (k a b c d e f g h i : F) →
      a ⊗ (d ⊕ g) ⊕ k ⊗ (b ⊗ (f ⊕ i) ⊕ c ⊗ (e ⊕ h)) ≡ a ⊗ d ⊕ k ⊗ (b ⊗ f ⊕ c ⊗ e) ⊕ (a ⊗ g ⊕ k ⊗ (b ⊗ i ⊕ c ⊗ h))
  plus-0 k a b c d e f g h i = simp (times-plus, plus_assoc, plus-left-comm D)

  pub plus-1 : (k a b c d e f g h i : F) →
      a ⊗ (e ⊕ h) ⊕ b ⊗ (d ⊕ g) ⊕ k ⊗ (c ⊗ (f ⊕ i)) ≡ a ⊗ e ⊕ b ⊗ d ⊕ k ⊗ (c ⊗ f) ⊕ (a ⊗ h ⊕ b ⊗ g ⊕ k ⊗ (c ⊗ i))
  plus-1 k a b c d e f g h i = simp (times-plus, plus_assoc, plus-left-comm D)

  pub plus-2 : (a b c d e f g h i : F) →
      a ⊗ (f ⊕ i) ⊕ b ⊗ (e ⊕ h) ⊕ c ⊗ (d ⊕ g) ≡ a ⊗ f ⊕ b ⊗ e ⊕ c ⊗ d ⊕ (a ⊗ i ⊕ b ⊗ h ⊕ c ⊗ g)
  plus-2 a b c d e f g h i = simp (times-plus, plus_assoc, plus-left-comm D)

  -- ---- factors that are not 0
  pub same-factor : (a b x : F) → a ⊗ x ≡ b ⊗ x → ¬ (x ≡ none) → a ≡ b
  same-factor a b x e n =
      no_difference D a b (factor D x (a ⊖ b)
      (times-plus x a (negative b)
      ∙ ap₂ ◌⊕◌ (times-comm x a ∙ e) (ap (λ (y : F). x ⊗ y) (sym (minus_one D b)) ∙ times-left-comm D x (negative one) b ∙ minus_one D (x ⊗ b) ∙ ap negative (times-comm x b))
      ∙ plus-negative (b ⊗ x)) n)

  pub cube-none : (x : F) → x ⊗ x ⊗ x ≡ none → x ≡ none
  cube-none x e = go (no-divisors (x ⊗ x) x e)
    where
      go₂ : (x ≡ none) ⊎ (x ≡ none) → x ≡ none
      go₂ (inl q) = q
      go₂ (inr q) = q

      go : (x ⊗ x ≡ none) ⊎ (x ≡ none) → x ≡ none
      go (inl q) = go₂ (no-divisors x x q)
      go (inr q) = q

  module _ (k : F) (no-cube : (x y : F) → x ⊗ x ⊗ x ≡ k ⊗ (y ⊗ y ⊗ y) → y ≡ none) where
    cube-alone : (x y : F) → x ⊗ x ⊗ x ≡ k ⊗ (y ⊗ y ⊗ y) → (x ≡ none) × (y ≡ none)
    cube-alone x y e =
        let z : y ≡ none = no-cube x y e in
        (cube-none x (e ∙ ap (λ (w : F). k ⊗ (w ⊗ w ⊗ w)) z ∙ ap (λ (w : F). k ⊗ w) (times_none D (none ⊗ none)) ∙ times_none D k), z)

    module _ (a b c : F) where
      abbrev B : F
      B = k ⊗ (c ⊗ c) ⊖ a ⊗ b

      abbrev C : F
      C = b ⊗ b ⊖ a ⊗ c

      -- a part of the product is 0: for x y z = f e d, and with each step of w for e d kf and d kf ke
      abbrev Part : F → F → F → Type 0
      Part x y z = a ⊗ x ⊕ b ⊗ y ⊕ c ⊗ z ≡ none

      -- b times the one is c times the other
      left : (s x y z : F) → a ⊗ c ⊕ s ≡ b ⊗ b → b ⊗ (a ⊗ x ⊕ b ⊗ y ⊕ c ⊗ z) ≡ a ⊗ b ⊗ x ⊕ a ⊗ c ⊗ y ⊕ b ⊗ c ⊗ z ⊕ s ⊗ y
      left s x y z e = spread ∙ ap (λ (w : F). a ⊗ b ⊗ x ⊕ w ⊗ y ⊕ b ⊗ c ⊗ z) (sym e) ∙ gather
        where
          spread : b ⊗ (a ⊗ x ⊕ b ⊗ y ⊕ c ⊗ z) ≡ a ⊗ b ⊗ x ⊕ b ⊗ b ⊗ y ⊕ b ⊗ c ⊗ z
          spread = simp (times-plus, times-assoc, times-left-comm D)

          gather : a ⊗ b ⊗ x ⊕ (a ⊗ c ⊕ s) ⊗ y ⊕ b ⊗ c ⊗ z ≡ a ⊗ b ⊗ x ⊕ a ⊗ c ⊗ y ⊕ b ⊗ c ⊗ z ⊕ s ⊗ y
          gather = simp (plus_times D, plus_assoc, plus_comm, plus-left-comm D)

      right : (r x y z : F) → a ⊗ b ⊕ r ≡ k ⊗ (c ⊗ c) → c ⊗ (a ⊗ y ⊕ b ⊗ z ⊕ c ⊗ (k ⊗ x)) ≡ a ⊗ b ⊗ x ⊕ a ⊗ c ⊗ y ⊕ b ⊗ c ⊗ z ⊕ r ⊗ x
      right r x y z e = spread ∙ ap (λ (w : F). a ⊗ c ⊗ y ⊕ b ⊗ c ⊗ z ⊕ w ⊗ x) (sym e) ∙ gather
        where
          spread : c ⊗ (a ⊗ y ⊕ b ⊗ z ⊕ c ⊗ (k ⊗ x)) ≡ a ⊗ c ⊗ y ⊕ b ⊗ c ⊗ z ⊕ k ⊗ (c ⊗ c) ⊗ x
          spread = simp (times-plus, times-assoc, times-left-comm D)

          gather : a ⊗ c ⊗ y ⊕ b ⊗ c ⊗ z ⊕ (a ⊗ b ⊕ r) ⊗ x ≡ a ⊗ b ⊗ x ⊕ a ⊗ c ⊗ y ⊕ b ⊗ c ⊗ z ⊕ r ⊗ x
          gather = simp (plus_times D, plus_assoc, plus_comm, plus-left-comm D)

      step : (x y z : F) → Part x y z → Part y z (k ⊗ x) → B ⊗ x ≡ C ⊗ y
      step x y z e f =
          cancel D (a ⊗ b ⊗ x ⊕ a ⊗ c ⊗ y ⊕ b ⊗ c ⊗ z) (B ⊗ x) (C ⊗ y)
          (sym (right B x y z (rejoin D (k ⊗ (c ⊗ c)) (a ⊗ b)))
          ∙ ap (λ (w : F). c ⊗ w) f ∙ times_none D c ∙ sym (times_none D b) ∙ ap (λ (w : F). b ⊗ w) (sym e)
          ∙ left C x y z (rejoin D (b ⊗ b) (a ⊗ c)))

      cycle : (r s x y z : F) → r ⊗ x ≡ s ⊗ y → r ⊗ y ≡ s ⊗ z → r ⊗ z ≡ s ⊗ (k ⊗ x) → r ⊗ r ⊗ r ⊗ x ≡ k ⊗ (s ⊗ s ⊗ s) ⊗ x
      cycle r s x y z e f g =
          times-assoc (r ⊗ r) r x ∙ ap (λ (w : F). r ⊗ r ⊗ w) e ∙ turn₁ ∙ ap (λ (w : F). r ⊗ s ⊗ w) f ∙ turn₂ ∙ ap (λ (w : F). s ⊗ s ⊗ w) g ∙ turn₃
        where
          turn₁ : r ⊗ r ⊗ (s ⊗ y) ≡ r ⊗ s ⊗ (r ⊗ y)
          turn₁ = simp (times-assoc, times-left-comm D)

          turn₂ : r ⊗ s ⊗ (s ⊗ z) ≡ s ⊗ s ⊗ (r ⊗ z)
          turn₂ = simp (times-assoc, times-left-comm D)

          turn₃ : s ⊗ s ⊗ (s ⊗ (k ⊗ x)) ≡ k ⊗ (s ⊗ s ⊗ s) ⊗ x
          turn₃ = simp (times-assoc, times-left-comm D)

      both : B ≡ none → C ≡ none → b ⊗ b ⊗ b ≡ k ⊗ (c ⊗ c ⊗ c)
      both e f =
          ap (λ (w : F). w ⊗ b) (no_difference D (b ⊗ b) (a ⊗ c) f) ∙ turn₁ ∙ ap (λ (w : F). w ⊗ c) (sym (no_difference D (k ⊗ (c ⊗ c)) (a ⊗ b) e)) ∙ turn₂
        where
          turn₁ : a ⊗ c ⊗ b ≡ a ⊗ b ⊗ c
          turn₁ = simp (times-assoc, times-comm)

          turn₂ : k ⊗ (c ⊗ c) ⊗ c ≡ k ⊗ (c ⊗ c ⊗ c)
          turn₂ = times-assoc k (c ⊗ c) c

      scaled : (x y z : F) → Part x y z → Part (k ⊗ x) (k ⊗ y) (k ⊗ z)
      scaled x y z e = turn ∙ ap (λ (w : F). k ⊗ w) e ∙ times_none D k
        where
          turn : a ⊗ (k ⊗ x) ⊕ b ⊗ (k ⊗ y) ⊕ c ⊗ (k ⊗ z) ≡ k ⊗ (a ⊗ x ⊕ b ⊗ y ⊕ c ⊗ z)
          turn = simp (times-plus, times-left-comm D)

      vanishes : (x y z : F) → Part x y z → Part y z (k ⊗ x) → Part z (k ⊗ x) (k ⊗ y) → ¬ (x ≡ none) → (a ≡ none) × (b ≡ none) × (c ≡ none)
      vanishes x y z e f g n =
          let bc : (B ≡ none) × (C ≡ none) =
          cube-alone B C (same-factor (B ⊗ B ⊗ B) (k ⊗ (C ⊗ C ⊗ C)) x
          (cycle B C x y z (step x y z e f) (step y z (k ⊗ x) f g) (step z (k ⊗ x) (k ⊗ y) g (scaled x y z e))) n) in
          let h : (b ≡ none) × (c ≡ none) = cube-alone b c (both bc.0 bc.1) in
          (factor D x a (times-comm x a ∙ sym (alone h.0 h.1) ∙ e) n, h.0, h.1)
        where
          alone : b ≡ none → c ≡ none → a ⊗ x ⊕ b ⊗ y ⊕ c ⊗ z ≡ a ⊗ x
          alone q r = ap₂ (λ (v w : F). a ⊗ x ⊕ v ⊗ y ⊕ w ⊗ z) q r ∙ simp (none-times D, plus_none)

      -- where one of x, y, z is not 0
      divisor : (d e f : F) → Part f e d → Part e d (k ⊗ f) → Part d (k ⊗ f) (k ⊗ e) →
          ((a ≡ none) × (b ≡ none) × (c ≡ none)) ⊎ ((d ≡ none) × (e ≡ none) × (f ≡ none))
      divisor d e f r s t = go (same d none) (same e none) (same f none)
        where
          go : Dec (d ≡ none) → Dec (e ≡ none) → Dec (f ≡ none) → ((a ≡ none) × (b ≡ none) × (c ≡ none)) ⊎ ((d ≡ none) × (e ≡ none) × (f ≡ none))
          go (no n) _ _ = inl (vanishes d (k ⊗ f) (k ⊗ e) t (scaled f e d r) (scaled e d (k ⊗ f) s) n)
          go (yes x) (no n) _ = inl (vanishes e d (k ⊗ f) s t (scaled f e d r) n)
          go (yes x) (yes y) (no n) = inl (vanishes f e d r s t n)
          go (yes x) (yes y) (yes z) = inr (x, y, z)

    abbrev nothing : Triple
    nothing = constant_of D none

    pub triple : (u v : Triple) → u.0 ≡ v.0 → u.1 ≡ v.1 → u.2 ≡ v.2 → u ≡ v
    triple u v x y z = λ i. (x i, y i, z i)

    pub decide : (u v : Triple) → Dec (u ≡ v)
    decide u v = go (same u.0 v.0) (same u.1 v.1) (same u.2 v.2)
      where
        go : Dec (u.0 ≡ v.0) → Dec (u.1 ≡ v.1) → Dec (u.2 ≡ v.2) → Dec (u ≡ v)
        go (no n) _ _ = no (λ q. n (ap (λ (w : Triple). w.0) q))
        go (yes x) (no n) _ = no (λ q. n (ap (λ (w : Triple). w.1) q))
        go (yes x) (yes y) (no n) = no (λ q. n (ap (λ (w : Triple). w.2) q))
        go (yes x) (yes y) (yes z) = yes (triple u v x y z)

    pub divisors : (u v : Triple) → multiplyOf D k u v ≡ nothing → (u ≡ nothing) ⊎ (v ≡ nothing)
    divisors u v q =
        go (divisor u.0 u.1 u.2 v.0 v.1 v.2
        (ap (λ (w : Triple). w.2) q)
        (ap (λ (y : F). u.0 ⊗ v.1 ⊕ u.1 ⊗ v.0 ⊕ y) (times-left-comm D u.2 k v.2) ∙ ap (λ (w : Triple). w.1) q)
        (inside u.0 u.1 u.2 v.0 v.1 v.2 ∙ ap (λ (w : Triple). w.0) q))
      where
        inside : (a b c d e f : F) → a ⊗ d ⊕ b ⊗ (k ⊗ f) ⊕ c ⊗ (k ⊗ e) ≡ a ⊗ d ⊕ k ⊗ (b ⊗ f ⊕ c ⊗ e)
        inside a b c d e f = simp (times-plus, plus_assoc, times-left-comm D)

        go : ((u.0 ≡ none) × (u.1 ≡ none) × (u.2 ≡ none)) ⊎ ((v.0 ≡ none) × (v.1 ≡ none) × (v.2 ≡ none)) → (u ≡ nothing) ⊎ (v ≡ nothing)
        go (inl h) = inl (triple u nothing h.0 h.1 h.2)
        go (inr h) = inr (triple v nothing h.0 h.1 h.2)

    unfoldable pub cubic : Domain p
    cubic = record {
      F = Triple;
      same = decide;
      plus = addOf D;
      times = multiplyOf D k;
      negative = oppositeOf D;
      none = nothing;
      one = constant_of D one;
      plus_assoc = λ u v w. triple _ _ (plus_assoc u.0 v.0 w.0) (plus_assoc u.1 v.1 w.1) (plus_assoc u.2 v.2 w.2);
      plus_comm = λ u v. triple _ _ (plus_comm u.0 v.0) (plus_comm u.1 v.1) (plus_comm u.2 v.2);
      plus_none = λ u. triple _ _ (plus_none u.0) (plus_none u.1) (plus_none u.2);
      plus-negative = λ u. triple _ _ (plus-negative u.0) (plus-negative u.1) (plus-negative u.2);
      times-assoc = λ u v w. triple _ _
          (assoc-0 k u.0 u.1 u.2 v.0 v.1 v.2 w.0 w.1 w.2)
          (assoc-1 k u.0 u.1 u.2 v.0 v.1 v.2 w.0 w.1 w.2)
          (assoc-2 k u.0 u.1 u.2 v.0 v.1 v.2 w.0 w.1 w.2);
      times-comm = λ u v. triple _ _
          (comm-0 k u.0 u.1 u.2 v.0 v.1 v.2)
          (comm-1 k u.0 u.1 u.2 v.0 v.1 v.2)
          (comm-2 u.0 u.1 u.2 v.0 v.1 v.2);
      times-one = λ u. triple _ _ (unit-0 k u.0 u.1 u.2) (unit-1 k u.0 u.1 u.2) (unit-2 u.0 u.1 u.2);
      times-plus = λ u v w. triple _ _
          (plus-0 k u.0 u.1 u.2 v.0 v.1 v.2 w.0 w.1 w.2)
          (plus-1 k u.0 u.1 u.2 v.0 v.1 v.2 w.0 w.1 w.2)
          (plus-2 u.0 u.1 u.2 v.0 v.1 v.2 w.0 w.1 w.2);
      one-is-not = λ q. one-is-not (ap (λ (w : Triple). w.0) q);
      no-divisors = divisors;
      number = λ n. constant_of D (number n);
      number-plus = λ m n. triple _ _ (number-plus m n) (sym (plus_none none)) (sym (plus_none none));
      number-once = λ m n q. number-once m n (ap (λ (w : Triple). w.0) q);
    }

    -- w³ is k, and every element is a + b w + c w²
    abbrev pub w : Triple
    w = (none, one, none)

    pub w-cubed : multiplyOf D k (multiplyOf D k w w) w ≡ constant_of D k
    w-cubed = triple _ _
        (simp (times-one, times_none D, plus_none, none-plus D))
        (simp (times-one, times_none D, plus_none, none-plus D))
        (simp (times-one, times_none D, plus_none, none-plus D))

    pub spans : (u : Triple) →
        u ≡ addOf D (addOf D (constant_of D u.0) (multiplyOf D k (constant_of D u.1) w)) (multiplyOf D k (constant_of D u.2) (multiplyOf D k w w))
    spans u = triple _ _
        (simp (times-one, times_none D, plus_none, none-plus D))
        (simp (times-one, times_none D, plus_none, none-plus D))
        (simp (times-one, times_none D, plus_none, none-plus D))
