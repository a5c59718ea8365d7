-- Pairs over a domain, w² = k, are a domain where k is no square. For let (a + b w)(d + e w) be 0; then a² d = k b² d and a² e = k b² e.
--     quadratic    the domain
--     w-squared, spans    w² is k, and every element is a + b w
use mathlib.Core.Path.{◌≡◌, sym, ap, ap₂, ◌∙◌}
use mathlib.Core.Logic.{◌⊎◌, inl, inr}
use Prim.Native.Nat.{ℕ}
use Rattle.challenge.specs.Domain.{Domain}
use Rattle.challenge.proofs.Ring.{none-plus, plus-left-comm, times-left-comm, plus_times, cancel, times_none}
use Rattle.challenge_field.specs.Quadratic.{Pair as PairOf, add_pairs, opposite_pair, constant_pair, multiply_pairs}
use Rattle.challenge_field.proofs.Cubic.{same-factor}

module _ {p : ℕ} (D : Domain p) where
  infixl 65 ◌⊕◌
  infixl 70 ◌⊗◌
  open D use {F, same, plus as ◌⊕◌, times as ◌⊗◌, negative, none, one, plus_assoc, plus_comm, plus_none, plus-negative, times-assoc, times-comm, times-one, times-plus, no-divisors, one-is-not, number, number-plus, number-once}

  abbrev Pair : Type 0
  Pair = PairOf D

  -- ---- laws of each part of a product
  pub assoc-0 : (k a b d e g h : F) → (a ⊗ d ⊕ k ⊗ (b ⊗ e)) ⊗ g ⊕ k ⊗ ((a ⊗ e ⊕ b ⊗ d) ⊗ h) ≡ a ⊗ (d ⊗ g ⊕ k ⊗ (e ⊗ h)) ⊕ k ⊗ (b ⊗ (d ⊗ h ⊕ e ⊗ g))
  assoc-0 k a b d e g h = simp (times-plus, plus_times D, plus_assoc, plus_comm, plus-left-comm D, times-assoc, times-left-comm D)

  pub assoc-1 : (k a b d e g h : F) → (a ⊗ d ⊕ k ⊗ (b ⊗ e)) ⊗ h ⊕ (a ⊗ e ⊕ b ⊗ d) ⊗ g ≡ a ⊗ (d ⊗ h ⊕ e ⊗ g) ⊕ b ⊗ (d ⊗ g ⊕ k ⊗ (e ⊗ h))
  assoc-1 k a b d e g h = simp (times-plus, plus_times D, plus_assoc, plus_comm, plus-left-comm D, times-assoc, times-left-comm D)

  pub comm-0 : (k a b d e : F) → a ⊗ d ⊕ k ⊗ (b ⊗ e) ≡ d ⊗ a ⊕ k ⊗ (e ⊗ b)
  comm-0 k a b d e = ap₂ (λ (x y : F). x ⊕ k ⊗ y) (times-comm a d) (times-comm b e)

  pub comm-1 : (a b d e : F) → a ⊗ e ⊕ b ⊗ d ≡ d ⊗ b ⊕ e ⊗ a
  comm-1 a b d e = plus_comm (a ⊗ e) (b ⊗ d) ∙ ap₂ ◌⊕◌ (times-comm b d) (times-comm a e)

  pub unit-0 : (k a b : F) → a ⊗ one ⊕ k ⊗ (b ⊗ none) ≡ a
  unit-0 k a b = simp (times-one, times_none D, plus_none)

  pub unit-1 : (a b : F) → a ⊗ none ⊕ b ⊗ one ≡ b
  unit-1 a b = simp (times-one, times_none D, none-plus D)

  pub plus-0 : (k a b d e g h : F) → a ⊗ (d ⊕ g) ⊕ k ⊗ (b ⊗ (e ⊕ h)) ≡ a ⊗ d ⊕ k ⊗ (b ⊗ e) ⊕ (a ⊗ g ⊕ k ⊗ (b ⊗ h))
  plus-0 k a b d e g h = simp (times-plus, plus_assoc, plus-left-comm D)

  pub plus-1 : (a b d e g h : F) → a ⊗ (e ⊕ h) ⊕ b ⊗ (d ⊕ g) ≡ a ⊗ e ⊕ b ⊗ d ⊕ (a ⊗ h ⊕ b ⊗ g)
  plus-1 a b d e g h = simp (times-plus, plus_assoc, plus-left-comm D)

  square-none : (x : F) → x ⊗ x ≡ none → x ≡ none
  square-none x e = go (no-divisors x x e)
    where
      go : (x ≡ none) ⊎ (x ≡ none) → x ≡ none
      go (inl q) = q
      go (inr q) = q

  module _ (k : F) (no-square : (x y : F) → x ⊗ x ≡ k ⊗ (y ⊗ y) → y ≡ none) where
    module _ (a b : F) where
      -- a (a x + b y) and b (a y + k b x) are both 0, for x y = e d, and with a step of w for d ke
      vanishes : (x y : F) → a ⊗ x ⊕ b ⊗ y ≡ none → a ⊗ y ⊕ k ⊗ (b ⊗ x) ≡ none → ¬ (x ≡ none) → (a ≡ none) × (b ≡ none)
      vanishes x y e f n =
          let squares : a ⊗ a ≡ k ⊗ (b ⊗ b) =
          same-factor D (a ⊗ a) (k ⊗ (b ⊗ b)) x
          (cancel D (a ⊗ (b ⊗ y)) (a ⊗ a ⊗ x) (k ⊗ (b ⊗ b) ⊗ x)
          (turn₁ ∙ ap (λ (w : F). a ⊗ w) e ∙ times_none D a ∙ sym (times_none D b) ∙ ap (λ (w : F). b ⊗ w) (sym f) ∙ turn₂)) n in
          let z : b ≡ none = no-square a b squares in
          (square-none a (squares ∙ ap (λ (w : F). k ⊗ (w ⊗ w)) z ∙ ap (λ (w : F). k ⊗ w) (times_none D none) ∙ times_none D k), z)
        where
          turn₁ : a ⊗ (b ⊗ y) ⊕ a ⊗ a ⊗ x ≡ a ⊗ (a ⊗ x ⊕ b ⊗ y)
          turn₁ = simp (times-plus, times-assoc, plus_comm)

          turn₂ : b ⊗ (a ⊗ y ⊕ k ⊗ (b ⊗ x)) ≡ a ⊗ (b ⊗ y) ⊕ k ⊗ (b ⊗ b) ⊗ x
          turn₂ = simp (times-plus, times-assoc, times-left-comm D)

      divisor : (d e : F) → a ⊗ d ⊕ k ⊗ (b ⊗ e) ≡ none → a ⊗ e ⊕ b ⊗ d ≡ none → ((a ≡ none) × (b ≡ none)) ⊎ ((d ≡ none) × (e ≡ none))
      divisor d e r s = go (same d none) (same e none)
        where
          scaled : a ⊗ (k ⊗ e) ⊕ k ⊗ (b ⊗ d) ≡ k ⊗ (a ⊗ e ⊕ b ⊗ d)
          scaled = simp (times-plus, times-left-comm D)

          go : Dec (d ≡ none) → Dec (e ≡ none) → ((a ≡ none) × (b ≡ none)) ⊎ ((d ≡ none) × (e ≡ none))
          go (no n) _ = inl (vanishes d (k ⊗ e) (ap (λ (w : F). a ⊗ d ⊕ w) (times-left-comm D b k e) ∙ r) (scaled ∙ ap (λ (w : F). k ⊗ w) s ∙ times_none D k) n)
          go (yes x) (no n) = inl (vanishes e d s r n)
          go (yes x) (yes y) = inr (x, y)

    abbrev nothing : Pair
    nothing = constant_pair D none

    pub pair : (u v : Pair) → u.0 ≡ v.0 → u.1 ≡ v.1 → u ≡ v
    pair u v x y = λ i. (x i, y i)

    pub decide : (u v : Pair) → Dec (u ≡ v)
    decide u v = go (same u.0 v.0) (same u.1 v.1)
      where
        go : Dec (u.0 ≡ v.0) → Dec (u.1 ≡ v.1) → Dec (u ≡ v)
        go (no n) _ = no (λ q. n (ap (λ (w : Pair). w.0) q))
        go (yes x) (no n) = no (λ q. n (ap (λ (w : Pair). w.1) q))
        go (yes x) (yes y) = yes (pair u v x y)

    pub divisors : (u v : Pair) → multiply_pairs D k u v ≡ nothing → (u ≡ nothing) ⊎ (v ≡ nothing)
    divisors u v q = go (divisor u.0 u.1 v.0 v.1 (ap (λ (w : Pair). w.0) q) (ap (λ (w : Pair). w.1) q))
      where
        go : ((u.0 ≡ none) × (u.1 ≡ none)) ⊎ ((v.0 ≡ none) × (v.1 ≡ none)) → (u ≡ nothing) ⊎ (v ≡ nothing)
        go (inl h) = inl (pair u nothing h.0 h.1)
        go (inr h) = inr (pair v nothing h.0 h.1)

    unfoldable pub quadratic : Domain p
    quadratic = record {
      F = Pair;
      same = decide;
      plus = add_pairs D;
      times = multiply_pairs D k;
      negative = opposite_pair D;
      none = nothing;
      one = constant_pair D one;
      plus_assoc = λ u v w. pair _ _ (plus_assoc u.0 v.0 w.0) (plus_assoc u.1 v.1 w.1);
      plus_comm = λ u v. pair _ _ (plus_comm u.0 v.0) (plus_comm u.1 v.1);
      plus_none = λ u. pair _ _ (plus_none u.0) (plus_none u.1);
      plus-negative = λ u. pair _ _ (plus-negative u.0) (plus-negative u.1);
      times-assoc = λ u v w. pair _ _ (assoc-0 k u.0 u.1 v.0 v.1 w.0 w.1) (assoc-1 k u.0 u.1 v.0 v.1 w.0 w.1);
      times-comm = λ u v. pair _ _ (comm-0 k u.0 u.1 v.0 v.1) (comm-1 u.0 u.1 v.0 v.1);
      times-one = λ u. pair _ _ (unit-0 k u.0 u.1) (unit-1 u.0 u.1);
      times-plus = λ u v w. pair _ _ (plus-0 k u.0 u.1 v.0 v.1 w.0 w.1) (plus-1 u.0 u.1 v.0 v.1 w.0 w.1);
      one-is-not = λ q. one-is-not (ap (λ (w : Pair). w.0) q);
      no-divisors = divisors;
      number = λ n. constant_pair D (number n);
      number-plus = λ m n. pair _ _ (number-plus m n) (sym (plus_none none));
      number-once = λ m n q. number-once m n (ap (λ (w : Pair). w.0) q);
    }

    -- w² is k, and every element is a + b w
    abbrev pub w : Pair
    w = (none, one)

    pub w-squared : multiply_pairs D k w w ≡ constant_pair D k
    w-squared = pair _ _ (simp (times-one, times_none D, none-plus D)) (simp (times-one, times_none D, plus_none))

    pub spans : (u : Pair) → u ≡ add_pairs D (constant_pair D u.0) (multiply_pairs D k (constant_pair D u.1) w)
    spans u = pair _ _ (simp (times-one, times_none D, plus_none)) (simp (times-one, times_none D, plus_none, none-plus D))
