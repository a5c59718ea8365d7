-- Laws of a ring without zero divisors.
use mathlib.Core.Path.{◌≡◌, refl, sym, ap, ap₂, ◌∙◌}
use mathlib.Core.Logic.{◌⊎◌, inl, inr}
use Prim.Native.Nat.{ℕ}
use Rattle.challenge.specs.Domain.{Domain}
use Rattle.challenge.specs.Check.{◌⊖◌ as minus}

module _ {p : ℕ} (D : Domain p) where
  infixl 65 ◌⊕◌
  infixl 65 ◌⊖◌
  infixl 70 ◌⊗◌
  open D use {F, plus as ◌⊕◌, times as ◌⊗◌, negative, none, one, plus_assoc, plus_comm, plus_none, plus-negative, times-assoc, times-comm, times-one, times-plus, no-divisors}

  abbrev ◌⊖◌ : F → F → F
  a ⊖ b = minus D a b

  pub none-plus : (a : F) → none ⊕ a ≡ a
  none-plus a = plus_comm none a ∙ plus_none a

  pub negative-plus : (a : F) → negative a ⊕ a ≡ none
  negative-plus a = plus_comm (negative a) a ∙ plus-negative a

  pub plus-left-comm : (a b c : F) → a ⊕ (b ⊕ c) ≡ b ⊕ (a ⊕ c)
  plus-left-comm a b c = sym (plus_assoc a b c) ∙ ap (λ s. s ⊕ c) (plus_comm a b) ∙ plus_assoc b a c

  pub times-left-comm : (a b c : F) → a ⊗ (b ⊗ c) ≡ b ⊗ (a ⊗ c)
  times-left-comm a b c = sym (times-assoc a b c) ∙ ap (λ s. s ⊗ c) (times-comm a b) ∙ times-assoc b a c

  pub plus_times : (a b c : F) → (a ⊕ b) ⊗ c ≡ (a ⊗ c) ⊕ (b ⊗ c)
  plus_times a b c = times-comm (a ⊕ b) c ∙ times-plus c a b ∙ ap₂ ◌⊕◌ (times-comm c a) (times-comm c b)

  pub cancel : (a b c : F) → a ⊕ b ≡ a ⊕ c → b ≡ c
  cancel a b c e =
      sym (none-plus b) ∙ ap (λ s. s ⊕ b) (sym (negative-plus a)) ∙ plus_assoc (negative a) a b ∙ ap (λ s. negative a ⊕ s) e
      ∙ sym (plus_assoc (negative a) a c) ∙ ap (λ s. s ⊕ c) (negative-plus a) ∙ none-plus c

  pub times_none : (a : F) → a ⊗ none ≡ none
  times_none a = cancel (a ⊗ none) (a ⊗ none) none (sym (times-plus a none none) ∙ ap (λ s. a ⊗ s) (plus_none none) ∙ sym (plus_none (a ⊗ none)))

  pub none-times : (a : F) → none ⊗ a ≡ none
  none-times a = times-comm none a ∙ times_none a

  pub rejoin : (a b : F) → b ⊕ (a ⊖ b) ≡ a
  rejoin a b = plus-left-comm b a (negative b) ∙ ap (λ s. a ⊕ s) (plus-negative b) ∙ plus_none a

  pub no_difference : (a b : F) → a ⊖ b ≡ none → a ≡ b
  no_difference a b e = sym (rejoin a b) ∙ ap (λ s. b ⊕ s) e ∙ plus_none b

  pub factor : (a b : F) → a ⊗ b ≡ none → ¬ (a ≡ none) → b ≡ none
  factor a b e n = go (no-divisors a b e)
    where
      go : (a ≡ none) ⊎ (b ≡ none) → b ≡ none
      go (inl q) = absurd (n q)
      go (inr q) = q

  -- one step of the division by x − r: d stands for x − r
  pub divide-step : (x r d c s q : F) → r ⊕ d ≡ x → x ⊗ (c ⊕ (s ⊕ d ⊗ q)) ≡ r ⊗ (c ⊕ s) ⊕ d ⊗ ((c ⊕ s) ⊕ x ⊗ q)
  divide-step x r d c s q e =
      let m : (r ⊕ d) ⊗ (c ⊕ (s ⊕ d ⊗ q)) ≡ r ⊗ (c ⊕ s) ⊕ d ⊗ ((c ⊕ s) ⊕ (r ⊕ d) ⊗ q) =
      simp (times-plus, plus_times, plus_assoc, plus-left-comm, times-left-comm) in
      ap (λ y. y ⊗ (c ⊕ (s ⊕ d ⊗ q))) (sym e) ∙ m ∙ ap (λ y. r ⊗ (c ⊕ s) ⊕ d ⊗ ((c ⊕ s) ⊕ y ⊗ q)) e

  -- ---- steps of the sum of fractions, over z − f: d is z − f, o and n denominator and numerator of the fractions that are not at f, c
  -- what those at f have above, u the product of z − f, one for each of them
  pub step-at : (d u o c n a : F) → d ⊗ (a ⊗ (u ⊗ o) ⊕ u ⊗ (c ⊗ o ⊕ d ⊗ n)) ≡ d ⊗ u ⊗ ((a ⊕ c) ⊗ o ⊕ d ⊗ n)
  step-at d u o c n a = simp (times-plus, plus_times, plus_assoc, times-assoc, times-left-comm)

  pub step_other : (d u o c n a g : F) →
      d ⊗ (a ⊗ (u ⊗ o)) ⊕ g ⊗ (u ⊗ (c ⊗ o ⊕ d ⊗ n)) ≡ u ⊗ (c ⊗ (g ⊗ o) ⊕ d ⊗ (a ⊗ o ⊕ g ⊗ n))
  step_other d u o c n a g = simp (times-plus, plus-left-comm, times-left-comm)

  pub step_sum : (d o q r : F) → q ⊗ d ⊗ o ⊕ d ⊗ (o ⊗ r) ≡ d ⊗ o ⊗ (q ⊕ r)
  step_sum d o q r = simp (times-plus, times-assoc, times-comm)

  pub step-append : (a x y d m n : F) → a ⊗ (x ⊗ y) ⊕ d ⊗ (m ⊗ y ⊕ x ⊗ n) ≡ (a ⊗ x ⊕ d ⊗ m) ⊗ y ⊕ d ⊗ x ⊗ n
  step-append a x y d m n = simp (times-plus, plus_times, plus_assoc, times-assoc)

  -- ---- negatives
  pub opposite : (a b : F) → a ⊕ b ≡ none → b ≡ negative a
  opposite a b e = cancel a b (negative a) (e ∙ sym (plus-negative a))

  pub minus_one : (a : F) → negative one ⊗ a ≡ negative a
  minus_one a =
      opposite a (negative one ⊗ a)
      (ap (λ (y : F). y ⊕ negative one ⊗ a) (sym (times-one a) ∙ times-comm a one)
      ∙ sym (plus_times one (negative one) a)
      ∙ ap (λ (y : F). y ⊗ a) (plus-negative one)
      ∙ none-times a)

  pub negative-sum : (a b : F) → negative (a ⊕ b) ≡ negative a ⊕ negative b
  negative-sum a b =
      sym (opposite (a ⊕ b) (negative a ⊕ negative b)
      (plus_assoc a b (negative a ⊕ negative b)
      ∙ ap (λ (y : F). a ⊕ y) (rejoin (negative a) b)
      ∙ plus-negative a))
