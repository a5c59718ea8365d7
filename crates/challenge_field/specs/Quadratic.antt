-- A quadratic extension: pairs a + b w over a domain, where w² is k.
use Rattle.std.specs.Prelude.{ℕ}
use Rattle.challenge.specs.Domain.{Domain}

module _ {p : ℕ} (D : Domain p) where
  infixl 65 ◌⊕◌
  infixl 70 ◌⊗◌
  open D use {F, plus as ◌⊕◌, times as ◌⊗◌, negative, none}

  abbrev pub Pair : Type 0
  Pair = F × F

  abbrev pub add_pairs : Pair → Pair → Pair
  add_pairs u v = (u.0 ⊕ v.0, u.1 ⊕ v.1)

  abbrev pub opposite_pair : Pair → Pair
  opposite_pair u = (negative u.0, negative u.1)

  abbrev pub constant_pair : F → Pair
  constant_pair a = (a, none)

  abbrev pub multiply_pairs : F → Pair → Pair → Pair
  multiply_pairs k u v = (u.0 ⊗ v.0 ⊕ k ⊗ (u.1 ⊗ v.1), u.0 ⊗ v.1 ⊕ u.1 ⊗ v.0)
