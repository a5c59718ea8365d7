-- The cubic extension from which the Rust's prover draws its challenges (tables/types.rs: w³ = 2): triples a + b w + c w² over
-- a domain, where w³ is k.
use Rattle.std.specs.Prelude.{ℕ}
use Rattle.challenge.specs.Domain.{Domain}

module _ {p : ℕ} (D : Domain p) where
  infixl 65 ◌⊕◌
  infixl 70 ◌⊗◌
  open D use {F, plus as ◌⊕◌, times as ◌⊗◌, negative, none}

  abbrev pub Triple : Type 0
  Triple = F × F × F

  abbrev pub add : Triple → Triple → Triple
  add u v = (u.0 ⊕ v.0, u.1 ⊕ v.1, u.2 ⊕ v.2)

  abbrev pub opposite : Triple → Triple
  opposite u = (negative u.0, negative u.1, negative u.2)

  abbrev pub constant : F → Triple
  constant a = (a, none, none)

  abbrev pub multiply : F → Triple → Triple → Triple
  multiply k u v = (
    u.0 ⊗ v.0 ⊕ k ⊗ (u.1 ⊗ v.2 ⊕ u.2 ⊗ v.1),
    u.0 ⊗ v.1 ⊕ u.1 ⊗ v.0 ⊕ k ⊗ (u.2 ⊗ v.2),
    u.0 ⊗ v.2 ⊕ u.1 ⊗ v.1 ⊕ u.2 ⊗ v.0,
  )
