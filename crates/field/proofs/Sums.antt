-- Sums mod p: their order does not matter, and a number may be reduced before it is added.
use mathlib.Core.Path.{◌≡◌, sym, ap, ◌∙◌}
use Prim.Native.Nat.{ℕ, ◌+◌, ◌%◌}
use native.Mathlib.Nat.{add_comm, add_assoc, mod-add-mod, add-mod-mod}
use Rattle.field.specs.Field.{p, fadd}

pub fadd-comm : (a b : ℕ) → fadd a b ≡ fadd b a
fadd-comm a b = ap (λ (x : ℕ). x % p) (add_comm a b)

pub fadd-assoc : (a b c : ℕ) → fadd (fadd a b) c ≡ fadd a (fadd b c)
fadd-assoc a b c = mod-add-mod (a + b) p c ∙ ap (λ (x : ℕ). x % p) (add_assoc a b c) ∙ sym (add-mod-mod a (b + c) p)

pub fadd-reduced : (a n : ℕ) → fadd a (n % p) ≡ fadd a n
fadd-reduced a n = add-mod-mod a n p

-- one more number in the middle
pub fadd-swap : (a b c : ℕ) → fadd (fadd a b) c ≡ fadd (fadd a c) b
fadd-swap a b c = fadd-assoc a b c ∙ ap (fadd a) (fadd-comm b c) ∙ sym (fadd-assoc a c b)
