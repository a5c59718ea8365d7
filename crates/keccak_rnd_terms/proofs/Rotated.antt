-- C rotated by one, byte by byte.
use mathlib.Core.Path.{◌≡◌}
use mathlib.Core.List.{List}
use Prim.Native.Nat.{ℕ, ◌+◌, ◌*◌, ◌/◌, ◌%◌}
use native.Mathlib.Omega.{arith}
use borrow.Author.Tests.{eq-eqb, ne_eqb}
use Rattle.lists.specs.Tab.{word}
use Rattle.field.specs.Field.{fadd}
use Rattle.keccak_rnd.specs.Tuples.{rotated_c_at}

module _ (row : List ℕ) where
  -- an odd byte takes no carry, an even one does
  pub odd_byte : (x b : ℕ) → b % 2 ≡ 1 → word row (363 + x * 8 + b) ≡ rotated_c_at row x b
  odd_byte x b h = rw (ne_eqb (b % 2) 0 (λ e. omega arith))

  pub even_byte : {v : ℕ} (x b : ℕ) → (b % 2 ≡ 1 → ⊥)
      → v ≡ fadd (word row (363 + x * 8 + b)) (word row (403 + x * 4 + (b / 2 + 3) % 4)) → v ≡ rotated_c_at row x b
  even_byte x b h q = rw (eq-eqb (b % 2) 0 (omega arith)) q
