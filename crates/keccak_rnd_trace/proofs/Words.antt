-- The words of the rows of nr rounds: a block of nr rows to an operation, so that a place in the table is a product of two
-- variables.
use mathlib.Core.Path.{◌≡◌, sym, subst}
use mathlib.Core.List.{List}
use Prim.Native.Nat.{ℕ, suc, ◌+◌, ◌*◌, ◌≤◌, ◌<◌}
use native.Mathlib.Nat.{mul_assoc, suc-mul, zero-mul, mul-le-mul_right}
use native.Mathlib.Omega.{arith}
use Rattle.lists.proofs.Laws.{Filled, filled_none}

-- the blocks of n operations are n times nr rows
pub blocks : (n nr : ℕ) → n * (nr * 1480) ≡ n * nr * 1480
blocks n nr = sym (mul_assoc n nr 1480)

-- the block of an operation ends before those of all n do
pub block-end : (n nr i : ℕ) → i < n → i * (nr * 1480) + nr * 1480 ≤ n * nr * 1480
block-end n nr i h = omega (arith, suc-mul i (nr * 1480), mul-le-mul_right (nr * 1480) h, blocks n nr)

-- before the first block nothing is stored
pub no_blocks : (l : List ℕ) (n w : ℕ) (f : ℕ → ℕ) → Filled l 0 n f l (0 * w)
no_blocks l n w f = subst (Filled l 0 n f l) (sym (zero-mul w)) (filled_none l 0 n f)
