-- Which counters the lookups of an operation's core row fall on, from its address alone: only for the contracts of this crate's
-- functions (proofs/Row.antt: the tuples of the row fall there).
use Rattle.std.specs.Prelude.{ℕ, ◌+◌, ◌*◌, ◌/◌, ◌%◌, ◌^◌, eqb}
use Rattle.lists.specs.Tab.{pick}
use Rattle.lists.specs.Sum.{sum_below}

-- how many of the places at 0 .. at (n - 1) are c
unfoldable pub hits : ℕ → (ℕ → ℕ) → ℕ → ℕ
hits n at c = sum_below n (λ i. pick (eqb c (at i)) 1 0)

-- IS_HALF of the low halfword of pointer i
abbrev pub pointer_place : ℕ → ℕ → ℕ
pointer_place a i = (a + 8 * i) % 65536 * 10 + 4

-- AND of the lowest byte and 7
abbrev pub align_place : ℕ → ℕ
align_place a = (a % 256 + 1792) * 10 + 7

-- ARE_BYTES of bytes 2i and 2i + 1, whose row is the halfword that they make
abbrev pub pair_place : ℕ → ℕ → ℕ
pair_place a i = a / 2 ^ (16 * i) % 65536 * 10 + 3

unfoldable pub address_adds : ℕ → ℕ → ℕ
address_adds a c = hits 25 (pointer_place a) c + pick (eqb c (align_place a)) 1 0 + hits 4 (pair_place a) c
