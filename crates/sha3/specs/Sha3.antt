-- SHA3-256 of a message of bytes: FIPS 202, sections 4, 5 and 6.1, with bytes as in its appendix B.
use Rattle.std.specs.Prelude.{ℕ, zero, suc, ◌+◌, ◌*◌, ◌/◌, List, eqb, ltb, length, get_or, replicate}
use Rattle.std.specs.Int.Bits.{bit_xor}
use Rattle.lists.specs.Tab.{pick, tab}
use Rattle.bits.specs.Bits.{lane_of, lane_byte}
use Rattle.fips202.specs.Lanes.{keccak_pl}

-- 5.2 and 6.1: the rate r = 1600 - c in bytes, c = 512
abbrev pub RATE : ℕ
RATE = 136

-- how many blocks the padded message has (Algorithm 8, step 2): the padding is of 1 to 136 bytes
abbrev pub blocks : List ℕ → ℕ
blocks m = length m / RATE + 1

-- byte k of the padded message, M ∥ 01 ∥ pad10*1 (5.1, 6.1), which Table 6 of B.2 gives in bytes: the message, then 06,
-- zeros, and a last byte 80; where the padding is one byte, it is their sum 86
unfoldable pub padded_byte : List ℕ → ℕ → ℕ
padded_byte m k = get_or m k 0 + pick (eqb k (length m)) 0x06 0 + pick (eqb (k + 1) (RATE * blocks m)) 0x80 0

-- lane j of P_i ∥ 0^c (Algorithm 8, step 6): eight bytes of block i, lowest first, and 0 from lane 17 on
unfoldable pub block_lane : List ℕ → ℕ → ℕ → ℕ
block_lane m i j = pick (ltb j 17) (lane_of (λ b. padded_byte m (RATE * i + 8 * j + b))) 0

-- S ⊕ (P_i ∥ 0^c)
unfoldable pub added : List ℕ → ℕ → List ℕ → List ℕ
added m i s = tab 25 (λ j. bit_xor (get_or s j 0) (block_lane m i j))

-- Algorithm 8, steps 5 and 6: S after n blocks, from the zero state on
unfoldable pub absorbed : List ℕ → ℕ → List ℕ
absorbed m zero = replicate 25 0
absorbed m (suc n) = keccak_pl 24 (added m n (absorbed m n))

-- 6.1: SHA3-256(M), the first d = 256 bits of S after all blocks (Algorithm 8, steps 7 to 9, as d is at most r)
unfoldable pub sha3-256 : List ℕ → List ℕ
sha3-256 m = tab 32 (lane_byte (absorbed m (blocks m)))
