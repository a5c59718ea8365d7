-- FIPS 202, sections 2.3, 3.1, 3.3, 4, 5 and 6.1, on strings of bits and in the standard's order; and bytes as strings, as
-- in its appendix B.1. A string is a list of bits, each 0 or 1. That Sha3.antt gives the same in bytes:
-- proofs/Sponge.antt, `sha3-bits`.
use Rattle.std.specs.Prelude.{ℕ, zero, suc, ◌+◌, ◌-◌, ◌*◌, ◌/◌, ◌%◌, ◌<◌, List, [], ◌∷◌, ◌++◌, leb, length, get_or, take, drop, replicate}
use Rattle.lists.specs.Tab.{pick, tab, word, table_of}
use Rattle.bits.specs.Bits.{bit}
use Rattle.fips202.specs.Fips.{State, xor_bit, keccak_p}

-- 2.3: "Trunc_s(X)", the bits X[0] to X[s - 1]
abbrev pub Trunc : ℕ → List ℕ → List ℕ
Trunc s X = take s X

-- 2.3: "0^s"
abbrev pub zeros : ℕ → List ℕ
zeros s = replicate s 0

-- 2.3: X ⊕ Y of two strings of the same length, bit by bit
unfoldable pub xor_string : List ℕ → List ℕ → List ℕ
xor_string X Y = tab (length X) (λ k. xor_bit (get_or X k 0) (get_or Y k 0))

-- 3.1.2: "A[x, y, z] = S[w (5y + x) + z]"
unfoldable pub state_of : List ℕ → State
state_of S x y z = get_or S (64 * (5 * y + x) + z) 0

-- 3.1.3: "Lane(i, j) = A[i, j, 0] ∥ A[i, j, 1] ∥ .. ∥ A[i, j, w - 1]"
abbrev pub lane_string : State → ℕ → ℕ → List ℕ
lane_string A i j = tab 64 (A i j)

-- "Plane(j) = Lane(0, j) ∥ Lane(1, j) ∥ Lane(2, j) ∥ Lane(3, j) ∥ Lane(4, j)"
unfoldable pub plane_string : State → ℕ → List ℕ
plane_string A j = table_of 5 64 (λ i. lane_string A i j)

-- "S = Plane(0) ∥ Plane(1) ∥ Plane(2) ∥ Plane(3) ∥ Plane(4)"
unfoldable pub string_of : State → List ℕ
string_of A = table_of 5 320 (plane_string A)

-- 3.3, Algorithm 7, Keccak-p[1600, nr](S): "Convert S into a state array" (step 1), the rounds (step 2), "Convert A into a
-- string" (step 3)
unfoldable pub keccak_ps : ℕ → List ℕ → List ℕ
keccak_ps nr S = string_of (keccak_p nr (state_of S))

-- 5.1, Algorithm 9, pad10*1(x, m). "Let j = (- m - 2) mod x" (step 1). "Return P = 1 ∥ 0^j ∥ 1" (step 2). "Output: string P
-- such that m + len(P) is a positive multiple of x": proofs/Sponge.antt, `pad-multiple`.
abbrev pub pad_zeros : ℕ → ℕ → ℕ
pad_zeros x m = (x - (m + 2) % x) % x

unfoldable pub pad10*1 : ℕ → ℕ → List ℕ
pad10*1 x m = 1 ∷ zeros (pad_zeros x m) ++ (1 ∷ [])

-- 4, Algorithm 8, SPONGE[f, pad, r](N, d), where f is on strings of b bits. "Let P = N ∥ pad(r, len(N))" (step 1)
unfoldable pub padded : (ℕ → ℕ → List ℕ) → ℕ → List ℕ → List ℕ
padded pad r N = N ++ pad r (length N)

-- "Let P_0, .., P_(n - 1) be the unique sequence of strings of length r such that P = P_0 ∥ .. ∥ P_(n - 1)" (step 4; c is
-- b - r, step 3)
abbrev pub block : ℕ → List ℕ → ℕ → List ℕ
block r P i = take r (drop (i * r) P)

-- "Let S = 0^b" (step 5). "For i from 0 to n - 1, let S = f(S ⊕ (P_i ∥ 0^c))" (step 6)
unfoldable pub absorbing : ℕ → (List ℕ → List ℕ) → ℕ → List ℕ → ℕ → List ℕ
absorbing b f r P zero = zeros b
absorbing b f r P (suc n) = f (xor_string (absorbing b f r P n) (block r P n ++ zeros (b - r)))

-- "Let Z = Z ∥ Trunc_r(S)" (step 8). "If d ≤ |Z|, then return Trunc_d(Z); else continue" (step 9). "Let S = f(S), and
-- continue with Step 8" (step 10). As r is positive, d times are enough.
unfoldable pub squeezing : (List ℕ → List ℕ) → ℕ → ℕ → ℕ → List ℕ → List ℕ → List ℕ
squeezing f r d zero Z S = Trunc d Z
squeezing f r d (suc left) Z S =
    pick (leb d (length (Z ++ Trunc r S))) (Trunc d (Z ++ Trunc r S)) (squeezing f r d left (Z ++ Trunc r S) (f S))

-- all of it: "Let n = len(P)/r" (step 2); "Let Z be the empty string" (step 7)
unfoldable pub sponge : ℕ → (List ℕ → List ℕ) → (ℕ → ℕ → List ℕ) → ℕ → List ℕ → ℕ → List ℕ
sponge b f pad r N d = squeezing f r d d [] (absorbing b f r (padded pad r N) (length (padded pad r N) / r))

-- 5.2: "Keccak[c] = SPONGE[Keccak-p[1600, 24], pad10*1, 1600 - c]"
unfoldable pub keccak_c : ℕ → List ℕ → ℕ → List ℕ
keccak_c c N d = sponge 1600 (keccak_ps 24) pad10*1 (1600 - c) N d

-- 6.1: "SHA3-256(M) = Keccak[512](M ∥ 01, 256)"
unfoldable pub sha3-256-bits : List ℕ → List ℕ
sha3-256-bits M = keccak_c 512 (M ++ (0 ∷ 1 ∷ [])) 256

-- B.1, Algorithm 10 (h2b): byte i is b_i7 · 2^7 + .. + b_i1 · 2 + b_i0, and gives the bits b_i0, b_i1, .., b_i7
unfoldable pub byte_bits : ℕ → List ℕ
byte_bits byte = tab 8 (bit byte)

-- one byte after the other
unfoldable pub bits_of : List ℕ → List ℕ
bits_of bytes = table_of (length bytes) 8 (λ i. byte_bits (word bytes i))

-- each below 256
abbrev pub OnlyBytes : List ℕ → Type 0
OnlyBytes bytes = (k : ℕ) → word bytes k < 256
