-- Which halfword feeds which byte. C[x] is rotated left by one bit, halfword by halfword: CXZ_LEFT holds the low 16
-- bits of each shifted halfword, CXZ_RIGHT its carry. A carry goes into the lowest byte of the next halfword, and that
-- of the highest halfword comes round to byte 0. ρ rotates lane (x, y), as θ left it, by 16 q + r: ROT_LEFT holds the low
-- 16 bits of each halfword shifted by r, ROT_RIGHT its carry, and q moves both by so many halfwords. proofs/Carries.antt:
-- `carries` and `rho-carries` prove it of every active row that passes.
use Rattle.std.specs.Prelude.{◌≡◌, List, ℕ, ◌+◌, ◌-◌, ◌/◌, ◌%◌, ◌<◌}
use Rattle.lists.specs.Tab.{word}
use Rattle.bits.specs.Bits.{byte_at, halfword, left_from, right_from, rot}
use Rattle.fips202.specs.Fips.{RHO}
use Rattle.fips202.specs.Lanes.{lane, parity_l, theta_l}
use Rattle.keccak_rnd.specs.Columns.{cxz-left, cxz-right-bit, rot-left, rot-right}

-- byte b of the parity of column x, rotated by one bit
abbrev pub rotated_parity : List ℕ → ℕ → ℕ → ℕ
rotated_parity s x b = byte_at (rot (parity_l s x) 1) b

pub record Carries (row s : List ℕ) (x : ℕ) : Type 0 where
  -- byte 0 takes the carry of halfword 3, byte 2 of 0, byte 4 of 1, byte 6 of 2
  pub byte-0 : rotated_parity s x 0 ≡ word row (cxz-left x 0) + word row (cxz-right-bit x 3)
  pub byte-2 : rotated_parity s x 2 ≡ word row (cxz-left x 2) + word row (cxz-right-bit x 0)
  pub byte-4 : rotated_parity s x 4 ≡ word row (cxz-left x 4) + word row (cxz-right-bit x 1)
  pub byte-6 : rotated_parity s x 6 ≡ word row (cxz-left x 6) + word row (cxz-right-bit x 2)
  -- odd bytes take none
  pub byte-1 : rotated_parity s x 1 ≡ word row (cxz-left x 1)
  pub byte-3 : rotated_parity s x 3 ≡ word row (cxz-left x 3)
  pub byte-5 : rotated_parity s x 5 ≡ word row (cxz-left x 5)
  pub byte-7 : rotated_parity s x 7 ≡ word row (cxz-left x 7)

-- lane (x, y) after θ, rotated by its offset
abbrev pub rotated_lane : List ℕ → ℕ → ℕ → ℕ
rotated_lane s x y = rot (lane (theta_l s) x y) (RHO x y)

-- by how many halfwords the offset of lane (x, y) moves it
abbrev pub moved : ℕ → ℕ → ℕ
moved x y = RHO x y / 16

pub record RhoCarries (row s : List ℕ) (x y : ℕ) : Type 0 where
  -- halfword h takes the low part of halfword h - q and the carry of halfword h - q - 1, mod 4
  pub halves : (h : ℕ) → h < 4 →
      halfword (byte_at (rotated_lane s x y)) h
      ≡ halfword (λ b. word row (rot-left x y b)) ((h + (4 - moved x y)) % 4) + halfword (λ b. word row (rot-right x y b)) ((h + (7 - moved x y)) % 4)
  -- and each byte of it, even or odd, takes a byte of both
  pub bytes : (b : ℕ) → b < 8 →
      byte_at (rotated_lane s x y) b ≡ word row (rot-left x y (left_from (moved x y) b)) + word row (rot-right x y (right_from (moved x y) b))
