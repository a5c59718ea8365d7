-- Which halfword's carry goes into which byte, of C rotated by one and of each lane that ρ rotates, in every row whose
-- cells are right.
use mathlib.Core.Path.{◌≡◌, sym, ap, ap₂, ◌∙◌}
use mathlib.Core.List.{List}
use Prim.Native.Nat.{ℕ, ◌+◌, ◌-◌, ◌*◌, ◌%◌, ◌<◌}
use native.Mathlib.Nat.{add-zero}
use native.Mathlib.Omega.{arith}
use Rattle.lists.specs.Tab.{word}
use Rattle.fips202.specs.Lanes.{lane, Lanes}
use Rattle.keccak_rnd.specs.Columns.{cxz-left, cxz-right-bit, rot-left, rot-right, ROUND, START, MU}
use Rattle.bits.specs.Bits.{byte_at, halfword, left_byte, left_from, right_from, rot}
use Rattle.bits.proofs.Rotate.{left-even, left-odd, right-even, right-odd}
use Rattle.fips202.specs.Fips.{RHO}
use Rattle.keccak_rnd.specs.Row.{c_byte, cxz_right_bit, rotated_c, theta_lanes}
use Rattle.keccak_rnd.specs.Passes.{RoundPasses, RoundCells}
use Rattle.keccak_rnd.specs.Carries.{Carries, rotated_parity, RhoCarries, rotated_lane, moved}
use Rattle.keccak.specs.Row.{state_lanes}
use Rattle.field.specs.Field.{p}
use Rattle.keccak_rnd.proofs.Lanes.{rotated-byte, rho-byte, theta-is, theta-lanes-lt}
use Rattle.keccak_rnd.proofs.Soundness.{round-sound}

module _ (row : List ℕ) (r : ℕ) (s : List ℕ) (hs : Lanes s) (c : RoundCells row r s) (x : ℕ) (hx : x < 5) where
  pub cells-carries : Carries row s x
  unfolding rotated_c
  cells-carries =
      record {
        byte-0 = even 0 3 (omega arith) (omega arith) (sym (rotated-byte s x hs hx 0 (omega arith)));
        byte-2 = even 2 0 (omega arith) (omega arith) (sym (rotated-byte s x hs hx 2 (omega arith)));
        byte-4 = even 4 1 (omega arith) (omega arith) (sym (rotated-byte s x hs hx 4 (omega arith)));
        byte-6 = even 6 2 (omega arith) (omega arith) (sym (rotated-byte s x hs hx 6 (omega arith)));
        byte-1 = odd 1 (omega arith) (sym (rotated-byte s x hs hx 1 (omega arith)));
        byte-3 = odd 3 (omega arith) (sym (rotated-byte s x hs hx 3 (omega arith)));
        byte-5 = odd 5 (omega arith) (sym (rotated-byte s x hs hx 5 (omega arith)));
        byte-7 = odd 7 (omega arith) (sym (rotated-byte s x hs hx 7 (omega arith)));
      }
    where
      even : (b h : ℕ) → b < 8 → h < 4 → rotated_parity s x b ≡ left_byte (c_byte s x) 1 b + cxz_right_bit s x h →
          rotated_parity s x b ≡ word row (cxz-left x b) + word row (cxz-right-bit x h)
      even b h hb hh e = e ∙ ap₂ ◌+◌ (sym (c.left_is x b hx hb)) (sym (c.right_is x h hx hh))

      odd : (b : ℕ) → b < 8 → rotated_parity s x b ≡ left_byte (c_byte s x) 1 b + 0 → rotated_parity s x b ≡ word row (cxz-left x b)
      odd b hb e = e ∙ add-zero (left_byte (c_byte s x) 1 b) ∙ sym (c.left_is x b hx hb)

module _ (row : List ℕ) (r : ℕ) (s : List ℕ) (hs : Lanes s) (c : RoundCells row r s) (x y : ℕ) (hx : x < 5) (hy : y < 5) where
  cells-bytes : (b : ℕ) → b < 8 →
      byte_at (rotated_lane s x y) b ≡ word row (rot-left x y (left_from (moved x y) b)) + word row (rot-right x y (right_from (moved x y) b))
  cells-bytes b hb =
      ap (λ (t : List ℕ). byte_at (rot (lane t x y) (RHO x y)) b) (sym (theta-is s hs))
      ∙ sym (rho-byte (theta_lanes s) (theta-lanes-lt s hs) x y b hx hy hb)
      ∙ ap₂ ◌+◌ (sym (c.rot-left-is x y (left_from (moved x y) b) hx hy (omega arith))) (sym (c.rot-right-is x y (right_from (moved x y) b) hx hy (omega arith)))

  pub cells-rho-carries : RhoCarries row s x y
  cells-rho-carries = record { halves = half; bytes = cells-bytes }
    where
      near : moved x y < 4
      near = omega arith

      half : (h : ℕ) → h < 4 →
          halfword (byte_at (rotated_lane s x y)) h
          ≡ halfword (λ b. word row (rot-left x y b)) ((h + (4 - moved x y)) % 4) + halfword (λ b. word row (rot-right x y b)) ((h + (7 - moved x y)) % 4)
      half h l =
          let even = cells-bytes (2 * h) (omega arith)
          ∙ ap₂ (λ (i j : ℕ). word row (rot-left x y i) + word row (rot-right x y j)) (left-even (moved x y) h near l) (right-even (moved x y) h near l) in
          let odd = cells-bytes (2 * h + 1) (omega arith)
          ∙ ap₂ (λ (i j : ℕ). word row (rot-left x y i) + word row (rot-right x y j)) (left-odd (moved x y) h near l) (right-odd (moved x y) h near l) in
          ap₂ (λ (u v : ℕ). u + v * 256) even odd ∙ omega arith

-- THE CARRIES, in every active row that passes, whoever filled it
pub carries : (row : List ℕ) → ((k : ℕ) → word row k < p) → RoundPasses row → word row MU ≡ 1 → (x : ℕ) → x < 5 → Carries row (state_lanes START row) x
carries row small ok on x hx =
    let sound = round-sound row small ok on in
    cells-carries row (word row ROUND) (state_lanes START row) sound.lanes sound.cells x hx

pub rho-carries : (row : List ℕ) → ((k : ℕ) → word row k < p) → RoundPasses row → word row MU ≡ 1 → (x y : ℕ) → x < 5 → y < 5 → RhoCarries row (state_lanes START row) x y
rho-carries row small ok on x y hx hy =
    let sound = round-sound row small ok on in
    cells-rho-carries row (word row ROUND) (state_lanes START row) sound.lanes sound.cells x y hx hy
