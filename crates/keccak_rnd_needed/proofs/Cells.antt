-- The cells of a bent row, by x, y, b; and its words are below p.
use mathlib.Core.Path.{◌≡◌, ap, ◌∙◌}
use mathlib.Core.List.{List}
use Prim.Native.Nat.{ℕ, ◌+◌, ◌*◌, ◌/◌, ◌%◌, ◌<◌}
use native.Mathlib.Omega.{arith}
use lib.ListN.{length}
use Rattle.lists.specs.Tab.{word}
use Rattle.lists.proofs.Laws.{length-row_of, row-at, each_row}
use Rattle.lists.proofs.Then.{at-two, at-three}
use Rattle.field.specs.Field.{p}
use Rattle.bits.specs.Bits.{byte_at, lane_byte, left_byte, right_byte}
use Rattle.bits.proofs.BitLaws.{by_bit}
use Rattle.bits.proofs.Bytes.{lane_byte_lem}
use Rattle.fips202.specs.Lanes.{lane}
use Rattle.keccak.proofs.Cells.{byte_word}
use Rattle.keccak_rnd.specs.Columns.{TIMESTAMP-0, TIMESTAMP-1, ROUND, MU, start, cxz, cxz-left, cxz-right-bit, dxz, theta, rot-left, rot-right, chi-ands, chi, rc, iota}
use Rattle.keccak_rnd.specs.Row.{cxz_byte, c_byte, cxz_right_bit, rot_left_byte, rot_right_byte}
use Rattle.keccak_rnd.proofs.Lanes.{cxz-lt, carry-lt}
use Rattle.keccak_rnd_needed.specs.Bent.{sum_lanes, shift_lanes, d_lane, theta_bent, rho_bent, ands_bent, chi_bent, rc_bent, iota_bent, bent_groups, bent_row}

module _ (j : ℕ) (stamp : ℕ → ℕ) (r : ℕ) (s : List ℕ) where
  abbrev row : List ℕ
  row = bent_row j stamp r s

  pub length-bent : length row ≡ 1480
  unfolding bent_row bent_groups
  length-bent = length-row_of (bent_groups j stamp r s)

  pub read-t0 : word row TIMESTAMP-0 ≡ stamp 0
  unfolding bent_row bent_groups
  read-t0 = row-at (bent_groups j stamp r s) 0 0 (omega arith)

  pub read-t1 : word row TIMESTAMP-1 ≡ stamp 1
  unfolding bent_row bent_groups
  read-t1 = row-at (bent_groups j stamp r s) 0 1 (omega arith)

  pub read-round : word row ROUND ≡ r
  unfolding bent_row bent_groups
  read-round = row-at (bent_groups j stamp r s) 1 0 (omega arith)

  pub read-start : (x y b : ℕ) → x < 5 → y < 5 → b < 8 → word row (start x y b) ≡ byte_at (lane s x y) b
  unfolding bent_row bent_groups
  read-start x y b hx hy hb =
      let i : start x y b ≡ 3 + (8 * (x + 5 * y) + b) = omega arith in
      ap (word row) i ∙ row-at (bent_groups j stamp r s) 2 (8 * (x + 5 * y) + b) (omega arith) ∙ lane_byte_lem s (x + 5 * y) b hb

  pub read-cxz : (x k b : ℕ) → x < 5 → k < 4 → b < 8 → word row (cxz x k b) ≡ cxz_byte (sum_lanes j s) x k b
  unfolding bent_row bent_groups
  read-cxz x k b hx hk hb =
      let i : cxz x k b ≡ 203 + ((x * 4 + k) * 8 + b) = omega arith in
      let e₀ : ((x * 4 + k) * 8 + b) / 32 ≡ x = omega arith in
      let e₁ : ((x * 4 + k) * 8 + b) / 8 % 4 ≡ k = omega arith in
      let e₂ : ((x * 4 + k) * 8 + b) % 8 ≡ b = omega arith in
      ap (word row) i ∙ row-at (bent_groups j stamp r s) 3 ((x * 4 + k) * 8 + b) (omega arith) ∙ at-three (cxz_byte (sum_lanes j s)) e₀ e₁ e₂

  pub read_left : (x b : ℕ) → x < 5 → b < 8 → word row (cxz-left x b) ≡ left_byte (c_byte (shift_lanes j s) x) 1 b
  unfolding bent_row bent_groups
  read_left x b hx hb =
      let i : cxz-left x b ≡ 363 + (x * 8 + b) = omega arith in
      let e₀ : (x * 8 + b) / 8 ≡ x = omega arith in
      let e₁ : (x * 8 + b) % 8 ≡ b = omega arith in
      ap (word row) i ∙ row-at (bent_groups j stamp r s) 4 (x * 8 + b) (omega arith) ∙ at-two (λ x b. left_byte (c_byte (shift_lanes j s) x) 1 b) e₀ e₁

  pub read_right : (x b : ℕ) → x < 5 → b < 4 → word row (cxz-right-bit x b) ≡ cxz_right_bit (shift_lanes j s) x b
  unfolding bent_row bent_groups
  read_right x b hx hb =
      let i : cxz-right-bit x b ≡ 403 + (x * 4 + b) = omega arith in
      let e₀ : (x * 4 + b) / 4 ≡ x = omega arith in
      let e₁ : (x * 4 + b) % 4 ≡ b = omega arith in
      ap (word row) i ∙ row-at (bent_groups j stamp r s) 5 (x * 4 + b) (omega arith) ∙ at-two (cxz_right_bit (shift_lanes j s)) e₀ e₁

  pub read-d : (x b : ℕ) → x < 5 → b < 8 → word row (dxz x b) ≡ byte_at (d_lane j s x) b
  unfolding bent_row bent_groups
  read-d x b hx hb =
      let i : dxz x b ≡ 423 + (x * 8 + b) = omega arith in
      let e₀ : (x * 8 + b) / 8 ≡ x = omega arith in
      let e₁ : (x * 8 + b) % 8 ≡ b = omega arith in
      ap (word row) i ∙ row-at (bent_groups j stamp r s) 6 (x * 8 + b) (omega arith) ∙ at-two (λ x b. byte_at (d_lane j s x) b) e₀ e₁

  pub read-theta : (x y b : ℕ) → x < 5 → y < 5 → b < 8 → word row (theta x y b) ≡ byte_at (lane (theta_bent j s) x y) b
  unfolding bent_row bent_groups
  read-theta x y b hx hy hb =
      let i : theta x y b ≡ 463 + (8 * (x + 5 * y) + b) = omega arith in
      ap (word row) i ∙ row-at (bent_groups j stamp r s) 7 (8 * (x + 5 * y) + b) (omega arith) ∙ lane_byte_lem (theta_bent j s) (x + 5 * y) b hb

  pub read-rot-left : (x y b : ℕ) → x < 5 → y < 5 → b < 8 → word row (rot-left x y b) ≡ rot_left_byte (rho_bent j s) x y b
  unfolding bent_row bent_groups
  read-rot-left x y b hx hy hb =
      let i : rot-left x y b ≡ 663 + ((x + 5 * y) * 8 + b) = omega arith in
      let e₀ : ((x + 5 * y) * 8 + b) / 8 % 5 ≡ x = omega arith in
      let e₁ : ((x + 5 * y) * 8 + b) / 40 ≡ y = omega arith in
      let e₂ : ((x + 5 * y) * 8 + b) % 8 ≡ b = omega arith in
      ap (word row) i ∙ row-at (bent_groups j stamp r s) 8 ((x + 5 * y) * 8 + b) (omega arith) ∙ at-three (rot_left_byte (rho_bent j s)) e₀ e₁ e₂

  pub read-rot-right : (x y b : ℕ) → x < 5 → y < 5 → b < 8 → word row (rot-right x y b) ≡ rot_right_byte (rho_bent j s) x y b
  unfolding bent_row bent_groups
  read-rot-right x y b hx hy hb =
      let i : rot-right x y b ≡ 863 + ((x + 5 * y) * 8 + b) = omega arith in
      let e₀ : ((x + 5 * y) * 8 + b) / 8 % 5 ≡ x = omega arith in
      let e₁ : ((x + 5 * y) * 8 + b) / 40 ≡ y = omega arith in
      let e₂ : ((x + 5 * y) * 8 + b) % 8 ≡ b = omega arith in
      ap (word row) i ∙ row-at (bent_groups j stamp r s) 9 ((x + 5 * y) * 8 + b) (omega arith) ∙ at-three (rot_right_byte (rho_bent j s)) e₀ e₁ e₂

  pub read-ands : (x y b : ℕ) → x < 5 → y < 5 → b < 8 → word row (chi-ands x y b) ≡ byte_at (lane (ands_bent j s) x y) b
  unfolding bent_row bent_groups
  read-ands x y b hx hy hb =
      let i : chi-ands x y b ≡ 1063 + (8 * (x + 5 * y) + b) = omega arith in
      ap (word row) i ∙ row-at (bent_groups j stamp r s) 10 (8 * (x + 5 * y) + b) (omega arith) ∙ lane_byte_lem (ands_bent j s) (x + 5 * y) b hb

  pub read-chi : (x y b : ℕ) → x < 5 → y < 5 → b < 8 → word row (chi x y b) ≡ byte_at (lane (chi_bent j s) x y) b
  unfolding bent_row bent_groups
  read-chi x y b hx hy hb =
      let i : chi x y b ≡ 1263 + (8 * (x + 5 * y) + b) = omega arith in
      ap (word row) i ∙ row-at (bent_groups j stamp r s) 11 (8 * (x + 5 * y) + b) (omega arith) ∙ lane_byte_lem (chi_bent j s) (x + 5 * y) b hb

  pub read-rc : (b : ℕ) → b < 8 → word row (rc b) ≡ byte_at (rc_bent j r) b
  unfolding bent_row bent_groups
  read-rc b hb = row-at (bent_groups j stamp r s) 12 b hb

  pub read-iota : (b : ℕ) → b < 8 → word row (iota b) ≡ byte_at (iota_bent j r s) b
  unfolding bent_row bent_groups
  read-iota b hb = row-at (bent_groups j stamp r s) 13 b hb

  pub read-mu : word row MU ≡ 1
  unfolding bent_row bent_groups
  read-mu = row-at (bent_groups j stamp r s) 14 0 (omega arith)

  pub bent-words : stamp 0 < p → stamp 1 < p → r < 32 → (k : ℕ) → word row k < p
  unfolding bent_row bent_groups lane_byte rot_left_byte rot_right_byte left_byte right_byte
  bent-words h0 h1 hr =
      each_row (λ n. n < p) (bent_groups j stamp r s) (omega arith) (
        stamps,
        (
          (λ k l. omega arith),
          (
            (λ k l. byte_word _ _),
            (
              (λ k l. omega (arith, cxz-lt (sum_lanes j s) (k / 32) (k / 8 % 4) (k % 8))),
              (
                (λ k l. byte_word _ _),
                (
                  (λ k l. omega (arith, carry-lt (shift_lanes j s) (k / 4) (k % 4) (omega arith))),
                  (
                    (λ k l. byte_word _ _),
                    (
                      (λ k l. byte_word _ _),
                      (
                        (λ k l. byte_word _ _),
                        (
                          (λ k l. byte_word _ _),
                          ((λ k l. byte_word _ _), ((λ k l. byte_word _ _), ((λ k l. byte_word _ _), ((λ k l. byte_word _ _), ((λ k l. omega arith), tt))))),
                        ),
                      ),
                    ),
                  ),
                ),
              ),
            ),
          ),
        ),
      )
    where
      stamps : (k : ℕ) → k < 2 → stamp k < p
      stamps k l = by_bit (λ n. stamp n < p) h0 h1 k l
