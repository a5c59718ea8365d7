-- A bent row passes every rule but the one at which it is bent.
use mathlib.Core.Path.{◌≡◌, refl, sym, ap, ap₂, ◌∙◌, subst}
use mathlib.Core.List.{List}
use Prim.Native.Nat.{ℕ, suc, ◌+◌, ◌-◌, ◌*◌, ◌/◌, ◌%◌, ◌^◌, ◌<◌}
use native.Mathlib.Numerals.{add-one}
use native.Mathlib.Omega.{arith}
use lib.Bits.{bit_xor, bit_and, xor_zero_r}
use lib.Pow.{pow_mono}
use Rattle.lists.specs.Tab.{word}
use Rattle.lists.proofs.Laws.{get_d-tab, length-tab}
use Rattle.lists.proofs.Then.{then-all}
use Rattle.field.specs.Field.{p}
use Rattle.templates.specs.Templates.{is_bit}
use Rattle.bits.specs.Bits.{byte_at, Bytes, halfword, left_byte, right_byte}
use Rattle.bits.proofs.BitLaws.{by_bit}
use Rattle.bits.proofs.Bytes.{byte-lt, byte-xor, byte-and}
use Rattle.bits.proofs.Rotate.{half_lt, half-same, left-half, right-half, left-bytes, right-bytes}
use Rattle.fips202.specs.Lanes.{lane, Lanes}
use Rattle.fips202.specs.Tables.{round_constant}
use Rattle.matching.specs.Matching.{Found}
use Rattle.matching.proofs.Matching.{of-bytes, of-rc, of-keccak}
use Rattle.keccak_rnd.specs.Columns.{CXZ, CXZ-LEFT, THETA, ROT-LEFT, ROT-RIGHT, start, cxz, cxz-left, cxz-right-bit, theta, rot-left, rot-right, rc}
use Rattle.keccak_rnd.specs.Row.{cxz_byte, c_byte, cxz_right_bit, rotated_c, rnc, rot_left_byte, rot_right_byte}
use Rattle.keccak_rnd.specs.Values.{halfword_at, carry_value, theta_value, rho_value, round_value}
use Rattle.keccak_rnd.specs.Tuples.{rotated_c_at, pi_at, not_pi_at, constant_tuple, cxz_tuple0, cxz_tuple, cxz_left_tuple, dxz_tuple, theta_tuple, rot_tuple, chi_ands_tuple, chi_tuple, iota_tuple, round_tuple}
use Rattle.keccak_rnd.proofs.Lanes.{cxz-lt, carry-lt, rotated-lt}
use Rattle.keccak_rnd.proofs.Soundness.{half_at, rotated-is, pi-of, not-pi-of}
use Rattle.keccak_rnd.proofs.Completeness.{xor-found, and-found, small, value-zero}
use Rattle.keccak_rnd_needed.specs.Needed.{PassesBut}
use Rattle.keccak_rnd_needed.specs.Bent.{sum_lanes, shift_lanes, d_lane, theta_bent, rho_bent, pi_bent, ands_bent, chi_bent, rc_bent, iota_bent, bent_row}
use Rattle.keccak_rnd_needed.proofs.Marks.{pick-off, marked-byte}
use Rattle.keccak_rnd_needed.proofs.Cells.{length-bent, read-round, read-start, read-cxz, read_left, read_right, read-d, read-theta, read-rot-left, read-rot-right, read-ands, read-chi, read-rc, read-iota, read-mu, bent-words}
use Rattle.keccak_rnd_needed.proofs.Steps.{shift-lanes, rho-bent-lt, sum-byte-0, sum-byte-1, sum-byte, shift-byte, d-bent-byte, theta-bent-byte, rho-bent-byte, ands-bent-byte, chi-bent-byte}

module _ (j : ℕ) (stamp : ℕ → ℕ) (r : ℕ) (s : List ℕ) (hs : Lanes s) (hr : r < 32) where
  abbrev row : List ℕ
  row = bent_row j stamp r s

  start_is : (x y b : ℕ) → x < 5 → y < 5 → b < 8 → word row (start x y b) ≡ byte_at (lane s x y) b
  start_is = read-start j stamp r s

  cxz-is : (x k b : ℕ) → x < 5 → k < 4 → b < 8 → word row (cxz x k b) ≡ cxz_byte (sum_lanes j s) x k b
  cxz-is = read-cxz j stamp r s

  left_is : (x b : ℕ) → x < 5 → b < 8 → word row (cxz-left x b) ≡ left_byte (c_byte (shift_lanes j s) x) 1 b
  left_is = read_left j stamp r s

  right_is : (x h : ℕ) → x < 5 → h < 4 → word row (cxz-right-bit x h) ≡ cxz_right_bit (shift_lanes j s) x h
  right_is = read_right j stamp r s

  start-lt : (x y b : ℕ) → x < 5 → y < 5 → b < 8 → word row (start x y b) < 256
  start-lt x y b hx hy hb = small (lane s x y) b (start_is x y b hx hy hb)

  cxz-cell-lt : (x k b : ℕ) → x < 5 → k < 4 → b < 8 → word row (cxz x k b) < 256
  cxz-cell-lt x k b hx hk hb = subst (λ (n : ℕ). n < 256) (sym (cxz-is x k b hx hk hb)) (cxz-lt (sum_lanes j s) x k b)

  left-cells : (x : ℕ) → x < 5 → Bytes (λ b. word row (cxz-left x b))
  left-cells x hx b hb = subst (λ (n : ℕ). n < 256) (sym (left_is x b hx hb)) (left-bytes (c_byte (shift_lanes j s) x) 1 b hb)

  right_lt : (x h : ℕ) → x < 5 → h < 4 → word row (cxz-right-bit x h) < 2
  right_lt x h hx hh = subst (λ (n : ℕ). n < 2) (sym (right_is x h hx hh)) (carry-lt (shift_lanes j s) x h hh)

  rotated : (x b : ℕ) → x < 5 → b < 8 → rotated_c_at row x b ≡ rotated_c (shift_lanes j s) x b
  rotated x b hx hb =
      rotated-is row (shift_lanes j s) (shift-lanes j s hs) x b hx hb (left_is x b hx hb) (left-cells x hx b hb) (right_is x ((b / 2 + 3) % 4) hx (omega arith))

  -- ---- lookups
  h-cxz0 : (x b : ℕ) → x < 5 → b < 8 → (3 + 8 * x + b ≡ j → ⊥) → Found (cxz_tuple0 row x b)
  unfolding cxz_byte
  h-cxz0 x b hx hb n =
      xor-found _ _ _ (start-lt x 0 b hx (omega arith) hb) (start-lt x 1 b hx (omega arith) hb)
      (cxz-is x 0 b hx (omega arith) hb ∙ ap₂ bit_xor (sum-byte-0 j s x b hx) (sum-byte-1 j s x b hx hb n)
      ∙ sym (ap₂ bit_xor (start_is x 0 b hx (omega arith) hb) (start_is x 1 b hx (omega arith) hb)))

  next-stage : (x k b : ℕ) → cxz_byte (sum_lanes j s) x (k + 1) b ≡ bit_xor (cxz_byte (sum_lanes j s) x k b) (byte_at (lane (sum_lanes j s) x (k + 2)) b)
  unfolding cxz_byte
  next-stage x k b = ap (λ (j' : ℕ). cxz_byte (sum_lanes j s) x j' b) (add-one k)

  h-cxz : (x k b : ℕ) → x < 5 → k < 3 → b < 8 → (43 + 24 * x + 8 * k + b ≡ j → ⊥) → Found (cxz_tuple row x k b)
  h-cxz x k b hx hk hb n =
      xor-found _ _ _ (cxz-cell-lt x k b hx (omega arith) hb) (start-lt x (k + 2) b hx (omega arith) hb)
      (cxz-is x (k + 1) b hx (omega arith) hb ∙ next-stage x k b ∙ ap (bit_xor (cxz_byte (sum_lanes j s) x k b)) (sum-byte j s x k b hx hk hb n)
      ∙ sym (ap₂ bit_xor (cxz-is x k b hx (omega arith) hb) (start_is x (k + 2) b hx (omega arith) hb)))

  h-left : (x i : ℕ) → x < 5 → i < 4 → Found (cxz_left_tuple row x i)
  h-left x i hx hi = of-bytes _ _ (left-cells x hx (2 * i) (omega arith)) (left-cells x hx (2 * i + 1) (omega arith))

  h-dxz : (x b : ℕ) → x < 5 → b < 8 → (183 + 8 * x + b ≡ j → ⊥) → Found (dxz_tuple row x b)
  h-dxz x b hx hb n =
      xor-found _ _ _ (cxz-cell-lt ((x + 4) % 5) 3 b (omega arith) (omega arith) hb)
      (subst (λ (n : ℕ). n < 256) (sym (rotated ((x + 1) % 5) b (omega arith) hb)) (rotated-lt (shift_lanes j s) ((x + 1) % 5) (shift-lanes j s hs) (omega arith) b hb))
      (read-d j stamp r s x b hx hb ∙ d-bent-byte j s hs x b hx hb n ∙ sym (ap₂ bit_xor (cxz-is ((x + 4) % 5) 3 b (omega arith) (omega arith) hb) (rotated ((x + 1) % 5) b (omega arith) hb)))

  h-theta : (x y b : ℕ) → x < 5 → y < 5 → b < 8 → (223 + (40 * x + 8 * y) + b ≡ j → ⊥) → Found (theta_tuple row x y b)
  h-theta x y b hx hy hb n =
      xor-found _ _ _ (start-lt x y b hx hy hb) (small (d_lane j s x) b (read-d j stamp r s x b hx hb))
      (read-theta j stamp r s x y b hx hy hb ∙ theta-bent-byte j s x y b hx hy hb n ∙ sym (ap₂ bit_xor (start_is x y b hx hy hb) (read-d j stamp r s x b hx hb)))

  rot-left-lt : (x y b : ℕ) → x < 5 → y < 5 → b < 8 → word row (rot-left x y b) < 256
  unfolding rot_left_byte
  rot-left-lt x y b hx hy hb = subst (λ (n : ℕ). n < 256) (sym (read-rot-left j stamp r s x y b hx hy hb)) (left-bytes (byte_at (lane (rho_bent j s) x y)) (rnc x y) b hb)

  rot-right-lt : (x y b : ℕ) → x < 5 → y < 5 → b < 8 → word row (rot-right x y b) < 256
  unfolding rot_right_byte
  rot-right-lt x y b hx hy hb = subst (λ (n : ℕ). n < 256) (sym (read-rot-right j stamp r s x y b hx hy hb)) (right-bytes (byte_at (lane (rho_bent j s) x y)) (rnc x y) b hb)

  h-rot : (x y b : ℕ) → x < 5 → y < 5 → b < 8 → Found (rot_tuple row x y b)
  h-rot x y b hx hy hb = of-bytes _ _ (rot-left-lt x y b hx hy hb) (rot-right-lt x y b hx hy hb)

  pi : (x y b : ℕ) → x < 5 → y < 5 → b < 8 → pi_at row x y b ≡ byte_at (lane (pi_bent j s) x y) b
  pi = pi-of row (rho_bent j s) (rho-bent-lt j s hs) (read-rot-left j stamp r s) (read-rot-right j stamp r s)

  not-pi : (x y b : ℕ) → x < 5 → y < 5 → b < 8 → not_pi_at row x y b ≡ byte_at (2 ^ 64 - 1 - lane (pi_bent j s) x y) b
  not-pi = not-pi-of row (rho_bent j s) (rho-bent-lt j s hs) (read-rot-left j stamp r s) (read-rot-right j stamp r s)

  h-ands : (x y b : ℕ) → x < 5 → y < 5 → b < 8 → (623 + (40 * x + 8 * y) + b ≡ j → ⊥) → Found (chi_ands_tuple row x y b)
  h-ands x y b hx hy hb k =
      let u = lane (pi_bent j s) ((x + 1) % 5) y in
      let v = lane (pi_bent j s) ((x + 2) % 5) y in
      let n : not_pi_at row ((x + 1) % 5) y b ≡ byte_at (2 ^ 64 - 1 - u) b = not-pi ((x + 1) % 5) y b (omega arith) hy hb in
      let q : pi_at row ((x + 2) % 5) y b ≡ byte_at v b = pi ((x + 2) % 5) y b (omega arith) hy hb in
      and-found _ _ _ (small (2 ^ 64 - 1 - u) b n) (small v b q)
      (read-ands j stamp r s x y b hx hy hb ∙ ands-bent-byte j s x y b hx hy hb k ∙ byte-and (2 ^ 64 - 1 - u) v b ∙ sym (ap₂ bit_and n q))

  h-chi : (x y b : ℕ) → x < 5 → y < 5 → b < 8 → (823 + (40 * x + 8 * y) + b ≡ j → ⊥) → Found (chi_tuple row x y b)
  h-chi x y b hx hy hb n =
      xor-found _ _ _ (small (lane (pi_bent j s) x y) b (pi x y b hx hy hb)) (small (lane (ands_bent j s) x y) b (read-ands j stamp r s x y b hx hy hb))
      (read-chi j stamp r s x y b hx hy hb ∙ chi-bent-byte j s x y b hx hy hb n ∙ sym (ap₂ bit_xor (pi x y b hx hy hb) (read-ands j stamp r s x y b hx hy hb)))

  h-iota : (b : ℕ) → b < 8 → (1023 + b ≡ j → ⊥) → Found (iota_tuple row b)
  unfolding iota_bent
  h-iota b hb n =
      let e = read-chi j stamp r s 0 0 b (omega arith) (omega arith) hb in
      xor-found _ _ _ (small (lane (chi_bent j s) 0 0) b e) (small (rc_bent j r) b (read-rc j stamp r s b hb))
      (read-iota j stamp r s b hb ∙ marked-byte j 1023 (bit_xor (lane (chi_bent j s) 0 0) (rc_bent j r)) b hb n
      ∙ byte-xor (lane (chi_bent j s) 0 0) (rc_bent j r) b ∙ sym (ap₂ bit_xor e (read-rc j stamp r s b hb)))

  rc-kept : (2 ≡ j → ⊥) → rc_bent j r ≡ round_constant r
  unfolding rc_bent
  rc-kept n = ap (bit_xor (round_constant r)) (pick-off 2 j n) ∙ xor_zero_r (round_constant r)

  h-rc : (2 ≡ j → ⊥) → Found (constant_tuple row)
  h-rc n =
      of-rc _ (record {
        long = ap suc (length-tab 8 (λ b. word row (rc b)));
        round = subst (λ (n : ℕ). n < 32) (sym (read-round j stamp r s)) hr;
        bytes = λ b hb.
            get_d-tab 8 (λ b. word row (rc b)) b 0 hb ∙ read-rc j stamp r s b hb ∙ ap (λ (n : ℕ). byte_at n b) (rc-kept n)
            ∙ ap (λ (n : ℕ). byte_at (round_constant n) b) (sym (read-round j stamp r s));
      })

  -- ---- values
  c-half : (x h : ℕ) → x < 5 → h < 4 → halfword_at row (cxz x 3 (h * 2)) ≡ halfword (c_byte (sum_lanes j s) x) h
  c-half x h hx hh =
      half_at row (CXZ + (x * 4 + 3) * 8) (λ b hb. cxz-cell-lt x 3 b hx (omega arith) hb) h hh
      ∙ half-same (λ b. word row (cxz x 3 b)) (c_byte (sum_lanes j s) x) (λ b hb. cxz-is x 3 b hx (omega arith) hb) h hh

  -- both bytes of a halfword are as they were, where its rule is not j
  c-kept : (x h : ℕ) → x < 5 → h < 4 → (1051 + (4 * x + h) ≡ j → ⊥) → halfword (c_byte (sum_lanes j s) x) h ≡ halfword (c_byte (shift_lanes j s) x) h
  c-kept x h hx hh n =
      sym (ap₂ (λ (a b : ℕ). a + b * 256) (shift-byte j s x (2 * h) hx (omega arith) (λ e. n (omega arith))) (shift-byte j s x (2 * h + 1) hx (omega arith) (λ e. omega arith)))

  h-carry : (x h : ℕ) → x < 5 → h < 4 → carry_value row x h ≡ 0
  h-carry x h hx hh = by_bit (λ n. is_bit n ≡ 0) refl refl (word row (cxz-right-bit x h)) (right_lt x h hx hh)

  h-theta-value : (x h : ℕ) → x < 5 → h < 4 → (1051 + (4 * x + h) ≡ j → ⊥) → theta_value row x h ≡ 0
  unfolding cxz_right_bit
  h-theta-value x h hx hh n =
      value-zero (halfword (c_byte (shift_lanes j s) x) h) 2 _ _ _ _ (half_lt (c_byte (shift_lanes j s) x) (λ b _. cxz-lt (shift_lanes j s) x 3 b) h hh) (omega arith) (read-mu j stamp r s)
      (c-half x h hx hh ∙ c-kept x h hx hh n)
      (half_at row (CXZ-LEFT + x * 8) (left-cells x hx) h hh ∙ half-same (λ b. word row (cxz-left x b)) (left_byte (c_byte (shift_lanes j s) x) 1) (λ b hb. left_is x b hx hb) h hh
      ∙ left-half (c_byte (shift_lanes j s) x) 1 (λ b _. cxz-lt (shift_lanes j s) x 3 b) (omega arith) h hh)
      (right_is x h hx hh)

  rho-kept : (x y h : ℕ) → x < 5 → y < 5 → h < 4 → (1071 + (20 * x + 4 * y + h) ≡ j → ⊥) → halfword (byte_at (lane (theta_bent j s) x y)) h ≡ halfword (byte_at (lane (rho_bent j s) x y)) h
  rho-kept x y h hx hy hh n =
      sym (ap₂ (λ (a b : ℕ). a + b * 256) (rho-bent-byte j s x y (2 * h) hx hy (omega arith) (λ e. n (omega arith))) (rho-bent-byte j s x y (2 * h + 1) hx hy (omega arith) (λ e. omega arith)))

  h-rho-value : (x y h : ℕ) → x < 5 → y < 5 → h < 4 → (1071 + (20 * x + 4 * y + h) ≡ j → ⊥) → rho_value row x y h ≡ 0
  unfolding rot_left_byte rot_right_byte
  h-rho-value x y h hx hy hh k =
      let n = lane (rho_bent j s) x y in
      let m = lane (theta_bent j s) x y in
      let q : rnc x y < 16 = omega arith in
      value-zero (halfword (byte_at n) h) (2 ^ rnc x y) _ _ _ _ (half_lt (byte_at n) (λ b _. byte-lt n b) h hh) (pow_mono {i = rnc x y} {j = 15} (omega arith)) (read-mu j stamp r s)
      (half_at row (THETA + (x + 5 * y) * 8) (λ b hb. small m b (read-theta j stamp r s x y b hx hy hb)) h hh
      ∙ half-same (λ b. word row (theta x y b)) (byte_at m) (λ b hb. read-theta j stamp r s x y b hx hy hb) h hh ∙ rho-kept x y h hx hy hh k)
      (half_at row (ROT-LEFT + (x + 5 * y) * 8) (λ b hb. rot-left-lt x y b hx hy hb) h hh
      ∙ half-same (λ b. word row (rot-left x y b)) (left_byte (byte_at n) (rnc x y)) (λ b hb. read-rot-left j stamp r s x y b hx hy hb) h hh
      ∙ left-half (byte_at n) (rnc x y) (λ b _. byte-lt n b) q h hh)
      (half_at row (ROT-RIGHT + (x + 5 * y) * 8) (λ b hb. rot-right-lt x y b hx hy hb) h hh
      ∙ half-same (λ b. word row (rot-right x y b)) (right_byte (byte_at n) (rnc x y)) (λ b hb. read-rot-right j stamp r s x y b hx hy hb) h hh
      ∙ right-half (byte_at n) (rnc x y) (λ b _. byte-lt n b) q h hh)

  -- ---- by index
  values-pass : (i₀ : ℕ) → i₀ < 141 → (1031 + i₀ ≡ j → ⊥) → round_value row i₀ ≡ 0
  unfolding round_value
  values-pass i₀ l n =
      then-all (λ n. n ≡ 0) 20 _ _ i₀ (λ a. h-carry (i₀ / 4) (i₀ % 4) (omega arith) (omega arith))
      (λ i e₁. then-all (λ n. n ≡ 0) 20 _ _ i (λ a. h-theta-value (i / 4) (i % 4) (omega arith) (omega arith) (λ e. n (omega arith)))
      (λ i e₂. then-all (λ n. n ≡ 0) 100 _ _ i (λ a. h-rho-value (i / 20) (i / 4 % 5) (i % 4) (omega arith) (omega arith) (omega arith) (λ e. n (omega arith)))
      (λ i e₃. ap is_bit (read-mu j stamp r s))))

  lookups-pass : (i₀ : ℕ) → i₀ < 1031 → (i₀ ≡ j → ⊥) → Found (round_tuple row i₀)
  unfolding round_tuple
  lookups-pass i₀ l n =
      then-all Found 1 _ _ i₀ (λ a. of-keccak _)
      (λ i₁ e₁. then-all Found 1 _ _ i₁ (λ a. of-keccak _)
      (λ i₂ e₂. then-all Found 1 _ _ i₂ (λ a. h-rc (λ e. n (omega arith)))
      (λ i₃ e₃. then-all Found 40 _ _ i₃ (λ a. h-cxz0 (i₃ / 8) (i₃ % 8) (omega arith) (omega arith) (λ e. n (omega arith)))
      (λ i₄ e₄. then-all Found 120 _ _ i₄ (λ a. h-cxz (i₄ / 24) (i₄ / 8 % 3) (i₄ % 8) (omega arith) (omega arith) (omega arith) (λ e. n (omega arith)))
      (λ i₅ e₅. then-all Found 20 _ _ i₅ (λ a. h-left (i₅ / 4) (i₅ % 4) (omega arith) (omega arith))
      (λ i₆ e₆. then-all Found 40 _ _ i₆ (λ a. h-dxz (i₆ / 8) (i₆ % 8) (omega arith) (omega arith) (λ e. n (omega arith)))
      (λ i₇ e₇. then-all Found 200 _ _ i₇ (λ a. h-theta (i₇ / 40) (i₇ / 8 % 5) (i₇ % 8) (omega arith) (omega arith) (omega arith) (λ e. n (omega arith)))
      (λ i₈ e₈. then-all Found 200 _ _ i₈ (λ a. h-rot (i₈ / 40) (i₈ / 8 % 5) (i₈ % 8) (omega arith) (omega arith) (omega arith))
      (λ i₉ e₉. then-all Found 200 _ _ i₉ (λ a. h-ands (i₉ / 40) (i₉ / 8 % 5) (i₉ % 8) (omega arith) (omega arith) (omega arith) (λ e. n (omega arith)))
      (λ i₁₀ e₁₀. then-all Found 200 _ _ i₁₀ (λ a. h-chi (i₁₀ / 40) (i₁₀ / 8 % 5) (i₁₀ % 8) (omega arith) (omega arith) (omega arith) (λ e. n (omega arith)))
      (λ i₁₁ e₁₁. h-iota i₁₁ (omega arith) (λ e. n (omega arith)))))))))))))

  pub bent-passes : stamp 0 < p → stamp 1 < p → PassesBut j row
  bent-passes h0 h1 =
      record {
        size = length-bent j stamp r s;
        below = bent-words j stamp r s h0 h1 hr;
        on = read-mu j stamp r s;
        values = values-pass;
        lookups = λ i l n _. lookups-pass i l n;
      }
