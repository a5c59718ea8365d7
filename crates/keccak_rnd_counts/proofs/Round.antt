-- What the tuples of a round's row add to a counter is what its lanes add (specs/Lanes.antt).
use mathlib.Core.List.{List, [], ◌∷◌}
use mathlib.Core.Path.{◌≡◌, refl, sym, ap, ap₂, subst, ◌∙◌}
use Prim.Native.Nat.{ℕ, ◌+◌, ◌-◌, ◌*◌, ◌/◌, ◌%◌, ◌^◌, ◌<◌}
use native.Mathlib.Omega.{arith}
use lib.Bits.{bit_xor, bit_and}
use lib.ListN.{get_or}
use Rattle.lists.specs.Tab.{tab, word}
use Rattle.lists.specs.Sum.{sum_below}
use Rattle.lists.proofs.Laws.{get_d-tab}
use Rattle.lists.proofs.Sum.{sum_same, sum-part}
use Rattle.bits.specs.Bits.{byte_at, lane_of, hwsl, left_byte, right_byte, rot}
use Rattle.bits.proofs.Bytes.{byte-lt, lane-byte_at}
use Rattle.bits.proofs.Rotate.{half-same, left-bytes, right-bytes}
use Rattle.fips202.specs.Lanes.{lane, Lanes, parity_l, theta_dl, theta_l, rho_pi_l, chi_l}
use Rattle.fips202.specs.Tables.{round_constant}
use Rattle.tuple.specs.Tuple.{Tuple, sender}
use Rattle.tuple.specs.declared.Bus.TheVariants.{ByteAlu, AreBytes, Keccak, KeccakRc}
use Rattle.bitwise.specs.Charge.{counted, falls_on, charged_row}
use Rattle.bitwise.proofs.Charge.{adds, sent-adds, received-adds, bytes_counted, operands-counted}
use Rattle.keccak.specs.Columns.{by_xyb}
use Rattle.keccak_rnd.specs.Columns.{cxz-left}
use Rattle.keccak_rnd.specs.Row.{round_row, c_byte, theta_lanes, rnc, rot_left_byte, rot_right_byte}
use Rattle.keccak_rnd.specs.Tuples.{rotated_c_at, pi_at, not_pi_at, cxz_tuple0, cxz_tuple, cxz_left_tuple, dxz_tuple, theta_tuple, rot_tuple, chi_ands_tuple, chi_tuple, iota_tuple, round_tuple}
use Rattle.keccak_rnd.specs.Passes.{RoundCells}
use Rattle.keccak_rnd.proofs.Cells.{written-cells}
use Rattle.keccak_rnd.proofs.Lanes.{stage, stage-byte, c-byte, turn, d-byte, rotated-byte, and-lane, theta-is}
use Rattle.keccak_rnd.proofs.Soundness.{rotated-is, pi-is, not-pi-is}
use Rattle.keccak_rnd_counts.specs.Lanes.{one, parts, both, lane_adds, halves_add, column_adds, turn_adds, theta_adds, rho_adds, chi_adds, front_adds, rest_adds}
use Rattle.keccak_rnd_counts.proofs.Sums.{sum-plus, sum-piece, sum-blocks, sum-xyb, sum-stages}

whole : (i : ℕ) → i % 5 + 5 * (i / 5) ≡ i
whole i = omega arith

module _ (c : ℕ) where
  -- ---- a tuple
  alu-adds : (op r : ℕ) {m a b a' b' : ℕ} → op < 3 → m ≡ 1 → a ≡ a' → b ≡ b' → a' < 256 → b' < 256
      → adds c (sender ByteAlu m (op ∷ a ∷ b ∷ r ∷ [])) ≡ one ((a' + b' * 256) * 10 + (7 + op)) c
  unfolding one
  alu-adds op r {m} {a} {b} {a'} {b'} lo em ea eb la lb =
      ap (λ (k : ℕ). adds c (sender ByteAlu k (op ∷ a ∷ b ∷ r ∷ []))) em
      ∙ ap₂ (λ (x y : ℕ). adds c (sender ByteAlu 1 (op ∷ x ∷ y ∷ r ∷ []))) ea eb
      ∙ sent-adds c ByteAlu 1 (op ∷ a' ∷ b' ∷ r ∷ []) ((a' + b' * 256) * 10 + (7 + op)) (operands-counted op a' b' r lo la lb)

  bytes-adds : {a b a' b' : ℕ} → a ≡ a' → b ≡ b' → a' < 256 → b' < 256 → adds c (sender AreBytes 1 (a ∷ b ∷ [])) ≡ one ((a' + b' * 256) * 10 + 3) c
  unfolding one
  bytes-adds {a} {b} {a'} {b'} ea eb la lb =
      ap₂ (λ (x y : ℕ). adds c (sender AreBytes 1 (x ∷ y ∷ []))) ea eb
      ∙ sent-adds c AreBytes 1 (a' ∷ b' ∷ []) ((a' + b' * 256) * 10 + 3) (bytes_counted a' b' la lb)

  keccak-adds : (m : ℕ) (v : List ℕ) → adds c (sender Keccak m v) ≡ 0
  unfolding falls_on counted
  keccak-adds m v = refl

  constant-adds : (m : ℕ) (v : List ℕ) → adds c (sender KeccakRc m v) ≡ 0
  unfolding falls_on counted
  constant-adds m v = refl

  -- ---- a lane of tuples, and 25 of them
  lane-sum : (k a b : ℕ) (t : ℕ → Tuple) → ((z : ℕ) → z < 8 → adds c (t z) ≡ one ((byte_at a z + byte_at b z * 256) * 10 + k) c) → sum_below 8 (λ z. adds c (t z)) ≡ lane_adds k a b c
  unfolding lane_adds parts
  lane-sum k a b t h = sum_same 8 (λ z. adds c (t z)) (λ z. one ((byte_at a z + byte_at b z * 256) * 10 + k) c) h

  grid-sum : (t : ℕ → ℕ → ℕ → Tuple) (F : ℕ → ℕ → ℕ) → ((x y : ℕ) → x < 5 → y < 5 → sum_below 8 (λ z. adds c (t x y z)) ≡ F x y)
      → sum_below 200 (λ i. adds c (by_xyb t i)) ≡ sum_below 25 (λ i. F (i % 5) (i / 5))
  grid-sum t F h =
      sum-xyb (λ x y z. adds c (t x y z))
      ∙ sum_same 25 (λ i. sum_below 8 (λ z. adds c (t (i % 5) (i / 5) z))) (λ i. F (i % 5) (i / 5)) (λ i l. h (i % 5) (i / 5) (omega arith) (omega arith))

  module _ (row : List ℕ) (r : ℕ) (s : List ℕ) (hs : Lanes s) (w : RoundCells row r s) where
    -- ---- θ
    abbrev cs : List ℕ
    cs = tab 5 (parity_l s)

    abbrev t : List ℕ
    t = theta_lanes s

    abbrev u : List ℕ
    u = rho_pi_l t

    parity-at : (x : ℕ) → x < 5 → get_or cs x 0 ≡ parity_l s x
    parity-at x hx = get_d-tab 5 (parity_l s) x 0 hx

    d-at : (x : ℕ) → x < 5 → get_or (tab 5 (theta_dl cs)) x 0 ≡ turn s x
    unfolding theta_dl turn
    d-at x hx =
        get_d-tab 5 (theta_dl cs) x 0 hx
        ∙ ap₂ (λ (m n : ℕ). bit_xor m (rot n 1)) (parity-at ((x + 4) % 5) (omega arith)) (parity-at ((x + 1) % 5) (omega arith))

    first-sum : (x : ℕ) → x < 5 → sum_below 8 (λ z. adds c (cxz_tuple0 row x z)) ≡ lane_adds 9 (lane s x 0) (get_or s (x + 5) 0) c
    first-sum x hx =
        lane-sum 9 (lane s x 0) (get_or s (x + 5) 0) (cxz_tuple0 row x)
        (λ z hz. alu-adds 2 _ (omega arith) w.mu-is (w.start_is x 0 z hx (omega arith) hz) (w.start_is x 1 z hx (omega arith) hz) (byte-lt _ z) (byte-lt _ z))

    stage-sum : (x k : ℕ) → x < 5 → k < 3 → sum_below 8 (λ z. adds c (cxz_tuple row x k z)) ≡ lane_adds 9 (stage s x k) (lane s x (k + 2)) c
    stage-sum x k hx hk =
        lane-sum 9 (stage s x k) (lane s x (k + 2)) (cxz_tuple row x k)
        (λ z hz. alu-adds 2 _ (omega arith) w.mu-is (w.cxz-is x k z hx (omega arith) hz ∙ stage-byte s x k z) (w.start_is x (k + 2) z hx (omega arith) hz) (byte-lt _ z) (byte-lt _ z))

    stages-sum : (x : ℕ) → x < 5 → sum_below 3 (λ k. sum_below 8 (λ z. adds c (cxz_tuple row x k z)))
        ≡ lane_adds 9 (stage s x 0) (get_or s (x + 10) 0) c + (lane_adds 9 (stage s x 1) (get_or s (x + 15) 0) c + lane_adds 9 (stage s x 2) (get_or s (x + 20) 0) c)
    unfolding sum_below
    stages-sum x hx = omega (arith, stage-sum x 0 hx (omega arith), stage-sum x 1 hx (omega arith), stage-sum x 2 hx (omega arith))

    columns : sum_below 40 (λ i. adds c (cxz_tuple0 row (i / 8) (i % 8))) + sum_below 120 (λ i. adds c (cxz_tuple row (i / 24) (i / 8 % 3) (i % 8))) ≡ parts 5 (column_adds s) c
    unfolding parts both column_adds stage
    columns =
        let F : ℕ → ℕ = λ x. lane_adds 9 (lane s x 0) (get_or s (x + 5) 0) c in
        let G : ℕ → ℕ = λ x. lane_adds 9 (stage s x 0) (get_or s (x + 10) 0) c + (lane_adds 9 (stage s x 1) (get_or s (x + 15) 0) c + lane_adds 9 (stage s x 2) (get_or s (x + 20) 0) c) in
        ap₂ ◌+◌
        (sum-blocks 5 8 (λ x z. adds c (cxz_tuple0 row x z)) ∙ sum_same 5 (λ x. sum_below 8 (λ z. adds c (cxz_tuple0 row x z))) F first-sum)
        (sum-stages (λ x k z. adds c (cxz_tuple row x k z)) ∙ sum_same 5 (λ x. sum_below 3 (λ k. sum_below 8 (λ z. adds c (cxz_tuple row x k z)))) G stages-sum)
        ∙ sym (sum-plus 5 F G)
        ∙ sum_same 5 (λ x. F x + G x) (λ x. column_adds s x c) (λ x l. ap (λ (k : ℕ). at x (get_or s k 0)) (none x) ∙ omega arith)
      where
        none : (x : ℕ) → x + 5 * 0 ≡ x
        none x = omega arith

        -- the four lanes of a column from its first
        at : ℕ → ℕ → ℕ
        at x n =
            lane_adds 9 n (get_or s (x + 5) 0) c
            + (lane_adds 9 (bit_xor n (get_or s (x + 5) 0)) (get_or s (x + 10) 0) c
            + (lane_adds 9 (bit_xor (bit_xor n (get_or s (x + 5) 0)) (get_or s (x + 10) 0)) (get_or s (x + 15) 0) c
            + lane_adds 9 (bit_xor (bit_xor (bit_xor n (get_or s (x + 5) 0)) (get_or s (x + 10) 0)) (get_or s (x + 15) 0)) (get_or s (x + 20) 0) c))

    -- C's shifted halfwords
    left-same : (x b : ℕ) → x < 5 → b < 8 → left_byte (c_byte s x) 1 b ≡ left_byte (byte_at (get_or cs x 0)) 1 b
    unfolding left_byte
    left-same x b hx hb =
        ap (λ (n : ℕ). byte_at (hwsl n 1) (b % 2))
        (half-same (c_byte s x) (byte_at (get_or cs x 0)) (λ z _. c-byte s x z ∙ ap (λ (n : ℕ). byte_at n z) (sym (parity-at x hx))) (b / 2) (omega arith))

    left-cell : (x b : ℕ) → x < 5 → b < 8 → word row (cxz-left x b) ≡ byte_at (lane_of (left_byte (byte_at (get_or cs x 0)) 1)) b
    left-cell x b hx hb =
        w.left_is x b hx hb ∙ left-same x b hx hb ∙ sym (lane-byte_at (left_byte (byte_at (get_or cs x 0)) 1) (left-bytes (byte_at (get_or cs x 0)) 1) b hb)

    halves-sum : (x : ℕ) → x < 5 → sum_below 4 (λ h. adds c (cxz_left_tuple row x h)) ≡ halves_add (lane_of (left_byte (byte_at (get_or cs x 0)) 1)) c
    unfolding halves_add parts
    halves-sum x hx =
        let a = lane_of (left_byte (byte_at (get_or cs x 0)) 1) in
        sum_same 4 (λ h. adds c (cxz_left_tuple row x h)) (λ h. one ((byte_at a (2 * h) + byte_at a (2 * h + 1) * 256) * 10 + 3) c)
        (λ h l. bytes-adds (left-cell x (2 * h) hx (omega arith)) (left-cell x (2 * h + 1) hx (omega arith)) (byte-lt a (2 * h)) (byte-lt a (2 * h + 1)))

    -- D
    rotated-at : (x b : ℕ) → x < 5 → b < 8 → rotated_c_at row x b ≡ byte_at (rot (get_or cs x 0) 1) b
    rotated-at x b hx hb =
        rotated-is row s hs x b hx hb (w.left_is x b hx hb) (subst (λ (n : ℕ). n < 256) (sym (w.left_is x b hx hb)) (left-bytes (c_byte s x) 1 b hb)) (w.right_is x ((b / 2 + 3) % 4) hx (omega arith))
        ∙ rotated-byte s x hs hx b hb ∙ ap (λ (n : ℕ). byte_at (rot n 1) b) (sym (parity-at x hx))

    turn-sum : (x : ℕ) → x < 5 → sum_below 8 (λ z. adds c (dxz_tuple row x z)) ≡ lane_adds 9 (get_or cs ((x + 4) % 5) 0) (rot (get_or cs ((x + 1) % 5) 0) 1) c
    turn-sum x hx =
        lane-sum 9 (get_or cs ((x + 4) % 5) 0) (rot (get_or cs ((x + 1) % 5) 0) 1) (dxz_tuple row x)
        (λ z hz. alu-adds 2 _ (omega arith) w.mu-is
        (w.cxz-is ((x + 4) % 5) 3 z (omega arith) (omega arith) hz ∙ c-byte s ((x + 4) % 5) z ∙ ap (λ (n : ℕ). byte_at n z) (sym (parity-at ((x + 4) % 5) (omega arith))))
        (rotated-at ((x + 1) % 5) z (omega arith) hz) (byte-lt _ z) (byte-lt _ z))

    turns : sum_below 20 (λ i. adds c (cxz_left_tuple row (i / 4) (i % 4))) + sum_below 40 (λ i. adds c (dxz_tuple row (i / 8) (i % 8))) ≡ parts 5 (turn_adds cs) c
    unfolding parts both turn_adds
    turns =
        let F : ℕ → ℕ = λ x. halves_add (lane_of (left_byte (byte_at (get_or cs x 0)) 1)) c in
        let G : ℕ → ℕ = λ x. lane_adds 9 (get_or cs ((x + 4) % 5) 0) (rot (get_or cs ((x + 1) % 5) 0) 1) c in
        ap₂ ◌+◌
        (sum-blocks 5 4 (λ x h. adds c (cxz_left_tuple row x h)) ∙ sum_same 5 (λ x. sum_below 4 (λ h. adds c (cxz_left_tuple row x h))) F halves-sum)
        (sum-blocks 5 8 (λ x z. adds c (dxz_tuple row x z)) ∙ sum_same 5 (λ x. sum_below 8 (λ z. adds c (dxz_tuple row x z))) G turn-sum)
        ∙ sym (sum-plus 5 F G)

    -- the state after θ
    theta-sum : (x y : ℕ) → x < 5 → y < 5 → sum_below 8 (λ z. adds c (theta_tuple row x y z)) ≡ lane_adds 9 (lane s x y) (get_or (tab 5 (theta_dl cs)) x 0) c
    theta-sum x y hx hy =
        lane-sum 9 (lane s x y) (get_or (tab 5 (theta_dl cs)) x 0) (theta_tuple row x y)
        (λ z hz. alu-adds 2 _ (omega arith) w.mu-is (w.start_is x y z hx hy hz) (w.dxz-is x z hx hz ∙ d-byte s hs x z hz ∙ ap (λ (n : ℕ). byte_at n z) (sym (d-at x hx))) (byte-lt _ z) (byte-lt _ z))

    thetas : sum_below 200 (λ i. adds c (by_xyb (theta_tuple row) i)) ≡ parts 25 (theta_adds s (tab 5 (theta_dl cs))) c
    unfolding parts theta_adds
    thetas =
        let d = tab 5 (theta_dl cs) in
        let F : ℕ → ℕ → ℕ = λ x y. lane_adds 9 (lane s x y) (get_or d x 0) c in
        grid-sum (theta_tuple row) F theta-sum
        ∙ sum_same 25 (λ i. F (i % 5) (i / 5)) (λ i. theta_adds s d i c) (λ i l. ap (λ (k : ℕ). lane_adds 9 (get_or s k 0) (get_or d (i % 5) 0) c) (whole i))

    -- ---- ρ
    rho-sum : (x y : ℕ) → x < 5 → y < 5
        → sum_below 8 (λ z. adds c (rot_tuple row x y z)) ≡ lane_adds 3 (lane_of (left_byte (byte_at (lane t x y)) (rnc x y))) (lane_of (right_byte (byte_at (lane t x y)) (rnc x y))) c
    unfolding rot_left_byte rot_right_byte
    rho-sum x y hx hy =
        let f = left_byte (byte_at (lane t x y)) (rnc x y) in
        let g = right_byte (byte_at (lane t x y)) (rnc x y) in
        lane-sum 3 (lane_of f) (lane_of g) (rot_tuple row x y)
        (λ z hz. bytes-adds (w.rot-left-is x y z hx hy hz ∙ sym (lane-byte_at f (left-bytes (byte_at (lane t x y)) (rnc x y)) z hz)) (w.rot-right-is x y z hx hy hz ∙ sym (lane-byte_at g (right-bytes (byte_at (lane t x y)) (rnc x y)) z hz)) (byte-lt _ z) (byte-lt _ z))

    rhos : sum_below 200 (λ i. adds c (by_xyb (rot_tuple row) i)) ≡ parts 25 (rho_adds t) c
    unfolding parts rho_adds
    rhos =
        let F : ℕ → ℕ → ℕ = λ x y. lane_adds 3 (lane_of (left_byte (byte_at (lane t x y)) (rnc x y))) (lane_of (right_byte (byte_at (lane t x y)) (rnc x y))) c in
        grid-sum (rot_tuple row) F rho-sum
        ∙ sum_same 25 (λ i. F (i % 5) (i / 5)) (λ i. rho_adds t i c)
        (λ i l. ap (λ (k : ℕ). lane_adds 3 (lane_of (left_byte (byte_at (get_or t k 0)) (rnc (i % 5) (i / 5)))) (lane_of (right_byte (byte_at (get_or t k 0)) (rnc (i % 5) (i / 5)))) c) (whole i))

    -- ---- χ
    pi : (x y b : ℕ) → x < 5 → y < 5 → b < 8 → pi_at row x y b ≡ byte_at (lane u x y) b
    pi = pi-is row s hs w.rot-left-is w.rot-right-is

    not-pi : (x y b : ℕ) → x < 5 → y < 5 → b < 8 → not_pi_at row x y b ≡ byte_at (2 ^ 64 - 1 - lane u x y) b
    not-pi = not-pi-is row s hs w.rot-left-is w.rot-right-is

    abbrev ands : ℕ → ℕ → ℕ
    ands x y = bit_and (2 ^ 64 - 1 - lane u ((x + 1) % 5) y) (lane u ((x + 2) % 5) y)

    and-sum : (x y : ℕ) → x < 5 → y < 5 → sum_below 8 (λ z. adds c (chi_ands_tuple row x y z)) ≡ lane_adds 7 (2 ^ 64 - 1 - lane u ((x + 1) % 5) y) (lane u ((x + 2) % 5) y) c
    and-sum x y hx hy =
        lane-sum 7 (2 ^ 64 - 1 - lane u ((x + 1) % 5) y) (lane u ((x + 2) % 5) y) (chi_ands_tuple row x y)
        (λ z hz. alu-adds 0 _ (omega arith) w.mu-is (not-pi ((x + 1) % 5) y z (omega arith) hy hz) (pi ((x + 2) % 5) y z (omega arith) hy hz) (byte-lt _ z) (byte-lt _ z))

    chi-sum : (x y : ℕ) → x < 5 → y < 5 → sum_below 8 (λ z. adds c (chi_tuple row x y z)) ≡ lane_adds 9 (lane u x y) (ands x y) c
    chi-sum x y hx hy =
        lane-sum 9 (lane u x y) (ands x y) (chi_tuple row x y)
        (λ z hz. alu-adds 2 _ (omega arith) w.mu-is (pi x y z hx hy hz) (w.ands-is x y z hx hy hz ∙ ap (λ (n : ℕ). byte_at n z) (and-lane u x y hx hy)) (byte-lt _ z) (byte-lt _ z))

    chis : sum_below 200 (λ i. adds c (by_xyb (chi_ands_tuple row) i)) + sum_below 200 (λ i. adds c (by_xyb (chi_tuple row) i)) ≡ parts 25 (chi_adds u) c
    unfolding parts both chi_adds
    chis =
        let F : ℕ → ℕ → ℕ = λ x y. lane_adds 7 (2 ^ 64 - 1 - lane u ((x + 1) % 5) y) (lane u ((x + 2) % 5) y) c in
        let G : ℕ → ℕ → ℕ = λ x y. lane_adds 9 (lane u x y) (ands x y) c in
        ap₂ ◌+◌ (grid-sum (chi_ands_tuple row) F and-sum) (grid-sum (chi_tuple row) G chi-sum)
        ∙ sym (sum-plus 25 (λ i. F (i % 5) (i / 5)) (λ i. G (i % 5) (i / 5)))
        ∙ sum_same 25 (λ i. F (i % 5) (i / 5) + G (i % 5) (i / 5)) (λ i. chi_adds u i c) (λ i l. ap (λ (k : ℕ). F (i % 5) (i / 5) + lane_adds 9 (get_or u k 0) (ands (i % 5) (i / 5)) c) (whole i))

    iotas : sum_below 8 (λ z. adds c (iota_tuple row z)) ≡ lane_adds 9 (get_or (chi_l u) 0 0) (round_constant r) c
    iotas =
        lane-sum 9 (get_or (chi_l u) 0 0) (round_constant r) (iota_tuple row)
        (λ z hz. alu-adds 2 _ (omega arith) w.mu-is (w.chi-is 0 0 z (omega arith) (omega arith) hz) (w.rc-is z hz) (byte-lt _ z) (byte-lt _ z))

    -- ---- all of them
    tuples-add : charged_row 1031 (round_tuple row) c ≡ both (front_adds s) (rest_adds r t) c
    unfolding charged_row round_tuple both front_adds rest_adds
    tuples-add =
        sum-part (adds c) 1 1030 0 _ _ _ (λ i. received-adds c _ _ _)
        (sum-part (adds c) 1 1029 0 _ _ _ (λ i. keccak-adds _ _)
        (sum-part (adds c) 1 1028 0 _ _ _ (λ i. constant-adds _ _)
        (sum-piece (adds c) 40 988 _ _ (λ i. cxz_tuple0 row (i / 8) (i % 8)) _ refl
        (sum-piece (adds c) 120 868 _ _ (λ i. cxz_tuple row (i / 24) (i / 8 % 3) (i % 8)) _ refl
        (sum-piece (adds c) 20 848 _ _ (λ i. cxz_left_tuple row (i / 4) (i % 4)) _ refl
        (sum-piece (adds c) 40 808 _ _ (λ i. dxz_tuple row (i / 8) (i % 8)) _ refl
        (sum-piece (adds c) 200 608 _ _ (by_xyb (theta_tuple row)) _ thetas
        (sum-piece (adds c) 200 408 _ _ (by_xyb (rot_tuple row)) _ rhos
        (sum-piece (adds c) 200 208 _ _ (by_xyb (chi_ands_tuple row)) _ refl
        (sum-piece (adds c) 200 8 _ _ (by_xyb (chi_tuple row)) _ refl iotas))))))))))
        ∙ omega (arith, columns, turns, chis)

-- the row that is written, whatever its timestamp words
pub row-adds : (stamp : ℕ → ℕ) (r : ℕ) (s : List ℕ) → Lanes s → (c : ℕ) → both (front_adds s) (rest_adds r (theta_l s)) c ≡ charged_row 1031 (round_tuple (round_row stamp r s)) c
row-adds stamp r s hs c =
    sym (tuples-add c (round_row stamp r s) r s hs (written-cells stamp r s) ∙ ap (λ (t : List ℕ). both (front_adds s) (rest_adds r t) c) (theta-is s hs))
