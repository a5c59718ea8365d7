-- The tables of bytes that a row is written from: an array by its places, and what each table's cells are.
use mathlib.Core.Path.{◌≡◌, sym, ap, ap₂, ◌∙◌, subst}
use mathlib.Core.List.{List, [], ◌∷◌, ◌++◌}
use Prim.Native.Nat.{ℕ, suc, ◌+◌, ◌-◌, ◌*◌, ◌/◌, ◌%◌, ◌^◌, ◌<◌}
use native.Mathlib.Nat.{add-zero}
use native.Mathlib.Omega.{arith}
use lib.Bits.{bit_xor}
use lib.Dec.{eqb}
use lib.ListN.{get_or}
use Rattle.lists.specs.Tab.{pick, tab, tab_from, word, row_of}
use Rattle.lists.proofs.Laws.{get_d-tab, tab-same}
use Rattle.bits.specs.Bits.{byte_at, lane_byte, lane_of, halfword, hwsl, hwsl_carry, left_byte, right_byte}
use Rattle.bits.proofs.Bytes.{byte-xor, lane-byte_at, lane-same}
use Rattle.bits.proofs.Rotate.{half-same, left-bytes, right-bytes}
use Rattle.fips202.specs.Fips.{RHO}
use Rattle.fips202.specs.Lanes.{lane, grid, Lanes}
use Rattle.fips202.proofs.Steps.{lane-of, lane-grid, grid-same}
use Rattle.keccak_rnd.specs.Row.{cxz_byte, c_byte, cxz_right_bit, rotated_c, d_byte, theta_lanes, rot_left_byte, rot_right_byte, pi_lanes, chi_lanes, by_lane, round_groups}
use Rattle.keccak_rnd.specs.Parts.{stages_of, cxz_table, left_table, right_table, d_table, parity_bytes, left_bytes, right_bits, rotated_from, Joins, d_bytes, stage_cell, byte_cell, bit_cell, front_groups, rho_groups, chi_groups, left_lane, right_lane}
use Rattle.keccak_rnd.proofs.Lanes.{rotated-lt}

-- ---- an array of four, five, eight elements by its places
pub four : {A : Type 0} (f : ℕ → A) {a b c d : A} → a ≡ f 0 → b ≡ f 1 → c ≡ f 2 → d ≡ f 3 → a ∷ b ∷ c ∷ d ∷ [] ≡ tab 4 f
unfolding tab tab_from
four f p q r s = λ t. p t ∷ q t ∷ r t ∷ s t ∷ []

pub five : {A : Type 0} (f : ℕ → A) {a b c d e : A} → a ≡ f 0 → b ≡ f 1 → c ≡ f 2 → d ≡ f 3 → e ≡ f 4 → a ∷ b ∷ c ∷ d ∷ e ∷ [] ≡ tab 5 f
unfolding tab tab_from
five f p q r s u = λ t. p t ∷ q t ∷ r t ∷ s t ∷ u t ∷ []

pub eight : (f : ℕ → ℕ) {a b c d e g h i : ℕ} → a ≡ f 0 → b ≡ f 1 → c ≡ f 2 → d ≡ f 3 → e ≡ f 4 → g ≡ f 5 → h ≡ f 6 → i ≡ f 7
    → a ∷ b ∷ c ∷ d ∷ e ∷ g ∷ h ∷ i ∷ [] ≡ tab 8 f
unfolding tab tab_from
eight f p q r s u v w x = λ t. p t ∷ q t ∷ r t ∷ s t ∷ u t ∷ v t ∷ w t ∷ x t ∷ []

-- ---- bytes
pub byte-0 : (n : ℕ) → n % 256 ≡ byte_at n 0
byte-0 n = omega arith

-- the two bytes of a halfword
half-bytes : (m : ℕ) {a : ℕ} → a ≡ m % 65536 → (a % 256 ≡ byte_at (m % 65536) 0) × (a / 256 ≡ byte_at (m % 65536) 1)
half-bytes m e = (omega arith, omega arith)

-- ---- the stages of C
first-stage : (s : List ℕ) (x b : ℕ) → byte_at (bit_xor (get_or s x 0) (get_or s (x + 5) 0)) b ≡ cxz_byte s x 0 b
unfolding cxz_byte
first-stage s x b =
    ap (λ (i : ℕ). byte_at (bit_xor (get_or s i 0) (get_or s (x + 5) 0)) b) (sym (add-zero x)) ∙ byte-xor (get_or s (x + 0) 0) (get_or s (x + 5) 0) b

next-stage : (s : List ℕ) (x k n : ℕ) → ((b : ℕ) → byte_at n b ≡ cxz_byte s x k b) → (b : ℕ) → byte_at (bit_xor n (lane s x (k + 2))) b ≡ cxz_byte s x (suc k) b
unfolding cxz_byte
next-stage s x k n e b = byte-xor n (lane s x (k + 2)) b ∙ ap (λ (m : ℕ). bit_xor m (byte_at (lane s x (k + 2)) b)) (e b)

pub stage-tables : (s : List ℕ) (x : ℕ) → {n₀ n₁ n₂ n₃ : ℕ} {a b c d : List ℕ} → n₀ ≡ bit_xor (get_or s x 0) (get_or s (x + 5) 0) → n₁ ≡ bit_xor n₀ (get_or s (x + 10) 0)
    → n₂ ≡ bit_xor n₁ (get_or s (x + 15) 0) → n₃ ≡ bit_xor n₂ (get_or s (x + 20) 0)
    → a ≡ tab 8 (byte_at n₀) → b ≡ tab 8 (byte_at n₁) → c ≡ tab 8 (byte_at n₂) → d ≡ tab 8 (byte_at n₃) → a ∷ b ∷ c ∷ d ∷ [] ≡ stages_of s x
unfolding stages_of
stage-tables s x {n₀} {n₁} {n₂} {n₃} q₀ q₁ q₂ q₃ p₀ p₁ p₂ p₃ =
    let e₀ : (b : ℕ) → byte_at n₀ b ≡ cxz_byte s x 0 b = λ b. ap (λ (n : ℕ). byte_at n b) q₀ ∙ first-stage s x b in
    let e₁ : (b : ℕ) → byte_at n₁ b ≡ cxz_byte s x 1 b = λ b. ap (λ (n : ℕ). byte_at n b) q₁ ∙ next-stage s x 0 n₀ e₀ b in
    let e₂ : (b : ℕ) → byte_at n₂ b ≡ cxz_byte s x 2 b = λ b. ap (λ (n : ℕ). byte_at n b) q₂ ∙ next-stage s x 1 n₁ e₁ b in
    let e₃ : (b : ℕ) → byte_at n₃ b ≡ cxz_byte s x 3 b = λ b. ap (λ (n : ℕ). byte_at n b) q₃ ∙ next-stage s x 2 n₂ e₂ b in
    four (λ k. tab 8 (cxz_byte s x k))
    (p₀ ∙ tab-same 8 (byte_at n₀) (cxz_byte s x 0) (λ b _. e₀ b))
    (p₁ ∙ tab-same 8 (byte_at n₁) (cxz_byte s x 1) (λ b _. e₁ b))
    (p₂ ∙ tab-same 8 (byte_at n₂) (cxz_byte s x 2) (λ b _. e₂ b))
    (p₃ ∙ tab-same 8 (byte_at n₃) (cxz_byte s x 3) (λ b _. e₃ b))

-- ---- the low parts of eight bytes shifted by one
pub left-eight : (c : List ℕ) {a b d e : ℕ} → a ≡ hwsl (halfword (word c) 0) 1 → b ≡ hwsl (halfword (word c) 1) 1 → d ≡ hwsl (halfword (word c) 2) 1 → e ≡ hwsl (halfword (word c) 3) 1
    → a % 256 ∷ a / 256 ∷ b % 256 ∷ b / 256 ∷ d % 256 ∷ d / 256 ∷ e % 256 ∷ e / 256 ∷ [] ≡ left_bytes c
unfolding left_bytes left_byte
left-eight c p q r s =
    let h₀ = half-bytes (halfword (word c) 0 * 2 ^ 1) p in
    let h₁ = half-bytes (halfword (word c) 1 * 2 ^ 1) q in
    let h₂ = half-bytes (halfword (word c) 2 * 2 ^ 1) r in
    let h₃ = half-bytes (halfword (word c) 3 * 2 ^ 1) s in
    eight (left_byte (word c) 1) h₀.0 h₀.1 h₁.0 h₁.1 h₂.0 h₂.1 h₃.0 h₃.1

-- ---- D of a column
pub d-eight : (c r : List ℕ) (g : ℕ → ℕ) → r ≡ tab 8 g
    → bit_xor (word c 0) (word r 0) ∷ bit_xor (word c 1) (word r 1) ∷ bit_xor (word c 2) (word r 2) ∷ bit_xor (word c 3) (word r 3)
    ∷ bit_xor (word c 4) (word r 4) ∷ bit_xor (word c 5) (word r 5) ∷ bit_xor (word c 6) (word r 6) ∷ bit_xor (word c 7) (word r 7) ∷ []
    ≡ tab 8 (λ b. bit_xor (word c b) (g b))
d-eight c r g e = eight (λ b. bit_xor (word c b) (g b)) (at 0 (omega arith)) (at 1 (omega arith)) (at 2 (omega arith)) (at 3 (omega arith)) (at 4 (omega arith)) (at 5 (omega arith)) (at 6 (omega arith)) (at 7 (omega arith))
  where
    at : (b : ℕ) → b < 8 → bit_xor (word c b) (word r b) ≡ bit_xor (word c b) (g b)
    at b h = ap (bit_xor (word c b)) (ap (λ (l : List ℕ). word l b) e ∙ get_d-tab 8 g b 0 h)

-- ---- a cell of a table of n rows of m
cell : (n m : ℕ) (f : ℕ → ℕ → ℕ) (x b : ℕ) → x < n → b < m → word (get_or (tab n (λ x. tab m (f x))) x []) b ≡ f x b
cell n m f x b hx hb = ap (λ (l : List ℕ). word l b) (get_d-tab n (λ x. tab m (f x)) x [] hx) ∙ get_d-tab m (f x) b 0 hb

even-joined : (l r : List ℕ) (h : ℕ) → rotated_from l r (2 * h) ≡ word l (2 * h) + word r ((h + 3) % 4)
unfolding rotated_from
even-joined l r h = ap₂ (λ (m k : ℕ). word l (2 * h) + pick (eqb m 0) (word r k) 0) (e₁ h) (e₂ h)
  where
    e₁ : (h : ℕ) → 2 * h % 2 ≡ 0
    e₁ h = omega arith

    e₂ : (h : ℕ) → (2 * h / 2 + 3) % 4 ≡ (h + 3) % 4
    e₂ h = omega arith

module _ (s : List ℕ) where
  parity-is : (x : ℕ) → x < 5 → parity_bytes (cxz_table s) x ≡ tab 8 (c_byte s x)
  unfolding cxz_table stages_of
  parity-is x hx =
      ap (λ (l : List (List ℕ)). get_or l 3 []) (get_d-tab 5 (λ x. tab 4 (λ k. tab 8 (cxz_byte s x k))) x [] hx)
      ∙ get_d-tab 4 (λ k. tab 8 (cxz_byte s x k)) 3 [] (omega arith)

  parity-word : (x : ℕ) → x < 5 → (b : ℕ) → b < 8 → word (parity_bytes (cxz_table s) x) b ≡ c_byte s x b
  parity-word x hx b hb = ap (λ (l : List ℕ). word l b) (parity-is x hx) ∙ get_d-tab 8 (c_byte s x) b 0 hb

  pub left-table-is : tab 5 (λ x. left_bytes (parity_bytes (cxz_table s) x)) ≡ left_table s
  unfolding left_bytes left_table left_byte
  left-table-is =
      tab-same 5 (λ x. left_bytes (parity_bytes (cxz_table s) x)) (λ x. tab 8 (left_byte (c_byte s x) 1))
      (λ x hx. tab-same 8 (left_byte (word (parity_bytes (cxz_table s) x)) 1) (left_byte (c_byte s x) 1)
      (λ b hb. ap (λ (n : ℕ). byte_at (hwsl n 1) (b % 2)) (half-same (word (parity_bytes (cxz_table s) x)) (c_byte s x) (parity-word x hx) (b / 2) (omega arith))))

  pub right-table-is : tab 5 (λ x. right_bits (parity_bytes (cxz_table s) x)) ≡ right_table s
  unfolding right_bits right_table cxz_right_bit
  right-table-is =
      tab-same 5 (λ x. right_bits (parity_bytes (cxz_table s) x)) (λ x. tab 4 (cxz_right_bit s x))
      (λ x hx. tab-same 4 (λ h. hwsl_carry (halfword (word (parity_bytes (cxz_table s) x)) h) 1) (cxz_right_bit s x)
      (λ h hh. ap (λ (n : ℕ). hwsl_carry n 1) (half-same (word (parity_bytes (cxz_table s) x)) (c_byte s x) (parity-word x hx) h hh)))

  left_word : (x b : ℕ) → x < 5 → b < 8 → word (get_or (left_table s) x []) b ≡ left_byte (c_byte s x) 1 b
  unfolding left_table
  left_word x b hx hb = cell 5 8 (λ x. left_byte (c_byte s x) 1) x b hx hb

  right-word : (x h : ℕ) → x < 5 → h < 4 → word (get_or (right_table s) x []) h ≡ cxz_right_bit s x h
  unfolding right_table
  right-word x h hx hh = cell 5 4 (cxz_right_bit s) x h hx hh

  d-word : (x b : ℕ) → x < 5 → b < 8 → word (get_or (d_table s) x []) b ≡ d_byte s x b
  unfolding d_table
  d-word x b hx hb = cell 5 8 (d_byte s) x b hx hb

  joined_is : (x b : ℕ) → x < 5 → b < 8 → rotated_from (get_or (left_table s) x []) (get_or (right_table s) x []) b ≡ rotated_c s x b
  unfolding rotated_from rotated_c
  joined_is x b hx hb =
      ap₂ (λ (m n : ℕ). m + pick (eqb (b % 2) 0) n 0) (left_word x b hx hb) (right-word x ((b / 2 + 3) % 4) hx (omega arith))

  pub joins : Lanes s → (x : ℕ) → x < 5 → Joins (get_or (left_table s) x []) (get_or (right_table s) x [])
  joins hs x hx h hh =
      subst (λ (n : ℕ). n < 256) (sym (joined_is x (2 * h) hx (omega arith)) ∙ even-joined (get_or (left_table s) x []) (get_or (right_table s) x []) h)
      (rotated-lt s x hs hx (2 * h) (omega arith))

  pub d-table-is : tab 5 (d_bytes (cxz_table s) (left_table s) (right_table s)) ≡ d_table s
  unfolding d_bytes d_table d_byte
  d-table-is =
      tab-same 5 (d_bytes (cxz_table s) (left_table s) (right_table s)) (λ x. tab 8 (d_byte s x))
      (λ x hx. tab-same 8
      (λ b. bit_xor (word (parity_bytes (cxz_table s) ((x + 4) % 5)) b) (rotated_from (get_or (left_table s) ((x + 1) % 5) []) (get_or (right_table s) ((x + 1) % 5) []) b))
      (d_byte s x)
      (λ b hb. ap₂ bit_xor (parity-word ((x + 4) % 5) (omega arith) b hb) (joined_is ((x + 1) % 5) b (omega arith) hb)))

  -- the state after θ, from D
  pub theta-of : grid (λ x y. bit_xor (lane s x y) (lane_of (word (get_or (d_table s) x [])))) ≡ theta_lanes s
  unfolding theta_lanes
  theta-of =
      grid-same (λ x y. bit_xor (lane s x y) (lane_of (word (get_or (d_table s) x [])))) (λ x y. bit_xor (lane s x y) (lane_of (d_byte s x)))
      (λ x y hx hy. ap (bit_xor (lane s x y)) (lane-same (word (get_or (d_table s) x [])) (d_byte s x) (λ b hb. d-word x b hx hb)))

  -- the cells of the four tables' groups
  stage-cells : tab 160 (stage_cell (cxz_table s)) ≡ tab 160 (λ k. cxz_byte s (k / 32) (k / 8 % 4) (k % 8))
  unfolding stage_cell cxz_table stages_of
  stage-cells =
      tab-same 160 (stage_cell (cxz_table s)) (λ k. cxz_byte s (k / 32) (k / 8 % 4) (k % 8))
      (λ k hk. ap (λ (l : List (List ℕ)). word (get_or l (k / 8 % 4) []) (k % 8)) (get_d-tab 5 (λ x. tab 4 (λ j. tab 8 (cxz_byte s x j))) (k / 32) [] (omega arith))
      ∙ cell 4 8 (cxz_byte s (k / 32)) (k / 8 % 4) (k % 8) (omega arith) (omega arith))

  left-cells : tab 40 (byte_cell (left_table s)) ≡ tab 40 (λ k. left_byte (c_byte s (k / 8)) 1 (k % 8))
  unfolding byte_cell
  left-cells = tab-same 40 (byte_cell (left_table s)) (λ k. left_byte (c_byte s (k / 8)) 1 (k % 8)) (λ k hk. left_word (k / 8) (k % 8) (omega arith) (omega arith))

  right-cells : tab 20 (bit_cell (right_table s)) ≡ tab 20 (λ k. cxz_right_bit s (k / 4) (k % 4))
  unfolding bit_cell
  right-cells = tab-same 20 (bit_cell (right_table s)) (λ k. cxz_right_bit s (k / 4) (k % 4)) (λ k hk. right-word (k / 4) (k % 4) (omega arith) (omega arith))

  d-cells : tab 40 (byte_cell (d_table s)) ≡ tab 40 (λ k. d_byte s (k / 8) (k % 8))
  unfolding byte_cell
  d-cells = tab-same 40 (byte_cell (d_table s)) (λ k. d_byte s (k / 8) (k % 8)) (λ k hk. d-word (k / 8) (k % 8) (omega arith) (omega arith))

  -- the three parts are the row
  pub parts-row : (stamp : ℕ → ℕ) (r : ℕ)
      → row_of (front_groups stamp r s (cxz_table s) (left_table s) (right_table s) (d_table s) ++ (rho_groups (theta_lanes s) ++ chi_groups r (pi_lanes s) (chi_lanes s)))
      ≡ row_of (round_groups stamp r s)
  unfolding row_of front_groups rho_groups chi_groups round_groups
  parts-row stamp r =
      let rest = row_of (rho_groups (theta_lanes s) ++ chi_groups r (pi_lanes s) (chi_lanes s)) in
      λ t. tab 2 stamp ++ (tab 1 (λ k. r) ++ (tab 200 (lane_byte s) ++ (stage-cells t ++ (left-cells t ++ (right-cells t ++ (d-cells t ++ rest))))))

-- ---- lanes of bytes as a group of 200
pub lanes-cells : (F : ℕ → ℕ → ℕ) (f : ℕ → ℕ → ℕ → ℕ) → ((x y b : ℕ) → x < 5 → y < 5 → b < 8 → byte_at (F x y) b ≡ f x y b)
    → tab 200 (lane_byte (grid F)) ≡ tab 200 (by_lane f)
unfolding lane_byte
lanes-cells F f e =
    tab-same 200 (lane_byte (grid F)) (by_lane f)
    (λ k hk.
    let q : k / 8 / 5 ≡ k / 40 = omega arith in
    ap (λ (n : ℕ). byte_at n (k % 8)) (lane-of (grid F) (k / 8) ∙ lane-grid F (k / 8 % 5) (k / 8 / 5) (omega arith) (omega arith))
    ∙ e (k / 8 % 5) (k / 8 / 5) (k % 8) (omega arith) (omega arith) (omega arith)
    ∙ ap (λ (y : ℕ). f (k / 8 % 5) y (k % 8)) q)

pub left-lanes : (t : List ℕ) → tab 200 (lane_byte (grid (left_lane t))) ≡ tab 200 (by_lane (rot_left_byte t))
unfolding left_lane rot_left_byte
left-lanes t = lanes-cells (left_lane t) (rot_left_byte t) (λ x y b hx hy hb. lane-byte_at (rot_left_byte t x y) (left-bytes (byte_at (lane t x y)) (RHO x y % 16)) b hb)

pub right-lanes : (t : List ℕ) → tab 200 (lane_byte (grid (right_lane t))) ≡ tab 200 (by_lane (rot_right_byte t))
unfolding right_lane rot_right_byte
right-lanes t = lanes-cells (right_lane t) (rot_right_byte t) (λ x y b hx hy hb. lane-byte_at (rot_right_byte t x y) (right-bytes (byte_at (lane t x y)) (RHO x y % 16)) b hb)

-- the parts of a lane, shifted by its offset
pub left-of : (t : List ℕ) (x y : ℕ) {k v : ℕ} → k ≡ RHO x y → v ≡ lane_of (left_byte (byte_at (lane t x y)) (k % 16)) → v ≡ left_lane t x y
unfolding left_lane rot_left_byte
left-of t x y q e = e ∙ ap (λ (k : ℕ). lane_of (left_byte (byte_at (lane t x y)) (k % 16))) q

pub right_of : (t : List ℕ) (x y : ℕ) {k v : ℕ} → k ≡ RHO x y → v ≡ lane_of (right_byte (byte_at (lane t x y)) (k % 16)) → v ≡ right_lane t x y
unfolding right_lane rot_right_byte
right_of t x y q e = e ∙ ap (λ (k : ℕ). lane_of (right_byte (byte_at (lane t x y)) (k % 16))) q

-- ---- tables computed from one another
pub left_is : (s : List ℕ) {cxz : List (List (List ℕ))} {left : List (List ℕ)} → cxz ≡ cxz_table s → left ≡ tab 5 (λ x. left_bytes (parity_bytes cxz x)) → left ≡ left_table s
left_is s q e = e ∙ ap (λ (c : List (List (List ℕ))). tab 5 (λ x. left_bytes (parity_bytes c x))) q ∙ left-table-is s

pub right_is : (s : List ℕ) {cxz : List (List (List ℕ))} {right : List (List ℕ)} → cxz ≡ cxz_table s → right ≡ tab 5 (λ x. right_bits (parity_bytes cxz x)) → right ≡ right_table s
right_is s q e = e ∙ ap (λ (c : List (List (List ℕ))). tab 5 (λ x. right_bits (parity_bytes c x))) q ∙ right-table-is s

pub joins_of : (s : List ℕ) → Lanes s → {left right : List (List ℕ)} → left ≡ left_table s → right ≡ right_table s → (x : ℕ) → x < 5 → Joins (get_or left x []) (get_or right x [])
joins_of s hs {left} {right} p q x hx =
    subst (λ (l : List (List ℕ)). Joins (get_or l x []) (get_or right x [])) (sym p)
    (subst (λ (r : List (List ℕ)). Joins (get_or (left_table s) x []) (get_or r x [])) (sym q) (joins s hs x hx))

pub d-is : (s : List ℕ) {cxz : List (List (List ℕ))} {left right d : List (List ℕ)} → cxz ≡ cxz_table s → left ≡ left_table s → right ≡ right_table s
    → d ≡ tab 5 (d_bytes cxz left right) → d ≡ d_table s
d-is s p q r e = e ∙ (λ t. tab 5 (d_bytes (p t) (q t) (r t))) ∙ d-table-is s

pub front_same : (stamp : ℕ → ℕ) (n : ℕ) (s : List ℕ) {cxz : List (List (List ℕ))} {left right d : List (List ℕ)} → cxz ≡ cxz_table s → left ≡ left_table s → right ≡ right_table s → d ≡ d_table s
    → row_of (front_groups stamp n s cxz left right d) ≡ row_of (front_groups stamp n s (cxz_table s) (left_table s) (right_table s) (d_table s))
front_same stamp n s p q r u = λ t. row_of (front_groups stamp n s (p t) (q t) (r t) (u t))

pub iota-bytes : (a : ℕ) {m n : ℕ} → m ≡ n → tab 8 (byte_at (bit_xor a m)) ≡ tab 8 (byte_at (bit_xor a n))
iota-bytes a e = ap (λ (n : ℕ). tab 8 (byte_at (bit_xor a n))) e
