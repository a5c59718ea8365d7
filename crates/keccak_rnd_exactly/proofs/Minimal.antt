-- None of the 911 can be dropped beside the 120.
use mathlib.Core.Path.{◌≡◌, refl, sym, ap, ap₂, ◌∙◌, subst}
use mathlib.Core.Bool.{Bool, true, false, ◌&&◌, ◌||◌}
use mathlib.Core.List.{List, [], ◌∷◌}
use Prim.Native.Nat.{ℕ, suc, ◌+◌, ◌-◌, ◌*◌, ◌/◌, ◌%◌, ◌^◌, ◌≤◌, ◌<◌}
use native.Mathlib.Nat.{zero-div}
use native.Mathlib.Omega.{arith}
use lib.Bits.{bit_xor, bit_and, xor_lt, xor_zero_r, and_zero_r}
use lib.Dec.{T, eqb, ltb, eqb→eq, ltb→lt}
use lib.ListN.{length, get_or}
use Rattle.lists.specs.Tab.{pick, word, tab, tab_from}
use Rattle.lists.specs.Sum.{all_below}
use Rattle.lists.proofs.Laws.{length-row_of, row-at, each_row, get_d-tab, length-tab}
use Rattle.lists.proofs.Sum.{all-at, and_left, and_right}
use Rattle.lists.proofs.Tests.{T_of, true-not-false}
use Rattle.lists.proofs.Then.{by_le, then-all, at-three}
use Rattle.field.specs.Field.{p, fadd, fsub, fmul}
use Rattle.field.proofs.Field.{fmul-zero}
use Rattle.templates.specs.Templates.{is_bit}
use Rattle.bits.specs.Bits.{byte_at, lane_byte, lane_of, Bytes, left_from, right_from}
use Rattle.bits.proofs.Bytes.{byte-lt, byte-xor, byte-and, byte-not, lane_byte_lem, lane-byte_at, lane-lt64, lane-of-bytes}
use Rattle.fips202.specs.Fips.{RHO, Agree, rnd}
use Rattle.fips202.specs.Lanes.{lane, Lanes, bits, rc_l, chi_l, rnd_l}
use Rattle.fips202.proofs.Steps.{lane-of, lane-grid, grid-lanes, lane-lt, chi-lane, chi-lanes, lanes-ext, agree-sym, agree_trans}
use Rattle.fips202.proofs.Rounds.{rnd-lanes, rnd-agree}
use Rattle.fips202.specs.Tables.{round_constant}
use Rattle.tuple.specs.declared.Bus.TheVariants.{ByteAlu}
use Rattle.matching.specs.Matching.{FoundOn, Found}
use Rattle.matching.proofs.Matching.{of-bytes, of-rc, of-keccak}
use Rattle.keccak.specs.Columns.{lane_column}
use Rattle.keccak.specs.Row.{state_lanes}
use Rattle.keccak.proofs.Cells.{byte_word}
use Rattle.keccak.proofs.State.{state-is}
use Rattle.keccak_rnd.specs.Columns.{START, MU, start, theta, cxz, cxz-left, cxz-right-bit, dxz, rot-left, rot-right, chi-ands, chi, rc, iota, pi-left, pi-right}
use Rattle.keccak_rnd.specs.Row.{rnc, and_lanes}
use Rattle.keccak_rnd.specs.Values.{halfword_at, identity, theta_value, rho_value, round_value}
use Rattle.keccak_rnd.specs.Tuples.{rotated_c_at, pi_at, not_pi_at, constant_tuple, dxz_tuple, rot_tuple, chi_ands_tuple, chi_tuple, iota_tuple, round_tuple, out, out_lanes}
use Rattle.keccak_rnd.proofs.Lanes.{and-lane, chi-and}
use Rattle.keccak_rnd.proofs.Completeness.{xor-found, and-found, small}
use Rattle.keccak_rnd_lean.specs.Lean.{kept}
use Rattle.keccak_rnd_needed.specs.Needed.{needed, Wrong}
use Rattle.keccak_rnd_needed.proofs.Marks.{xor-cancel, eqb-on, eqb-off}
use Rattle.keccak_rnd_needed.proofs.Falsity.{at-lanes, pi-from-0}
use Rattle.keccak_rnd_needed.proofs.Needed.{each_needed}
use Rattle.keccak_rnd_exactly.proofs.Exactly.{Other, keccak, left, parts, carry, last, other, dropped-left, dropped-parts}
use Rattle.keccak_rnd_exactly.specs.Minimal.{LeanBut, part_left, part_right, part_sum, only_at, part_lane, part_pi, parts_groups, parts_row}

-- ---- the words, by computation: d is 2, 3, 6 or 7
abbrev Dropped : ℕ → Type 0
Dropped d = (d < 8) × (2 ≤ d % 4)

-- a test of the 8 by 8 pairs (d, b)
pairs : (f : ℕ → ℕ → Bool) → all_below 64 (λ k. ltb (k / 8 % 4) 2 || f (k / 8) (k % 8)) ≡ true → (d b : ℕ) → Dropped d → b < 8 → T (f d b)
pairs f t d b hd hb =
    let h0 = hd.0 in
    let h1 = hd.1 in
    let e₀ : (d * 8 + b) / 8 ≡ d = omega arith in
    let e₁ : (d * 8 + b) % 8 ≡ b = omega arith in
    pick_out (ltb (d % 4) 2) (f d b) (λ l. not-both (d % 4) h1 (ltb→lt (d % 4) 2 l))
    (subst (λ (n : ℕ). T (ltb (n % 4) 2 || f n b)) e₀ (subst (λ (n : ℕ). T (ltb ((d * 8 + b) / 8 % 4) 2 || f ((d * 8 + b) / 8) n)) e₁
    (all-at 64 (λ k. ltb (k / 8 % 4) 2 || f (k / 8) (k % 8)) (T_of _ t) (d * 8 + b) (omega arith))))
  where
    not-both : (m : ℕ) → 2 ≤ m → m < 2 → ⊥
    not-both m l g = omega arith

    pick_out : (a c : Bool) → (T a → ⊥) → T (a || c) → T c
    pick_out true c n t = absurd (n tt)
    pick_out false c n t = t

left_below : (d b : ℕ) → Dropped d → b < 8 → part_left d b < p
unfolding all_below part_left
left_below d b hd hb = ltb→lt (part_left d b) p (pairs (λ d b. ltb (part_left d b) p) refl d b hd hb)

right-below : (d b : ℕ) → Dropped d → b < 8 → part_right d b < p
unfolding all_below part_right
right-below d b hd hb = ltb→lt (part_right d b) p (pairs (λ d b. ltb (part_right d b) p) refl d b hd hb)

sum-small : (d b : ℕ) → Dropped d → b < 8 → part_sum d b < 256
unfolding all_below part_sum
sum-small d b hd hb = ltb→lt (part_sum d b) 256 (pairs (λ d b. ltb (part_sum d b) 256) refl d b hd hb)

sum_is : (d b : ℕ) → Dropped d → b < 8 → fadd (part_left d b) (part_right d ((b + 6) % 8)) ≡ part_sum d b
unfolding all_below part_left part_right part_sum
sum_is d b hd hb = eqb→eq (fadd (part_left d b) (part_right d ((b + 6) % 8))) (part_sum d b) (pairs (λ d b. eqb (fadd (part_left d b) (part_right d ((b + 6) % 8))) (part_sum d b)) refl d b hd hb)

-- identity of halfword h, with 0 for the halfword of θ
zero-identity : (d h : ℕ) → Dropped d → h < 4
    → identity 0 0 (fadd (part_left d (h * 2)) (fmul (part_left d (h * 2 + 1)) 256)) (fadd (part_right d (h * 2)) (fmul (part_right d (h * 2 + 1)) 256)) ≡ 0
unfolding all_below part_left part_right
zero-identity d h hd hh =
    eqb→eq (identity 0 0 (fadd (part_left d (h * 2)) (fmul (part_left d (h * 2 + 1)) 256)) (fadd (part_right d (h * 2)) (fmul (part_right d (h * 2 + 1)) 256))) 0
    (pairs (λ d h. eqb (identity 0 0 (fadd (part_left d (h * 2)) (fmul (part_left d (h * 2 + 1)) 256)) (fadd (part_right d (h * 2)) (fmul (part_right d (h * 2 + 1)) 256))) 0) refl d h hd (omega arith))

-- kept words are bytes, but those of byte d
kept_small : (d b : ℕ) → Dropped d → b < 8 → 2 ≤ b % 4 → (b ≡ d → ⊥) → (part_left d b < 256) × (part_right d b < 256)
unfolding all_below part_left part_right
kept_small d b hd hb k n =
    out (ltb (b % 4) 2) (eqb b d) (ltb (part_left d b) 256) (ltb (part_right d b) 256) (λ t. less (b % 4) k (ltb→lt (b % 4) 2 t)) (λ t. n (eqb→eq b d t)) (ltb→lt (part_left d b) 256) (ltb→lt (part_right d b) 256)
    (pairs (λ d b. ltb (b % 4) 2 || (eqb b d || (ltb (part_left d b) 256 && ltb (part_right d b) 256))) refl d b hd hb)
  where
    less : (m : ℕ) → 2 ≤ m → m < 2 → ⊥
    less m l g = omega arith

    out : {A B : Type 0} (a c e f : Bool) → (T a → ⊥) → (T c → ⊥) → (T e → A) → (T f → B) → T (a || (c || (e && f))) → A × B
    out true c e f n m g h t = absurd (n tt)
    out false true e f n m g h t = absurd (m tt)
    out false false e f n m g h t = (g (and_left e f t), h (and_right e f t))

first-sum : (d : ℕ) → Dropped d → part_sum d 0 ≡ 0 → ⊥
unfolding all_below part_sum
first-sum d hd e = positive (part_sum d 0) (ltb→lt 0 (part_sum d 0) (pairs (λ d b. ltb 0 (part_sum d 0)) refl d 0 hd (omega arith))) e
  where
    positive : (n : ℕ) → 0 < n → n ≡ 0 → ⊥
    positive n l e = omega arith

from-same : (c b : ℕ) → c < 4 → b < 8 → right_from c b ≡ (left_from c b + 6) % 8
from-same c b hc hb = omega arith

from_zero : (c : ℕ) → c < 4 → left_from c (2 * c) ≡ 0
from_zero c hc = omega arith

not-of : (l r m : ℕ) → l < p → r < p → fadd l r ≡ m → m < 256 → fsub (fsub 255 l) r ≡ 255 - m
not-of l r m hl hr e h = omega arith

-- round 0 of the zero state
abbrev zeros : List ℕ
zeros = tab 25 (λ k. 0)

zeros-at : (i : ℕ) → i < 25 → get_or zeros i 0 ≡ 0
zeros-at i l = get_d-tab {A = ℕ} 25 (λ k. 0) i 0 l

zeros-lanes : Lanes zeros
zeros-lanes i l = rw (zeros-at i l) (omega arith)

zero-round : (v w : ℕ) → v < 5 → w < 5 → lane (rnd_l zeros 0) v w ≡ pick (eqb v 0 && eqb w 0) 1 0
unfolding all_below tab tab_from rnd_l
zero-round = at-lanes (λ v w. lane (rnd_l zeros 0) v w) (λ v w. pick (eqb v 0 && eqb w 0) 1 0) refl

first-constant : round_constant 0 ≡ 1
unfolding round_constant rc_l
first-constant = refl

-- of ρ's tuples those of bytes 2, 3, 6 and 7 are kept
kept_byte_lem : (i k : ℕ) → 423 + k ≡ i → k < 200 → kept i ≡ true → 2 ≤ k % 8 % 4
kept_byte_lem i k q l t = by_le 2 (k % 8 % 4) (λ g. g) (λ g. absurd (true-not-false (sym t ∙ dropped-parts i (omega arith) (omega arith) (small-part k i q g))))
  where
    small-part : (k i : ℕ) → 423 + k ≡ i → k % 8 % 4 < 2 → (i - 423) % 4 < 2
    small-part k i q g = omega arith

-- ---- a test of two numbers, by cases
at_place : {A : Type 0} (x y v w : ℕ) (a b : A) (P : A → Type 0) → ((v ≡ x) → (w ≡ y) → P a) → P b → P (pick (eqb v x && eqb w y) a b)
at_place {A} x y v w a b P f g = go (eqb v x && eqb w y) (λ t. eqb→eq v x (and_left (eqb v x) (eqb w y) t)) (λ t. eqb→eq w y (and_right (eqb v x) (eqb w y) t))
  where
    go : (t : Bool) → (T t → v ≡ x) → (T t → w ≡ y) → P (pick t a b)
    go true e q = f (e tt) (q tt)
    go false e q = g

module _ (x y d : ℕ) (hx : x < 5) (hy : y < 5) (hd : Dropped d) where
  abbrev row : List ℕ
  row = parts_row x y d

  abbrev u : List ℕ
  u = part_pi x y d

  abbrev c : ℕ
  c = RHO x y / 16

  c< : c < 4
  c< = omega arith

  sums-small : Bytes (λ b. part_sum d (left_from c b))
  sums-small b hb = sum-small d (left_from c b) hd (omega arith)

  lane-lt64' : part_lane x y d < 2 ^ 64
  unfolding part_lane
  lane-lt64' = lane-lt64 (λ b. part_sum d (left_from c b)) sums-small

  lane-byte-is : (b : ℕ) → b < 8 → byte_at (part_lane x y d) b ≡ part_sum d (left_from c b)
  unfolding part_lane
  lane-byte-is b hb = lane-byte_at (λ b. part_sum d (left_from c b)) sums-small b hb

  lane-some : part_lane x y d ≡ 0 → ⊥
  lane-some e =
      first-sum d hd (sym (ap (part_sum d) (from_zero c c<)) ∙ sym (lane-byte-is (2 * c) (omega arith)) ∙ ap (λ (n : ℕ). byte_at n (2 * c)) e ∙ ap (λ (n : ℕ). n % 256) (zero-div (2 ^ (8 * (2 * c)))))

  u-lane : (v w : ℕ) → v < 5 → w < 5 → lane u v w ≡ pick (eqb ((v + 3 * w) % 5) x && eqb v y) (part_lane x y d) 0
  unfolding part_pi
  u-lane v w hv hw = lane-grid (λ v w. pick (eqb ((v + 3 * w) % 5) x && eqb v y) (part_lane x y d) 0) v w hv hw

  u-lanes : Lanes u
  unfolding part_pi
  u-lanes = grid-lanes _ (λ v w hv hw. at_place x y ((v + 3 * w) % 5) v (part_lane x y d) 0 (λ n. n < 2 ^ 64) (λ _ _. lane-lt64') (omega arith))

  -- ---- cells
  read-zero : (k : ℕ) → k < 663 → word row k ≡ 0
  unfolding parts_row parts_groups
  read-zero k l = let e : 0 + k ≡ k = omega arith in ap (word row) (sym e) ∙ row-at (parts_groups x y d) 0 k l

  read_left : (v w b : ℕ) → v < 5 → w < 5 → b < 8 → word row (rot-left v w b) ≡ only_at x y (part_left d) v w b
  unfolding parts_row parts_groups
  read_left v w b hv hw hb =
      let i : rot-left v w b ≡ 663 + ((v + 5 * w) * 8 + b) = omega arith in
      let e₀ : ((v + 5 * w) * 8 + b) / 8 % 5 ≡ v = omega arith in
      let e₁ : ((v + 5 * w) * 8 + b) / 40 ≡ w = omega arith in
      let e₂ : ((v + 5 * w) * 8 + b) % 8 ≡ b = omega arith in
      ap (word row) i ∙ row-at (parts_groups x y d) 1 ((v + 5 * w) * 8 + b) (omega arith) ∙ at-three (only_at x y (part_left d)) e₀ e₁ e₂

  read_right : (v w b : ℕ) → v < 5 → w < 5 → b < 8 → word row (rot-right v w b) ≡ only_at x y (part_right d) v w b
  unfolding parts_row parts_groups
  read_right v w b hv hw hb =
      let i : rot-right v w b ≡ 863 + ((v + 5 * w) * 8 + b) = omega arith in
      let e₀ : ((v + 5 * w) * 8 + b) / 8 % 5 ≡ v = omega arith in
      let e₁ : ((v + 5 * w) * 8 + b) / 40 ≡ w = omega arith in
      let e₂ : ((v + 5 * w) * 8 + b) % 8 ≡ b = omega arith in
      ap (word row) i ∙ row-at (parts_groups x y d) 2 ((v + 5 * w) * 8 + b) (omega arith) ∙ at-three (only_at x y (part_right d)) e₀ e₁ e₂

  read-ands : (v w b : ℕ) → v < 5 → w < 5 → b < 8 → word row (chi-ands v w b) ≡ byte_at (lane (and_lanes u) v w) b
  unfolding parts_row parts_groups
  read-ands v w b hv hw hb =
      let i : chi-ands v w b ≡ 1063 + (8 * (v + 5 * w) + b) = omega arith in
      ap (word row) i ∙ row-at (parts_groups x y d) 3 (8 * (v + 5 * w) + b) (omega arith) ∙ lane_byte_lem (and_lanes u) (v + 5 * w) b hb

  read-chi : (v w b : ℕ) → v < 5 → w < 5 → b < 8 → word row (chi v w b) ≡ byte_at (lane (chi_l u) v w) b
  unfolding parts_row parts_groups
  read-chi v w b hv hw hb =
      let i : chi v w b ≡ 1263 + (8 * (v + 5 * w) + b) = omega arith in
      ap (word row) i ∙ row-at (parts_groups x y d) 4 (8 * (v + 5 * w) + b) (omega arith) ∙ lane_byte_lem (chi_l u) (v + 5 * w) b hb

  read-rc : (b : ℕ) → b < 8 → word row (rc b) ≡ byte_at 1 b
  unfolding parts_row parts_groups
  read-rc b hb = row-at (parts_groups x y d) 5 b hb

  read-iota : (b : ℕ) → b < 8 → word row (iota b) ≡ byte_at (bit_xor (lane (chi_l u) 0 0) 1) b
  unfolding parts_row parts_groups
  read-iota b hb = row-at (parts_groups x y d) 6 b hb

  read-mu : word row MU ≡ 1
  unfolding parts_row parts_groups
  read-mu = row-at (parts_groups x y d) 7 0 (omega arith)

  row-size : length row ≡ 1480
  unfolding parts_row parts_groups
  row-size = length-row_of (parts_groups x y d)

  only_below : (f : ℕ → ℕ) → ((b : ℕ) → b < 8 → f b < p) → (v w b : ℕ) → b < 8 → only_at x y f v w b < p
  unfolding only_at
  only_below f h v w b hb = at_place x y v w (f b) 0 (λ n. n < p) (λ _ _. h b hb) (omega arith)

  row_below : (k : ℕ) → word row k < p
  unfolding parts_row parts_groups lane_byte
  row_below =
      each_row (λ n. n < p) (parts_groups x y d) (omega arith) (
        (λ k l. omega arith),
        (
          (λ k l. only_below (part_left d) (λ b hb. left_below d b hd hb) _ _ _ (omega arith)),
          (
            (λ k l. only_below (part_right d) (λ b hb. right-below d b hd hb) _ _ _ (omega arith)),
            ((λ k l. byte_word _ _), ((λ k l. byte_word _ _), ((λ k l. byte_word _ _), ((λ k l. byte_word _ _), ((λ k l. omega arith), tt))))),
          ),
        ),
      )

  -- ---- π
  no_byte : (b : ℕ) → 0 ≡ byte_at 0 b
  no_byte b = sym (ap (λ (n : ℕ). n % 256) (zero-div (2 ^ (8 * b))))

  pi-of : (v w b : ℕ) → v < 5 → w < 5 → b < 8 → pi_at row v w b ≡ byte_at (lane u v w) b
  unfolding only_at
  pi-of v w b hv hw hb =
      let a : ℕ = (v + 3 * w) % 5 in
      let ha : a < 5 = omega arith in
      ap₂ fadd (read_left a v (left_from (RHO a v / 16) b) ha hv (omega arith)) (read_right a v (right_from (RHO a v / 16) b) ha hv (omega arith))
      ∙ go (eqb a x && eqb v y) (λ t. eqb→eq a x (and_left (eqb a x) (eqb v y) t)) (λ t. eqb→eq v y (and_right (eqb a x) (eqb v y) t))
      ∙ sym (ap (λ (n : ℕ). byte_at n b) (u-lane v w hv hw))
    where
      go : (t : Bool) → (T t → (v + 3 * w) % 5 ≡ x) → (T t → v ≡ y)
          → fadd (pick t (part_left d (left_from (RHO ((v + 3 * w) % 5) v / 16) b)) 0) (pick t (part_right d (right_from (RHO ((v + 3 * w) % 5) v / 16) b)) 0) ≡ byte_at (pick t (part_lane x y d) 0) b
      go true e q =
          ap₂ (λ (m n : ℕ). fadd (part_left d (left_from (RHO m n / 16) b)) (part_right d (right_from (RHO m n / 16) b))) (e tt) (q tt)
          ∙ ap (λ (n : ℕ). fadd (part_left d (left_from c b)) (part_right d n)) (from-same c b c< hb) ∙ sum_is d (left_from c b) hd (omega arith) ∙ sym (lane-byte-is b hb)
      go false e q = no_byte b

  not-pi-of : (v w b : ℕ) → v < 5 → w < 5 → b < 8 → not_pi_at row v w b ≡ byte_at (2 ^ 64 - 1 - lane u v w) b
  not-pi-of v w b hv hw hb =
      not-of (word row (pi-left v w b)) (word row (pi-right v w b)) (byte_at (lane u v w) b) (row_below (pi-left v w b)) (row_below (pi-right v w b)) (pi-of v w b hv hw hb) (byte-lt (lane u v w) b)
      ∙ byte-not (lane u v w) b (lane-lt u u-lanes v w hv hw) hb

  -- ---- lookups
  zeros-found : (k l m : ℕ) → k < 663 → l < 663 → m < 663 → FoundOn ByteAlu (2 ∷ word row k ∷ word row l ∷ word row m ∷ [])
  zeros-found k l m hk hl hm = rw (read-zero k hk, read-zero l hl, read-zero m hm) (xor-found 0 0 0 (omega arith) (omega arith) refl)

  rotated-zero : (v b : ℕ) → v < 5 → b < 8 → rotated_c_at row v b ≡ 0
  rotated-zero v b hv hb = go (eqb (b % 2) 0)
    where
      go : (t : Bool) → pick t (fadd (word row (cxz-left v b)) (word row (cxz-right-bit v ((b / 2 + 3) % 4)))) (word row (cxz-left v b)) ≡ 0
      go true = ap₂ fadd (read-zero (cxz-left v b) (omega arith)) (read-zero (cxz-right-bit v ((b / 2 + 3) % 4)) (omega arith))
      go false = read-zero (cxz-left v b) (omega arith)

  h-dxz : (v b : ℕ) → v < 5 → b < 8 → Found (dxz_tuple row v b)
  h-dxz v b hv hb =
      rw (read-zero (cxz ((v + 4) % 5) 3 b) (omega arith), rotated-zero ((v + 1) % 5) b (omega arith) hb, read-zero (dxz v b) (omega arith)) (xor-found 0 0 0 (omega arith) (omega arith) refl)

  h-rot : (v w b : ℕ) → v < 5 → w < 5 → b < 8 → 2 ≤ b % 4 → (423 + (40 * x + 8 * y + d) ≡ 423 + (40 * v + 8 * w + b) → ⊥) → Found (rot_tuple row v w b)
  unfolding only_at
  h-rot v w b hv hw hb k n = of-bytes _ _ (subst (λ (m : ℕ). m < 256) (sym (read_left v w b hv hw hb)) both.0) (subst (λ (m : ℕ). m < 256) (sym (read_right v w b hv hw hb)) both.1)
    where
      other : v ≡ x → w ≡ y → b ≡ d → ⊥
      other e q z = n (omega arith)

      both : (only_at x y (part_left d) v w b < 256) × (only_at x y (part_right d) v w b < 256)
      both = (
        at_place x y v w (part_left d b) 0 (λ m. m < 256) (λ e q. (kept_small d b hd hb k (other e q)).0) (omega arith),
        at_place x y v w (part_right d b) 0 (λ m. m < 256) (λ e q. (kept_small d b hd hb k (other e q)).1) (omega arith),
      )

  h-ands : (v w b : ℕ) → v < 5 → w < 5 → b < 8 → Found (chi_ands_tuple row v w b)
  h-ands v w b hv hw hb =
      let m = lane u ((v + 1) % 5) w in
      let l = lane u ((v + 2) % 5) w in
      let n : not_pi_at row ((v + 1) % 5) w b ≡ byte_at (2 ^ 64 - 1 - m) b = not-pi-of ((v + 1) % 5) w b (omega arith) hw hb in
      let q : pi_at row ((v + 2) % 5) w b ≡ byte_at l b = pi-of ((v + 2) % 5) w b (omega arith) hw hb in
      and-found _ _ _ (small (2 ^ 64 - 1 - m) b n) (small l b q)
      (read-ands v w b hv hw hb ∙ ap (λ (m : ℕ). byte_at m b) (and-lane u v w hv hw) ∙ byte-and (2 ^ 64 - 1 - m) l b ∙ sym (ap₂ bit_and n q))

  h-chi : (v w b : ℕ) → v < 5 → w < 5 → b < 8 → Found (chi_tuple row v w b)
  h-chi v w b hv hw hb =
      xor-found _ _ _ (small (lane u v w) b (pi-of v w b hv hw hb)) (small (lane (and_lanes u) v w) b (read-ands v w b hv hw hb))
      (read-chi v w b hv hw hb ∙ ap (λ (m : ℕ). byte_at m b) (chi-and u v w hv hw) ∙ byte-xor (lane u v w) (lane (and_lanes u) v w) b
      ∙ sym (ap₂ bit_xor (pi-of v w b hv hw hb) (read-ands v w b hv hw hb)))

  h-iota : (b : ℕ) → b < 8 → Found (iota_tuple row b)
  h-iota b hb =
      let e = read-chi 0 0 b (omega arith) (omega arith) hb in
      xor-found _ _ _ (small (lane (chi_l u) 0 0) b e) (small 1 b (read-rc b hb))
      (read-iota b hb ∙ byte-xor (lane (chi_l u) 0 0) 1 b ∙ sym (ap₂ bit_xor e (read-rc b hb)))

  h-rc : Found (constant_tuple row)
  h-rc =
      of-rc _ (record {
        long = ap suc (length-tab 8 (λ b. word row (rc b)));
        round = subst (λ (n : ℕ). n < 32) (sym (read-zero 2 (omega arith))) (omega arith);
        bytes = λ b hb.
            get_d-tab 8 (λ b. word row (rc b)) b 0 hb ∙ read-rc b hb ∙ ap (λ (n : ℕ). byte_at n b) (sym first-constant)
            ∙ ap (λ (n : ℕ). byte_at (round_constant n) b) (sym (read-zero 2 (omega arith)));
      })

  lookups-pass : (i₀ : ℕ) → i₀ < 1031 → kept i₀ ≡ true → (i₀ ≡ 423 + (40 * x + 8 * y + d) → ⊥) → Found (round_tuple row i₀)
  unfolding round_tuple
  lookups-pass i₀ l k n =
      then-all Found 1 _ _ i₀ (λ a. of-keccak _)
      (λ i₁ e₁. then-all Found 1 _ _ i₁ (λ a. of-keccak _)
      (λ i₂ e₂. then-all Found 1 _ _ i₂ (λ a. h-rc)
      (λ i₃ e₃. then-all Found 40 _ _ i₃ (λ a. zeros-found _ _ _ (omega arith) (omega arith) (omega arith))
      (λ i₄ e₄. then-all Found 120 _ _ i₄ (λ a. zeros-found _ _ _ (omega arith) (omega arith) (omega arith))
      (λ i₅ e₅. then-all Found 20 _ _ i₅ (λ a. of-bytes _ _ (zero-byte _ (omega arith)) (zero-byte _ (omega arith)))
      (λ i₆ e₆. then-all Found 40 _ _ i₆ (λ a. h-dxz (i₆ / 8) (i₆ % 8) (omega arith) (omega arith))
      (λ i₇ e₇. then-all Found 200 _ _ i₇ (λ a. zeros-found _ _ _ (omega arith) (omega arith) (omega arith))
      (λ i₈ e₈. then-all Found 200 _ _ i₈ (λ a. h-rot (i₈ / 40) (i₈ / 8 % 5) (i₈ % 8) (omega arith) (omega arith) (omega arith) (kept_byte_lem i₀ i₈ (omega arith) a k) (λ e. n (omega arith)))
      (λ i₉ e₉. then-all Found 200 _ _ i₉ (λ a. h-ands (i₉ / 40) (i₉ / 8 % 5) (i₉ % 8) (omega arith) (omega arith) (omega arith))
      (λ i₁₀ e₁₀. then-all Found 200 _ _ i₁₀ (λ a. h-chi (i₁₀ / 40) (i₁₀ / 8 % 5) (i₁₀ % 8) (omega arith) (omega arith) (omega arith))
      (λ i₁₁ e₁₁. h-iota i₁₁ (omega arith))))))))))))
    where
      zero-byte : (m : ℕ) → m < 663 → word row m < 256
      zero-byte m h = subst (λ (n : ℕ). n < 256) (sym (read-zero m h)) (omega arith)

  -- ---- values
  zero-half : (m : ℕ) → m < 662 → halfword_at row m ≡ 0
  zero-half m h = ap₂ (λ (a b : ℕ). fadd a (fmul b 256)) (read-zero m (omega arith)) (read-zero (m + 1) (omega arith))

  h-theta-value : (v h : ℕ) → v < 5 → h < 4 → theta_value row v h ≡ 0
  h-theta-value v h hv hh = rw (zero-half (cxz v 3 (h * 2)) (omega arith), zero-half (cxz-left v (h * 2)) (omega arith), read-zero (cxz-right-bit v h) (omega arith), read-mu) refl

  h-rho-value : (v w h : ℕ) → v < 5 → w < 5 → h < 4 → rho_value row v w h ≡ 0
  unfolding only_at
  h-rho-value v w h hv hw hh =
      ap₂ fmul read-mu
      (ap₂ (λ (i l : ℕ). identity i (2 ^ rnc v w) l (halfword_at row (rot-right v w (h * 2)))) (zero-half (theta v w (h * 2)) (omega arith))
      (ap₂ (λ (m n : ℕ). fadd m (fmul n 256)) (read_left v w (h * 2) hv hw (omega arith)) (ap (word row) (up 663 v w h) ∙ read_left v w (h * 2 + 1) hv hw (omega arith)))
      ∙ ap (identity 0 (2 ^ rnc v w) (fadd (only_at x y (part_left d) v w (h * 2)) (fmul (only_at x y (part_left d) v w (h * 2 + 1)) 256)))
      (ap₂ (λ (m n : ℕ). fadd m (fmul n 256)) (read_right v w (h * 2) hv hw (omega arith)) (ap (word row) (up 863 v w h) ∙ read_right v w (h * 2 + 1) hv hw (omega arith)))
      ∙ go (eqb v x && eqb w y))
    where
      up : (base v w h : ℕ) → lane_column base v w (h * 2) + 1 ≡ lane_column base v w (h * 2 + 1)
      up base v w h = omega arith

      any : (l q : ℕ) → identity 0 (2 ^ rnc v w) l q ≡ identity 0 0 l q
      any l q = ap (λ (z : ℕ). fsub (fsub z (fmul q 65536)) l) (fmul-zero (2 ^ rnc v w))

      go : (t : Bool) → identity 0 (2 ^ rnc v w) (fadd (pick t (part_left d (h * 2)) 0) (fmul (pick t (part_left d (h * 2 + 1)) 0) 256)) (fadd (pick t (part_right d (h * 2)) 0) (fmul (pick t (part_right d (h * 2 + 1)) 0) 256)) ≡ 0
      go true =
          any (fadd (part_left d (h * 2)) (fmul (part_left d (h * 2 + 1)) 256)) (fadd (part_right d (h * 2)) (fmul (part_right d (h * 2 + 1)) 256)) ∙ zero-identity d h hd hh
      go false = any 0 0

  values-pass : (i : ℕ) → i < 141 → round_value row i ≡ 0
  unfolding round_value
  values-pass i l =
      then-all (λ n. n ≡ 0) 20 _ _ i (λ a. ap is_bit (read-zero (cxz-right-bit (i / 4) (i % 4)) (omega arith)))
      (λ i e₁. then-all (λ n. n ≡ 0) 20 _ _ i (λ a. h-theta-value (i / 4) (i % 4) (omega arith) (omega arith))
      (λ i e₂. then-all (λ n. n ≡ 0) 100 _ _ i (λ a. h-rho-value (i / 20) (i / 4 % 5) (i % 4) (omega arith) (omega arith) (omega arith))
      (λ i e₃. ap is_bit read-mu)))

  parts-pass : LeanBut (423 + (40 * x + 8 * y + d)) row
  parts-pass = record { size = row-size; below = row_below; on = read-mu; values = values-pass; lookups = λ i l k n _. lookups-pass i l k n }

  -- ---- what it sends
  start-zero : state_lanes START row ≡ zeros
  start-zero = state-is START row zeros zeros-lanes (length-tab 25 (λ k. 0)) (λ v w b hv hw hb. read-zero (start v w b) (omega arith) ∙ no_byte b ∙ sym (ap (λ (n : ℕ). byte_at n b) (zeros-at (v + 5 * w) (omega arith))))

  chi-lt : (v w : ℕ) → v < 5 → w < 5 → lane (chi_l u) v w < 2 ^ 64
  chi-lt v w hv hw = lane-lt (chi_l u) (chi-lanes u u-lanes) v w hv hw

  iota-lt : bit_xor (lane (chi_l u) 0 0) 1 < 2 ^ 64
  iota-lt = xor_lt 64 (lane (chi_l u) 0 0) 1 (chi-lt 0 0 (omega arith) (omega arith)) (omega arith)

  sent-lane : (v w : ℕ) → v < 5 → w < 5 → lane (out_lanes row) v w ≡ pick (eqb v 0 && eqb w 0) (bit_xor (lane (chi_l u) 0 0) 1) (lane (chi_l u) v w)
  unfolding out_lanes
  sent-lane v w hv hw = lane-grid (λ x y. lane_of (λ b. word row (out x y b))) v w hv hw ∙ go (eqb v 0 && eqb w 0)
    where
      go : (t : Bool) → lane_of (λ b. word row (pick t (iota b) (chi v w b))) ≡ pick t (bit_xor (lane (chi_l u) 0 0) 1) (lane (chi_l u) v w)
      go true = lane-of-bytes (bit_xor (lane (chi_l u) 0 0) 1) (λ b. word row (iota b)) iota-lt (λ b hb. read-iota b hb)
      go false = lane-of-bytes (lane (chi_l u) v w) (λ b. word row (chi v w b)) (chi-lt v w hv hw) (λ b hb. read-chi v w b hv hw hb)

  sent-lanes : Lanes (out_lanes row)
  sent-lanes i l = rw (lane-of (out_lanes row) i) (subst (λ (n : ℕ). n < 2 ^ 64) (sym (sent-lane (i % 5) (i / 5) (omega arith) (omega arith))) (go (eqb (i % 5) 0 && eqb (i / 5) 0)))
    where
      go : (t : Bool) → pick t (bit_xor (lane (chi_l u) 0 0) 1) (lane (chi_l u) (i % 5) (i / 5)) < 2 ^ 64
      go true = iota-lt
      go false = chi-lt (i % 5) (i / 5) (omega arith) (omega arith)

  abbrev w : ℕ
  w = (2 * x + 3 * y) % 5

  hw : w < 5
  hw = omega arith

  u-here : lane u y w ≡ part_lane x y d
  u-here = u-lane y w hy hw ∙ ap₂ (λ (s t : Bool). pick (s && t) (part_lane x y d) 0) (eqb-on ((y + 3 * w) % 5) x (pi-from-0 x y hx hy)) (eqb-on y y refl)

  u-there : (v : ℕ) → v < 5 → (v ≡ y → ⊥) → lane u v w ≡ 0
  u-there v hv n = u-lane v w hv hw ∙ none (eqb ((v + 3 * w) % 5) x) (eqb v y) (eqb-off v y n)
    where
      none : (a b : Bool) → b ≡ false → pick (a && b) (part_lane x y d) 0 ≡ 0
      none true b e = ap (λ (t : Bool). pick t (part_lane x y d) 0) e
      none false b e = refl

  chi-here : lane (chi_l u) y w ≡ part_lane x y d
  chi-here =
      chi-lane u y w hy hw ∙ ap₂ (λ (m n : ℕ). bit_xor m (bit_and (2 ^ 64 - 1 - lane u ((y + 1) % 5) w) n)) u-here (u-there ((y + 2) % 5) (omega arith) (λ e. omega arith))
      ∙ ap (bit_xor (part_lane x y d)) (and_zero_r (2 ^ 64 - 1 - lane u ((y + 1) % 5) w)) ∙ xor_zero_r (part_lane x y d)

  sends-false : lane (out_lanes row) y w ≡ lane (rnd_l zeros 0) y w → ⊥
  sends-false e = go (eqb y 0 && eqb w 0) (λ t. (eqb→eq y 0 (and_left (eqb y 0) (eqb w 0) t), eqb→eq w 0 (and_right (eqb y 0) (eqb w 0) t))) (sym (sent-lane y w hy hw) ∙ e ∙ zero-round y w hy hw)
    where
      go : (t : Bool) → (T t → (y ≡ 0) × (w ≡ 0)) → pick t (bit_xor (lane (chi_l u) 0 0) 1) (lane (chi_l u) y w) ≡ pick {A = ℕ} t 1 0 → ⊥
      go true z q =
          lane-some (sym chi-here ∙ ap₂ (λ (m n : ℕ). lane (chi_l u) m n) (z tt).0 (z tt).1
          ∙ xor-cancel (lane (chi_l u) 0 0) 0 1 (chi-lt 0 0 (omega arith) (omega arith)) (omega arith) q)
      go false z q = lane-some (sym chi-here ∙ q)

  parts-wrong : Wrong row
  parts-wrong =
      record {
        round = subst (λ (n : ℕ). n < 24) (sym (read-zero 2 (omega arith))) (omega arith);
        state = λ a.
            let b : Agree (bits (out_lanes row)) (rnd (bits zeros) 0)
            = subst (λ (t : List ℕ). Agree (bits (out_lanes row)) (rnd (bits t) 0)) start-zero
            (subst (λ (k : ℕ). Agree (bits (out_lanes row)) (rnd (bits (state_lanes START row)) k)) (read-zero 2 (omega arith)) a) in
            sends-false (lanes-ext (out_lanes row) (rnd_l zeros 0) sent-lanes (rnd-lanes 0 (omega arith) zeros zeros-lanes) (agree_trans b (agree-sym (rnd-agree 0 (omega arith) zeros zeros-lanes))) (y + 5 * w) (omega arith));
      }

-- ---- EACH OF THEM
kept-needed : (j : ℕ) → 2 ≤ j → j < 1031 → kept j ≡ true → (423 ≤ j → j < 623 → ⊥) → needed j ≡ true
kept-needed j a b k n = go (needed j) refl
  where
    go : (t : Bool) → needed j ≡ t → t ≡ true
    go true e = refl
    go false e = not (other j (omega arith) e)
      where
        not : Other j → false ≡ true
        not (keccak l) = absurd (omega arith)
        not (left l h) = absurd (true-not-false (sym k ∙ dropped-left j l h))
        not (parts l h) = absurd (n l h)
        not (carry l h) = absurd (omega arith)
        not (last e) = absurd (omega arith)

pub lean-minimal : (j : ℕ) → 2 ≤ j → j < 1031 → kept j ≡ true → (row : List ℕ) × LeanBut j row × Wrong row
lean-minimal j a b k =
    by_le 423 j
    (λ l. by_le 623 j
    (λ h. by-rule (kept-needed j a b k (λ _ g. omega arith)))
    (λ h.
    let i : ℕ = j - 423 in
    let x : ℕ = i / 40 in
    let y : ℕ = i / 8 % 5 in
    let d : ℕ = i % 8 in
    let hd : Dropped d = (omega arith, kept_byte_lem j i (omega arith) (omega arith) k) in
    let e : 423 + (40 * x + 8 * y + d) ≡ j = omega arith in
    (parts_row x y d, subst (λ (n : ℕ). LeanBut n (parts_row x y d)) e (parts-pass x y d (omega arith) (omega arith) hd), parts-wrong x y d (omega arith) (omega arith) hd)))
    (λ l. by-rule (kept-needed j a b k (λ g _. omega arith)))
  where
    by-rule : needed j ≡ true → (row : List ℕ) × LeanBut j row × Wrong row
    by-rule n =
        let r = each_needed j n in
        let ok = r.1 in
        (r.0, record { size = ok.size; below = ok.below; on = ok.on; values = λ i l. ok.values i l (λ e. omega arith); lookups = λ i l _ m. ok.lookups i l m }, r.2)
