-- The 911 kept tuples are enough: an active row of words below p whose values are 0 and whose kept lookups are matched passes all 1,031.
use mathlib.Core.Path.{◌≡◌, refl, sym, ap, ap₂, ◌∙◌, subst}
use mathlib.Core.Bool.{true}
use mathlib.Core.List.{List}
use Prim.Native.Nat.{ℕ, ◌+◌, ◌-◌, ◌*◌, ◌/◌, ◌%◌, ◌^◌, ◌≤◌, ◌<◌}
use native.Mathlib.Nat.{div-add-mod'}
use native.Mathlib.Omega.{arith}
use lib.Bits.{xor_lt}
use lib.Dec.{eqb, leb, le→leb}
use lib.ListN.{length}
use Rattle.lists.specs.Tab.{pick, word, followed_by}
use Rattle.lists.specs.First.{count_below}
use Rattle.lists.proofs.Then.{by_le, T_true, then-lt, then-ge, then-past, at-three}
use Rattle.field.specs.Field.{p, fadd, fmul}
use Rattle.bits.specs.Bits.{Bytes, halfword, left_from, right_from}
use Rattle.fips202.specs.Fips.{RHO}
use Rattle.templates.proofs.Bit.{bit_is}
use Rattle.tuple.specs.Tuple.{Tuple}
use Rattle.bitwise.specs.Found.{alu_op}
use Rattle.matching.specs.Matching.{Found, Matched}
use Rattle.matching.proofs.Matching.{alu-of, bytes_of, of-bytes}
use Rattle.keccak.specs.Row.{state_lanes}
use Rattle.keccak_rnd.specs.Columns.{ROUND, START, CXZ, CXZ-LEFT, THETA, ROT-LEFT, ROT-RIGHT, MU, cxz, cxz-left, cxz-right-bit, theta, rot-left, rot-right}
use Rattle.keccak_rnd.specs.Row.{round_row, rnc}
use Rattle.keccak_rnd.specs.Values.{halfword_at, identity, carry_value, theta_value, rho_value, round_value}
use Rattle.keccak_rnd.specs.Tuples.{rotated_c_at, cxz_left_tuple, dxz_tuple, theta_tuple, rot_tuple, chi_tuple, round_tuple}
use Rattle.keccak_rnd.specs.Passes.{RoundPasses}
use Rattle.keccak_rnd.proofs.Places.{tuple_at_lem}
use Rattle.keccak_rnd.proofs.Active.{of-20, of-40, of-200}
use Rattle.keccak_rnd.proofs.Soundness.{half_at, RoundSound, round-sound, round-unique}
use Rattle.keccak_rnd_lean.specs.Lean.{kept, NUM-KEPT, LeanPasses}
use Rattle.keccak_rnd_lean.proofs.Halves.{even_byte, lane-bytes}

-- ---- which are kept
pub kept-count : count_below kept 1031 ≡ NUM-KEPT
unfolding count_below kept followed_by
kept-count = refl

pub kept-below : (i : ℕ) → i < 163 → kept i ≡ true
unfolding kept
kept-below i l = then-lt 163 i _ _ l

pub kept-middle : (i : ℕ) → 183 ≤ i → i < 423 → kept i ≡ true
unfolding kept
kept-middle i l h = then-past 163 i _ _ (omega arith) ∙ then-past 20 (i - 163) _ _ (omega arith) ∙ then-lt 240 (i - 163 - 20) _ _ (omega arith)

pub kept-rot : (i : ℕ) → 423 ≤ i → i < 623 → 2 ≤ (i - 423) % 4 → kept i ≡ true
unfolding kept
kept-rot i l h k =
    then-past 163 i _ _ (omega arith) ∙ then-past 20 (i - 163) _ _ (omega arith) ∙ then-past 240 (i - 163 - 20) _ _ (omega arith)
    ∙ then-lt 200 (i - 163 - 20 - 240) _ _ (omega arith) ∙ T_true (leb 2 ((i - 163 - 20 - 240) % 8 % 4)) (le→leb 2 ((i - 163 - 20 - 240) % 8 % 4) (omega arith))

pub kept_above : (i : ℕ) → 623 ≤ i → kept i ≡ true
unfolding kept
kept_above i l =
    then-past 163 i _ _ (omega arith) ∙ then-past 20 (i - 163) _ _ (omega arith) ∙ then-past 240 (i - 163 - 20) _ _ (omega arith)
    ∙ then-past 200 (i - 163 - 20 - 240) _ _ (omega arith)

-- ---- lookups and places
xor-byte : (a b c : ℕ) → (a < 256) × (b < 256) × (c ≡ alu_op 2 a b) → c < 256
unfolding alu_op
xor-byte a b c h = subst (λ (n : ℕ). n < 256) (sym h.2) (xor_lt 8 a b h.0 h.1)

-- where π has byte b of ρ's lane: (x, y) goes to (y, 2x + 3y), byte b to b + 2c
back-lane : (x y : ℕ) → x < 5 → y < 5 → (y + 3 * ((2 * x + 3 * y) % 5)) % 5 ≡ x
back-lane x y hx hy =
    let k : ℕ = (2 * x + 3 * y) / 5 in
    let z : ℕ = (2 * x + 3 * y) % 5 in
    let e : k * 5 + z ≡ 2 * x + 3 * y = div-add-mod' (2 * x + 3 * y) 5 in
    ap (λ (n : ℕ). n % 5) (fives x y k z hx e) ∙ five x (x + 2 * y - 3 * k) hx
  where
    fives : (x y k z : ℕ) → x < 5 → k * 5 + z ≡ 2 * x + 3 * y → y + 3 * z ≡ x + 5 * (x + 2 * y - 3 * k)
    fives x y k z hx e = omega arith

    five : (x m : ℕ) → x < 5 → (x + 5 * m) % 5 ≡ x
    five x m l = omega arith

back-left : (c b : ℕ) → c < 4 → b < 8 → left_from c ((b + 2 * c) % 8) ≡ b
back-left c b hc hb = omega arith

back-right : (c b : ℕ) → c < 4 → b < 8 → right_from c ((b + 2 * c) % 8) ≡ (b + 6) % 8
back-right c b hc hb = omega arith

-- ---- every row, active or not
module _ (row : List ℕ) (ok : LeanPasses row) where
  look : (i : ℕ) (t : Tuple) → i < 1031 → kept i ≡ true → round_tuple row i ≡ t → (t.multiplicity ≡ 0 → ⊥) → Found t
  look i t h k e due = subst Matched e (ok.lookups i h k) due

  one-due : ◌≡◌ {A = ℕ} 1 0 → ⊥
  one-due e = omega arith

  pub f-kept : (x y b : ℕ) → x < 5 → y < 5 → b < 8 → 2 ≤ b % 4 → Found (rot_tuple row x y b)
  f-kept x y b hx hy hb k =
      look (423 + (x * 40 + y * 8 + b)) (rot_tuple row x y b) (omega arith) (kept-rot (423 + (x * 40 + y * 8 + b)) (omega arith) (omega arith) (omega arith))
      (tuple_at_lem row 8 (x * 40 + y * 8 + b) (omega arith) ∙ of-200 (rot_tuple row) x y b hy hb) one-due

  pub v-carry : (x h : ℕ) → x < 5 → h < 4 → carry_value row x h ≡ 0
  unfolding round_value
  v-carry x h hx hh = sym (then-lt 20 (x * 4 + h) _ _ (omega arith) ∙ of-20 (carry_value row) x h hh) ∙ ok.values (x * 4 + h) (omega arith)

-- ---- an active row
module _ (row : List ℕ) (words : (k : ℕ) → word row k < p) (ok : LeanPasses row) (on : word row MU ≡ 1) where
  mu-due : word row MU ≡ 0 → ⊥
  mu-due e = omega arith

  f-dxz : (x b : ℕ) → x < 5 → b < 8 → Found (dxz_tuple row x b)
  f-dxz x b hx hb =
      look row ok (183 + (x * 8 + b)) (dxz_tuple row x b) (omega arith) (kept-middle (183 + (x * 8 + b)) (omega arith) (omega arith)) (tuple_at_lem row 6 (x * 8 + b) (omega arith) ∙ of-40 (dxz_tuple row) x b hb) mu-due

  f-theta : (x y b : ℕ) → x < 5 → y < 5 → b < 8 → Found (theta_tuple row x y b)
  f-theta x y b hx hy hb =
      look row ok (223 + (x * 40 + y * 8 + b)) (theta_tuple row x y b) (omega arith) (kept-middle (223 + (x * 40 + y * 8 + b)) (omega arith) (omega arith))
      (tuple_at_lem row 7 (x * 40 + y * 8 + b) (omega arith) ∙ of-200 (theta_tuple row) x y b hy hb) mu-due

  f-chi : (x y b : ℕ) → x < 5 → y < 5 → b < 8 → Found (chi_tuple row x y b)
  f-chi x y b hx hy hb =
      look row ok (823 + (x * 40 + y * 8 + b)) (chi_tuple row x y b) (omega arith) (kept_above (823 + (x * 40 + y * 8 + b)) (omega arith))
      (tuple_at_lem row 10 (x * 40 + y * 8 + b) (omega arith) ∙ of-200 (chi_tuple row) x y b hy hb) mu-due

  v-theta : (x h : ℕ) → x < 5 → h < 4 → theta_value row x h ≡ 0
  unfolding round_value
  v-theta x h hx hh =
      sym (then-ge 20 (x * 4 + h) _ _ ∙ then-lt 20 (x * 4 + h) _ _ (omega arith) ∙ of-20 (theta_value row) x h hh) ∙ ok.values (20 + (x * 4 + h)) (omega arith)

  v-rho : (x y h : ℕ) → x < 5 → y < 5 → h < 4 → rho_value row x y h ≡ 0
  unfolding round_value
  v-rho x y h hx hy hh =
      sym (then-ge 20 _ _ _ ∙ then-ge 20 _ _ _ ∙ then-lt 100 (x * 20 + y * 4 + h) _ _ (omega arith) ∙ at-three (rho_value row) (omega arith) (omega arith) (omega arith))
      ∙ ok.values (20 + (20 + (x * 20 + y * 4 + h))) (omega arith)

  -- two words of a row as they stand in its values
  halves : (base h : ℕ) → halfword_at row (base + h * 2) ≡ fadd (word row (base + 2 * h)) (fmul (word row (base + (2 * h + 1))) 256)
  halves base h = ap₂ (λ (j k : ℕ). fadd (word row j) (fmul (word row k) 256)) (lo base h) (hi base h)
    where
      lo : (base h : ℕ) → base + h * 2 ≡ base + 2 * h
      lo base h = omega arith

      hi : (base h : ℕ) → base + h * 2 + 1 ≡ base + (2 * h + 1)
      hi base h = omega arith

  -- ---- C shifted by one
  module _ (x : ℕ) (hx : x < 5) where
    abbrev before : ℕ
    before = (x + 4) % 5

    abbrev after : ℕ
    after = (x + 1) % 5

    around : (before + 1) % 5 ≡ x
    around = omega arith

    around' : (after + 4) % 5 ≡ x
    around' = omega arith

    c-bytes : Bytes (λ b. word row (cxz x 3 b))
    c-bytes b hb = subst (λ (k : ℕ). word row (cxz k 3 b) < 256) around' (alu-of _ _ _ _ (f-dxz after b (omega arith) hb)).0

    rotated-lt : (b : ℕ) → b < 8 → rotated_c_at row x b < 256
    rotated-lt b hb = subst (λ (k : ℕ). rotated_c_at row k b < 256) around (alu-of _ _ _ _ (f-dxz before b (omega arith) hb)).1

    right_lt : (h : ℕ) → h < 4 → word row (cxz-right-bit x h) < 2
    right_lt h l = bit_is (word row (cxz-right-bit x h)) (words (cxz-right-bit x h)) (v-carry row ok x h hx l)

    even : (h : ℕ) → h < 4 → fadd (word row (cxz-left x (2 * h))) (word row (cxz-right-bit x ((h + 3) % 4))) < 256
    even h l =
        subst (λ (n : ℕ). n < 256)
        (ap₂ (λ (m k : ℕ). pick (eqb m 0) (fadd (word row (cxz-left x (2 * h))) (word row (cxz-right-bit x ((k + 3) % 4)))) (word row (cxz-left x (2 * h)))) (e h) (d h)) (rotated-lt (2 * h) (omega arith))
      where
        e : (h : ℕ) → 2 * h % 2 ≡ 0
        e h = omega arith

        d : (h : ℕ) → 2 * h / 2 ≡ h
        d h = omega arith

    odd : (h : ℕ) → h < 4 → word row (cxz-left x (2 * h + 1)) < 256
    odd h l =
        subst (λ (n : ℕ). n < 256)
        (ap (λ (m : ℕ). pick (eqb m 0) (fadd (word row (cxz-left x (2 * h + 1))) (word row (cxz-right-bit x (((2 * h + 1) / 2 + 3) % 4)))) (word row (cxz-left x (2 * h + 1)))) (e h)) (rotated-lt (2 * h + 1) (omega arith))
      where
        e : (h : ℕ) → (2 * h + 1) % 2 ≡ 1
        e h = omega arith

    theta-ident : (h : ℕ) → h < 4
        → fmul 1 (identity (halfword (λ b. word row (cxz x 3 b)) h) 2 (fadd (word row (cxz-left x (2 * h))) (fmul (word row (cxz-left x (2 * h + 1))) 256)) (word row (cxz-right-bit x h))) ≡ 0
    theta-ident h l =
        sym (ap₂ fmul on (ap₂ (λ (i l : ℕ). identity i 2 l (word row (cxz-right-bit x h))) (half_at row (CXZ + (x * 4 + 3) * 8) c-bytes h l) (halves (CXZ-LEFT + x * 8) h))) ∙ v-theta x h hx l

    left-even : (h : ℕ) → h < 4 → word row (cxz-left x (2 * h)) < 256
    left-even =
        even_byte (λ b. word row (cxz x 3 b)) (λ b. word row (cxz-left x b)) (λ h. word row (cxz-right-bit x h)) c-bytes (λ b _. words (cxz-left x b)) right_lt even odd theta-ident

  -- ---- ρ
  module _ (x y : ℕ) (hx : x < 5) (hy : y < 5) where
    abbrev c : ℕ
    c = RHO x y / 16

    -- the lane of π
    abbrev z : ℕ
    z = (2 * x + 3 * y) % 5

    pi-lt : (b : ℕ) → b < 8 → fadd (word row (rot-left x y (left_from c b))) (word row (rot-right x y (right_from c b))) < 256
    pi-lt b hb =
        subst (λ (k : ℕ). fadd (word row (rot-left k y (left_from (RHO k y / 16) b))) (word row (rot-right k y (right_from (RHO k y / 16) b))) < 256) (back-lane x y hx hy)
        (alu-of _ _ _ _ (f-chi y z b hy (omega arith) hb)).0

    sum : (b : ℕ) → b < 8 → fadd (word row (rot-left x y b)) (word row (rot-right x y ((b + 6) % 8))) < 256
    sum b hb =
        subst (λ (n : ℕ). n < 256)
        (ap₂ (λ (j k : ℕ). fadd (word row (rot-left x y j)) (word row (rot-right x y k))) (back-left c b (omega arith) hb) (back-right c b (omega arith) hb))
        (pi-lt ((b + 2 * c) % 8) (omega arith))

    theta-bytes : Bytes (λ b. word row (theta x y b))
    theta-bytes b hb = xor-byte _ _ _ (alu-of _ _ _ _ (f-theta x y b hx hy hb))

    rho-ident : (h : ℕ) → h < 4
        → fmul 1 (identity (halfword (λ b. word row (theta x y b)) h) (2 ^ rnc x y)
        (fadd (word row (rot-left x y (2 * h))) (fmul (word row (rot-left x y (2 * h + 1))) 256)) (fadd (word row (rot-right x y (2 * h))) (fmul (word row (rot-right x y (2 * h + 1))) 256))) ≡ 0
    rho-ident h l =
        sym (ap₂ fmul on (ap₂ (λ (i q : ℕ). identity i (2 ^ rnc x y) q (halfword_at row (rot-right x y (h * 2)))) (half_at row (THETA + (x + 5 * y) * 8) theta-bytes h l) (halves (ROT-LEFT + (x + 5 * y) * 8) h)
        ∙ ap (identity (halfword (λ b. word row (theta x y b)) h) (2 ^ rnc x y) (fadd (word row (rot-left x y (2 * h))) (fmul (word row (rot-left x y (2 * h + 1))) 256))) (halves (ROT-RIGHT + (x + 5 * y) * 8) h)))
        ∙ v-rho x y h hx hy l

    rot-bytes : (b : ℕ) → b < 8 → (word row (rot-left x y b) < 256) × (word row (rot-right x y b) < 256)
    rot-bytes =
        lane-bytes (λ b. word row (theta x y b)) (λ b. word row (rot-left x y b)) (λ b. word row (rot-right x y b)) (rnc x y) (omega arith) theta-bytes
        (λ b _. words (rot-left x y b)) (λ b _. words (rot-right x y b)) (λ b hb k. bytes_of _ _ (f-kept row ok x y b hx hy hb k)) sum rho-ident

  -- ---- the dropped lookups
  f-left : (x i : ℕ) → x < 5 → i < 4 → Found (cxz_left_tuple row x i)
  f-left x i hx hi = of-bytes _ _ (left-even x hx i hi) (odd x hx i hi)

  f-rot : (x y b : ℕ) → x < 5 → y < 5 → b < 8 → Found (rot_tuple row x y b)
  f-rot x y b hx hy hb = let r = rot-bytes x y hx hy b hb in of-bytes _ _ r.0 r.1

  left_at : (k : ℕ) → k < 20 → Found (round_tuple row (163 + k))
  left_at k l = subst Found (sym (tuple_at_lem row 5 k l)) (f-left (k / 4) (k % 4) (omega arith) (omega arith))

  rot-at : (k : ℕ) → k < 200 → Found (round_tuple row (423 + k))
  rot-at k l = subst Found (sym (tuple_at_lem row 8 k l)) (f-rot (k / 40) (k / 8 % 5) (k % 8) (omega arith) (omega arith) (omega arith))

  all-matched : (i : ℕ) → i < 1031 → Matched (round_tuple row i)
  all-matched i h =
      by_le 163 i
      (λ a. by_le 183 i
      (λ b. by_le 423 i
      (λ c. by_le 623 i
      (λ d. ok.lookups i h (kept_above i d))
      (λ d _. let e : 423 + (i - 423) ≡ i = omega arith in subst (λ (k : ℕ). Found (round_tuple row k)) e (rot-at (i - 423) (omega arith))))
      (λ c. ok.lookups i h (kept-middle i b c)))
      (λ b _. let e : 163 + (i - 163) ≡ i = omega arith in subst (λ (k : ℕ). Found (round_tuple row k)) e (left_at (i - 163) (omega arith))))
      (λ a. ok.lookups i h (kept-below i a))

  pub lean-enough : RoundPasses row
  lean-enough = record { values = ok.values; lookups = all-matched }

-- ---- so what is proved of rows that pass holds of these
pub lean-sound : (row : List ℕ) → ((k : ℕ) → word row k < p) → LeanPasses row → word row MU ≡ 1 → RoundSound row
lean-sound row words ok on = round-sound row words (lean-enough row words ok on) on

pub lean-unique : (row : List ℕ) → ((k : ℕ) → word row k < p) → LeanPasses row → word row MU ≡ 1 → length row ≡ 1480
    → row ≡ round_row (word row) (word row ROUND) (state_lanes START row)
lean-unique row words ok on e = round-unique row words (lean-enough row words ok on) on e

-- and the other way round, of every row: fewer lookups ask for less
pub lean-less : (row : List ℕ) → RoundPasses row → LeanPasses row
lean-less row ok = record { values = ok.values; lookups = λ i l _. ok.lookups i l }
