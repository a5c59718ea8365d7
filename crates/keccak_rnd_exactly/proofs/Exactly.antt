-- Exactly 929 rules of a round row are needed, each by itself. Of the other 243 each follows, in an active row, from the rest: the two Keccak tuples are not looked up;
-- AreBytes of C's shifted halfwords, and of half of ρ's parts, by `lean-enough`, and of the other half in the same way, a halfword on; that a carry of C is a bit, from
-- the sum in which it stands in D's lookup; and that MU is a bit, since it is 1.
use mathlib.Core.Path.{◌≡◌, refl, sym, ap, ap₂, ◌∙◌, subst}
use mathlib.Core.Logic.{◌↔◌}
use mathlib.Core.Bool.{Bool, true, false}
use mathlib.Core.List.{List}
use Prim.Native.Nat.{ℕ, ◌+◌, ◌-◌, ◌*◌, ◌/◌, ◌%◌, ◌^◌, ◌≤◌, ◌<◌}
use native.Mathlib.Decide.{ℕ_discrete}
use native.Mathlib.Nat.{add_comm}
use native.Mathlib.Omega.{arith}
use lib.Bits.{xor_lt}
use lib.Dec.{eqb, leb, leb→le}
use Rattle.lists.specs.Tab.{pick, word, followed_by}
use Rattle.lists.proofs.Tests.{true-not-false, not-true, T_of}
use Rattle.lists.proofs.Then.{by_le, then-all, then-lt, then-ge, then-past, at-three}
use Rattle.field.specs.Field.{p, fadd, fmul}
use Rattle.bits.specs.Bits.{Bytes, halfword, left_from, right_from}
use Rattle.bits.proofs.BitLaws.{by_bit}
use Rattle.bits.proofs.Rotate.{half_lt, by-parity}
use Rattle.fips202.specs.Fips.{RHO}
use Rattle.templates.specs.Templates.{is_bit}
use Rattle.templates.proofs.Bit.{bit_is}
use Rattle.tuple.specs.Tuple.{Tuple}
use Rattle.bitwise.specs.Found.{alu_op}
use Rattle.matching.specs.Matching.{Found, Matched}
use Rattle.matching.proofs.Matching.{alu-of, bytes_of, of-bytes, of-keccak}
use Rattle.keccak.specs.Row.{state_lanes}
use Rattle.keccak_rnd.specs.Columns.{ROUND, START, CXZ, CXZ-LEFT, THETA, ROT-LEFT, ROT-RIGHT, MU, cxz, cxz-left, cxz-right-bit, theta, rot-left, rot-right}
use Rattle.keccak_rnd.specs.Row.{rnc}
use Rattle.keccak_rnd.specs.Values.{halfword_at, identity, carry_value, theta_value, rho_value, round_value}
use Rattle.keccak_rnd.specs.Tuples.{rotated_c_at, cxz_left_tuple, dxz_tuple, theta_tuple, rot_tuple, chi_tuple, round_tuple}
use Rattle.keccak_rnd.specs.Passes.{RoundPasses}
use Rattle.keccak_rnd.proofs.Places.{tuple_at_lem}
use Rattle.keccak_rnd.proofs.Active.{of-20, of-40, of-200}
use Rattle.keccak_rnd.proofs.Soundness.{half_at, round-sound}
use Rattle.keccak_rnd.proofs.Step.{round-fips}
use Rattle.keccak_rnd_lean.specs.Lean.{kept}
use Rattle.keccak_rnd_lean.proofs.Pairs.{digits, identity-mod, pairs-same}
use Rattle.keccak_rnd_lean.proofs.Halves.{lane-bytes}
use Rattle.keccak_rnd_lean.proofs.Enough.{lean-enough}
use Rattle.keccak_rnd_needed.specs.Needed.{needed, PassesBut, Wrong}
use Rattle.keccak_rnd_needed.proofs.Falsity.{pi-from-0}
use Rattle.keccak_rnd_needed.proofs.Needed.{each_needed}
use Rattle.keccak_rnd_exactly.specs.Exactly.{Needed}

-- ---- the rules that are not needed
pub data Other (j : ℕ) : Type 0 where
  keccak : j < 2 → Other j
  left : 163 ≤ j → j < 183 → Other j
  parts : 423 ≤ j → j < 623 → Other j
  carry : 1031 ≤ j → j < 1051 → Other j
  last : j ≡ 1171 → Other j

pub other : (j : ℕ) → j < 1172 → needed j ≡ false → Other j
unfolding needed
other j h =
    then-all (λ t. t ≡ false → Other j) 2 _ _ j (λ a _. keccak a)
    (λ i₁ q₁. then-all (λ t. t ≡ false → Other j) 161 _ _ i₁ (λ a. none)
    (λ i₂ q₂. then-all (λ t. t ≡ false → Other j) 20 _ _ i₂ (λ a _. left (omega arith) (omega arith))
    (λ i₃ q₃. then-all (λ t. t ≡ false → Other j) 240 _ _ i₃ (λ a. none)
    (λ i₄ q₄. then-all (λ t. t ≡ false → Other j) 200 _ _ i₄ (λ a _. parts (omega arith) (omega arith))
    (λ i₅ q₅. then-all (λ t. t ≡ false → Other j) 408 _ _ i₅ (λ a. none)
    (λ i₆ q₆. then-all (λ t. t ≡ false → Other j) 20 _ _ i₆ (λ a _. carry (omega arith) (omega arith))
    (λ i₇ q₇. then-all (λ t. t ≡ false → Other j) 120 _ _ i₇ (λ a. none) (λ i₈ q₈ _. last (omega arith)))))))))
  where
    none : true ≡ false → Other j
    none q = absurd (true-not-false q)

-- ---- a lane of ρ whose words of halfwords 0 and 2 are known to be bytes: `lane-bytes`, a halfword on
module _ (F L R : ℕ → ℕ) (r : ℕ) (hr : r < 16) (hF : Bytes F) (wl : (b : ℕ) → b < 8 → L b < p) (wr : (b : ℕ) → b < 8 → R b < p)
    (looked : (b : ℕ) → b < 8 → b % 4 < 2 → (L b < 256) × (R b < 256)) (sum : (b : ℕ) → b < 8 → fadd (L b) (R ((b + 6) % 8)) < 256)
    (ident : (h : ℕ) → h < 4 → fmul 1 (identity (halfword F h) (2 ^ r) (fadd (L (2 * h)) (fmul (L (2 * h + 1)) 256)) (fadd (R (2 * h)) (fmul (R (2 * h + 1)) 256))) ≡ 0) where
  abbrev on : ℕ → ℕ
  on b = (b + 2) % 8

  Shifted : ℕ → ℕ → Type 0
  Shifted m n = fmul 1 (identity (F m + F n * 256) (2 ^ r) (fadd (L m) (fmul (L n) 256)) (fadd (R m) (fmul (R n) 256))) ≡ 0

  on-even : (h : ℕ) → h < 4 → 2 * ((h + 1) % 4) ≡ (2 * h + 2) % 8
  on-even h l = omega arith

  on-odd : (h : ℕ) → h < 4 → 2 * ((h + 1) % 4) + 1 ≡ (2 * h + 1 + 2) % 8
  on-odd h l = omega arith

  shifted : (h : ℕ) → h < 4 → Shifted (on (2 * h)) (on (2 * h + 1))
  unfolding Shifted
  shifted h l = subst (λ (m : ℕ). Shifted m (on (2 * h + 1))) (on-even h l) (subst (λ (n : ℕ). Shifted (2 * ((h + 1) % 4)) n) (on-odd h l) (ident ((h + 1) % 4) (omega arith)))

  around : (b : ℕ) → b < 8 → (on b + 6) % 8 ≡ on ((b + 6) % 8)
  around b l = omega arith

  back : (b : ℕ) → b < 8 → on ((b + 6) % 8) ≡ b
  back b l = omega arith

  all-bytes : (b : ℕ) → b < 8 → (L b < 256) × (R b < 256)
  unfolding Shifted
  all-bytes b l =
      subst (λ (n : ℕ). (L n < 256) × (R n < 256)) (back b l)
      (lane-bytes (λ b. F (on b)) (λ b. L (on b)) (λ b. R (on b)) r hr (λ b _. hF (on b) (omega arith)) (λ b _. wl (on b) (omega arith)) (λ b _. wr (on b) (omega arith))
      (λ b l k. looked (on b) (omega arith) (omega arith))
      (λ b l. subst (λ (n : ℕ). fadd (L (on b)) (R n) < 256) (around b l) (sum (on b) (omega arith)))
      shifted ((b + 6) % 8) (omega arith))

-- ---- C shifted by one, where the carry of halfword k is not known to be a bit: it stands beside the lowest byte of the next, which is even
module _ (F L Q : ℕ → ℕ) (hF : Bytes F) (hL : Bytes L) (wq : (h : ℕ) → h < 4 → Q h < p) (k : ℕ) (hk : k < 4) (bits : (h : ℕ) → h < 4 → (h ≡ k → ⊥) → Q h < 2)
    (even : (h : ℕ) → h < 4 → fadd (L (2 * h)) (Q ((h + 3) % 4)) < 256)
    (ident : (h : ℕ) → h < 4 → fmul 1 (identity (halfword F h) 2 (fadd (L (2 * h)) (fmul (L (2 * h + 1)) 256)) (Q h)) ≡ 0) where
  twice : (n : ℕ) → n < 65536 → n * 2 ≡ digits (n * 2 % 256) (n * 2 / 256 % 256) (n * 2 / 65536) 0
  twice n l = omega arith

  carry-word : (q : ℕ) → q < p → q ≡ fadd q (fmul 0 256)
  carry-word q l = omega arith

  plain : (n : ℕ) → n < 256 → fadd n 0 < 256
  plain n l = omega arith

  turn : (m n : ℕ) → fadd m n < 256 → fadd n m < 256
  turn m n l = subst (λ (k : ℕ). k % p < 256) (add_comm m n) l

  n< : (h : ℕ) → h < 4 → halfword F h < 65536
  n< h l = half_lt F hF h l

  whole : (h : ℕ) → h < 4 → digits (L (2 * h)) (L (2 * h + 1)) (Q h) 0 % p ≡ halfword F h * 2 % p
  whole h l =
      identity-mod (halfword F h) 2 (L (2 * h)) (L (2 * h + 1)) (Q h) 0
      (sym (ap (λ (q : ℕ). fmul 1 (identity (halfword F h) 2 (fadd (L (2 * h)) (fmul (L (2 * h + 1)) 256)) q)) (carry-word (Q h) (wq h l))) ∙ ident h l)

  small_word : (n : ℕ) → n < 256 → n < p
  small_word n l = omega arith

  -- the words of halfword h, with w beside its carry
  at : (h w : ℕ) → h < 4 → fadd (Q h) w < 256 → halfword F h * 2 / 65536 + w < 256 → (L (2 * h) ≡ halfword F h * 2 % 256) × (Q h ≡ halfword F h * 2 / 65536)
  at h w l s f =
      let n : ℕ = halfword F h in
      let l₀ = hL (2 * h) (omega arith) in
      let l₁ = hL (2 * h + 1) (omega arith) in
      let r = pairs-same n 2 (L (2 * h)) (L (2 * h + 1)) (Q h) 0 (n * 2 % 256) (n * 2 / 256 % 256) (n * 2 / 65536) 0 0 0 w 0
      (small_word _ l₀) (small_word _ l₁) (wq h l) (omega arith) (plain _ l₀) (plain _ l₁) s (omega arith) (omega arith) (omega arith) f (omega arith)
      (whole h l) (twice n (n< h l)) in
      (r.0, r.2)

  next : ℕ
  next = (k + 1) % 4

  carry-bit : Q k < 2
  unfolding next
  carry-bit =
      let nb : Q next < 2 = bits next (omega arith) (λ e. omega arith) in
      let lowest : L (2 * next) ≡ halfword F next * 2 % 256 = (at next 0 (omega arith) (plain (Q next) (omega arith)) (omega (arith, n< next (omega arith)))).0 in
      let came : (next + 3) % 4 ≡ k = omega arith in
      let beside : fadd (L (2 * next)) (Q k) < 256 = subst (λ (m : ℕ). fadd (L (2 * next)) (Q m) < 256) came (even next (omega arith)) in
      let low : L (2 * next) ≤ 254 = lower (L (2 * next)) (halfword F next) lowest in
      let top : halfword F k * 2 / 65536 < 2 = upper (halfword F k) (n< k hk) in
      let q : Q k ≡ halfword F k * 2 / 65536 = (at k (L (2 * next)) hk (turn (L (2 * next)) (Q k) beside) (omega arith)).1 in
      subst (λ (m : ℕ). m < 2) (sym q) top
    where
      lower : (m n : ℕ) → m ≡ n * 2 % 256 → m ≤ 254
      lower m n e = omega arith

      upper : (n : ℕ) → n < 65536 → n * 2 / 65536 < 2
      upper n l = omega arith

-- ---- places, as in keccak_rnd_lean/proofs/Enough.antt
xor-byte : (a b c : ℕ) → (a < 256) × (b < 256) × (c ≡ alu_op 2 a b) → c < 256
unfolding alu_op
xor-byte a b c h = subst (λ (n : ℕ). n < 256) (sym h.2) (xor_lt 8 a b h.0 h.1)

back-left : (c b : ℕ) → c < 4 → b < 8 → left_from c ((b + 2 * c) % 8) ≡ b
back-left c b hc hb = omega arith

back-right : (c b : ℕ) → c < 4 → b < 8 → right_from c ((b + 2 * c) % 8) ≡ (b + 6) % 8
back-right c b hc hb = omega arith

-- ---- a row all whose rules hold but rule j
module _ (j : ℕ) (row : List ℕ) (ok : PassesBut j row) where
  mend : (j < 1031 → Matched (round_tuple row j)) → ((i : ℕ) → i < 141 → 1031 + i ≡ j → round_value row i ≡ 0) → RoundPasses row
  mend t v =
      record {
        values = λ i l. elim (ℕ_discrete (1031 + i) j) [ yes e ↦ v i l e | no n ↦ ok.values i l n ];
        lookups = λ i l. elim (ℕ_discrete i j) [ yes e ↦ subst (λ (k : ℕ). Matched (round_tuple row k)) (sym e) (t (subst (λ (k : ℕ). k < 1031) e l)) | no n ↦ ok.lookups i l n ];
      }

  look : (i : ℕ) (t : Tuple) → i < 1031 → (i ≡ j → ⊥) → round_tuple row i ≡ t → (t.multiplicity ≡ 0 → ⊥) → Found t
  look i t h k e due = subst Matched e (ok.lookups i h k) due

  mu-due : word row MU ≡ 0 → ⊥
  mu-due e = omega (arith, ok.on)

  one-due : ◌≡◌ {A = ℕ} 1 0 → ⊥
  one-due e = omega arith

  -- two words of a row as they stand in its values
  halves : (base h : ℕ) → halfword_at row (base + h * 2) ≡ fadd (word row (base + 2 * h)) (fmul (word row (base + (2 * h + 1))) 256)
  halves base h = ap₂ (λ (j k : ℕ). fadd (word row j) (fmul (word row k) 256)) (lo base h) (hi base h)
    where
      lo : (base h : ℕ) → base + h * 2 ≡ base + 2 * h
      lo base h = omega arith

      hi : (base h : ℕ) → base + h * 2 + 1 ≡ base + (2 * h + 1)
      hi base h = omega arith

  -- ---- AreBytes: what is dropped by the 911, and the other half of ρ's
  by-lean : j < 1031 → kept j ≡ false → RoundPasses row
  by-lean h k =
      lean-enough row ok.below
      (record { values = λ i l. ok.values i l (λ e. omega arith); lookups = λ i l t. ok.lookups i l (λ e. true-not-false (sym t ∙ ap kept e ∙ k)) }) ok.on

  module _ (p₀ : 423 ≤ j) (p₁ : j < 623) (p₂ : 2 ≤ (j - 423) % 4) where
    abbrev x : ℕ
    x = (j - 423) / 40

    abbrev y : ℕ
    y = (j - 423) / 8 % 5

    hx : x < 5
    hx = omega arith

    hy : y < 5
    hy = omega arith

    f-theta : (b : ℕ) → b < 8 → Found (theta_tuple row x y b)
    f-theta b hb =
        look (223 + (x * 40 + y * 8 + b)) (theta_tuple row x y b) (omega arith) (λ e. omega arith) (tuple_at_lem row 7 (x * 40 + y * 8 + b) (omega arith) ∙ of-200 (theta_tuple row) x y b hy hb) mu-due

    f-chi : (v w b : ℕ) → v < 5 → w < 5 → b < 8 → Found (chi_tuple row v w b)
    f-chi v w b hv hw hb =
        look (823 + (v * 40 + w * 8 + b)) (chi_tuple row v w b) (omega arith) (λ e. omega arith) (tuple_at_lem row 10 (v * 40 + w * 8 + b) (omega arith) ∙ of-200 (chi_tuple row) v w b hw hb) mu-due

    f-rot : (b : ℕ) → b < 8 → b % 4 < 2 → Found (rot_tuple row x y b)
    f-rot b hb k =
        look (423 + (x * 40 + y * 8 + b)) (rot_tuple row x y b) (omega arith) (λ e. omega arith) (tuple_at_lem row 8 (x * 40 + y * 8 + b) (omega arith) ∙ of-200 (rot_tuple row) x y b hy hb) one-due

    v-rho : (h : ℕ) → h < 4 → rho_value row x y h ≡ 0
    unfolding round_value
    v-rho h hh =
        sym (then-ge 20 _ _ _ ∙ then-ge 20 _ _ _ ∙ then-lt 100 (x * 20 + y * 4 + h) _ _ (omega arith) ∙ at-three (rho_value row) (omega arith) (omega arith) (omega arith))
        ∙ ok.values (20 + (20 + (x * 20 + y * 4 + h))) (omega arith) (λ e. omega arith)

    abbrev c : ℕ
    c = RHO x y / 16

    abbrev z : ℕ
    z = (2 * x + 3 * y) % 5

    pi-lt : (b : ℕ) → b < 8 → fadd (word row (rot-left x y (left_from c b))) (word row (rot-right x y (right_from c b))) < 256
    pi-lt b hb =
        subst (λ (k : ℕ). fadd (word row (rot-left k y (left_from (RHO k y / 16) b))) (word row (rot-right k y (right_from (RHO k y / 16) b))) < 256) (pi-from-0 x y hx hy)
        (alu-of _ _ _ _ (f-chi y z b hy (omega arith) hb)).0

    sum : (b : ℕ) → b < 8 → fadd (word row (rot-left x y b)) (word row (rot-right x y ((b + 6) % 8))) < 256
    sum b hb =
        subst (λ (n : ℕ). n < 256)
        (ap₂ (λ (j k : ℕ). fadd (word row (rot-left x y j)) (word row (rot-right x y k))) (back-left c b (omega arith) hb) (back-right c b (omega arith) hb))
        (pi-lt ((b + 2 * c) % 8) (omega arith))

    theta-bytes : Bytes (λ b. word row (theta x y b))
    theta-bytes b hb = xor-byte _ _ _ (alu-of _ _ _ _ (f-theta b hb))

    rho-ident : (h : ℕ) → h < 4
        → fmul 1 (identity (halfword (λ b. word row (theta x y b)) h) (2 ^ rnc x y)
        (fadd (word row (rot-left x y (2 * h))) (fmul (word row (rot-left x y (2 * h + 1))) 256)) (fadd (word row (rot-right x y (2 * h))) (fmul (word row (rot-right x y (2 * h + 1))) 256))) ≡ 0
    rho-ident h l =
        sym (ap₂ fmul ok.on (ap₂ (λ (i q : ℕ). identity i (2 ^ rnc x y) q (halfword_at row (rot-right x y (h * 2)))) (half_at row (THETA + (x + 5 * y) * 8) theta-bytes h l) (halves (ROT-LEFT + (x + 5 * y) * 8) h)
        ∙ ap (identity (halfword (λ b. word row (theta x y b)) h) (2 ^ rnc x y) (fadd (word row (rot-left x y (2 * h))) (fmul (word row (rot-left x y (2 * h + 1))) 256))) (halves (ROT-RIGHT + (x + 5 * y) * 8) h)))
        ∙ v-rho h l

    by_next : RoundPasses row
    by_next = mend (λ _ _. there) (λ i l e. omega arith)
      where
        whole : 423 + (j - 423) ≡ j
        whole = omega arith

        there : Found (round_tuple row j)
        there =
            let r = all-bytes (λ b. word row (theta x y b)) (λ b. word row (rot-left x y b)) (λ b. word row (rot-right x y b)) (rnc x y) (omega arith) theta-bytes
            (λ b _. ok.below (rot-left x y b)) (λ b _. ok.below (rot-right x y b)) (λ b hb k. bytes_of _ _ (f-rot b hb k)) sum rho-ident ((j - 423) % 8) (omega arith) in
            subst (λ (k : ℕ). Found (round_tuple row k)) whole (subst Found (sym (tuple_at_lem row 8 (j - 423) (omega arith))) (of-bytes _ _ r.0 r.1))

  -- ---- a carry of C
  module _ (p₀ : 1031 ≤ j) (p₁ : j < 1051) where
    abbrev col : ℕ
    col = (j - 1031) / 4

    abbrev k : ℕ
    k = (j - 1031) % 4

    hcol : col < 5
    hcol = omega arith

    f-dxz : (col b : ℕ) → col < 5 → b < 8 → Found (dxz_tuple row col b)
    f-dxz col b hcol hb =
        look (183 + (col * 8 + b)) (dxz_tuple row col b) (omega arith) (λ e. omega arith) (tuple_at_lem row 6 (col * 8 + b) (omega arith) ∙ of-40 (dxz_tuple row) col b hb) mu-due

    f-left : (i : ℕ) → i < 4 → Found (cxz_left_tuple row col i)
    f-left i hi =
        look (163 + (col * 4 + i)) (cxz_left_tuple row col i) (omega arith) (λ e. omega arith) (tuple_at_lem row 5 (col * 4 + i) (omega arith) ∙ of-20 (cxz_left_tuple row) col i hi) one-due

    v-carry : (h : ℕ) → h < 4 → (h ≡ k → ⊥) → carry_value row col h ≡ 0
    unfolding round_value
    v-carry h hh n = sym (then-lt 20 (col * 4 + h) _ _ (omega arith) ∙ of-20 (carry_value row) col h hh) ∙ ok.values (col * 4 + h) (omega arith) (λ e. n (omega arith))

    v-theta : (h : ℕ) → h < 4 → theta_value row col h ≡ 0
    unfolding round_value
    v-theta h hh =
        sym (then-ge 20 (col * 4 + h) _ _ ∙ then-lt 20 (col * 4 + h) _ _ (omega arith) ∙ of-20 (theta_value row) col h hh) ∙ ok.values (20 + (col * 4 + h)) (omega arith) (λ e. omega arith)

    left-bytes : Bytes (λ b. word row (cxz-left col b))
    left-bytes =
        by-parity (λ b. word row (cxz-left col b) < 256) (λ h l. (bytes_of _ _ (f-left h l)).0) (λ h l. (bytes_of _ _ (f-left h l)).1)

    came : ((col + 4) % 5 + 1) % 5 ≡ col
    came = omega arith

    came-on : ((col + 1) % 5 + 4) % 5 ≡ col
    came-on = omega arith

    c-bytes : Bytes (λ b. word row (cxz col 3 b))
    c-bytes b hb = subst (λ (k : ℕ). word row (cxz k 3 b) < 256) came-on (alu-of _ _ _ _ (f-dxz ((col + 1) % 5) b (omega arith) hb)).0

    rotated-lt : (b : ℕ) → b < 8 → rotated_c_at row col b < 256
    rotated-lt b hb = subst (λ (k : ℕ). rotated_c_at row k b < 256) came (alu-of _ _ _ _ (f-dxz ((col + 4) % 5) b (omega arith) hb)).1

    even : (h : ℕ) → h < 4 → fadd (word row (cxz-left col (2 * h))) (word row (cxz-right-bit col ((h + 3) % 4))) < 256
    even h l =
        subst (λ (n : ℕ). n < 256)
        (ap₂ (λ (m k : ℕ). pick (eqb m 0) (fadd (word row (cxz-left col (2 * h))) (word row (cxz-right-bit col ((k + 3) % 4)))) (word row (cxz-left col (2 * h)))) (e h) (d h)) (rotated-lt (2 * h) (omega arith))
      where
        e : (h : ℕ) → 2 * h % 2 ≡ 0
        e h = omega arith

        d : (h : ℕ) → 2 * h / 2 ≡ h
        d h = omega arith

    theta-ident : (h : ℕ) → h < 4
        → fmul 1 (identity (halfword (λ b. word row (cxz col 3 b)) h) 2 (fadd (word row (cxz-left col (2 * h))) (fmul (word row (cxz-left col (2 * h + 1))) 256)) (word row (cxz-right-bit col h))) ≡ 0
    theta-ident h l =
        sym (ap₂ fmul ok.on (ap₂ (λ (i l : ℕ). identity i 2 l (word row (cxz-right-bit col h))) (half_at row (CXZ + (col * 4 + 3) * 8) c-bytes h l) (halves (CXZ-LEFT + col * 8) h))) ∙ v-theta h l

    is-bit : word row (cxz-right-bit col k) < 2
    is-bit =
        carry-bit (λ b. word row (cxz col 3 b)) (λ b. word row (cxz-left col b)) (λ h. word row (cxz-right-bit col h)) c-bytes left-bytes (λ h _. ok.below (cxz-right-bit col h)) k (omega arith)
        (λ h l n. bit_is (word row (cxz-right-bit col h)) (ok.below (cxz-right-bit col h)) (v-carry h l n)) even theta-ident

    by-sum : RoundPasses row
    unfolding round_value
    by-sum = mend (λ l. absurd (omega arith)) (λ i l e.
        let d : i ≡ col * 4 + k = omega arith in
        ap (round_value row) d ∙ then-lt 20 (col * 4 + k) _ _ (omega arith) ∙ of-20 (carry_value row) col k (omega arith) ∙ by_bit (λ n. is_bit n ≡ 0) refl refl (word row (cxz-right-bit col k)) is-bit)

-- ---- which of ρ's tuples and C's the 911 drop
pub dropped-left : (j : ℕ) → 163 ≤ j → j < 183 → kept j ≡ false
unfolding kept
dropped-left j a b = then-past 163 j _ _ a ∙ then-lt 20 (j - 163) _ _ (omega arith)

pub dropped-parts : (j : ℕ) → 423 ≤ j → j < 623 → (j - 423) % 4 < 2 → kept j ≡ false
unfolding kept
dropped-parts j a b c =
    let m : ℕ = (j - 163 - 20 - 240) % 8 % 4 in
    let l : m < 2 = omega arith in
    then-past 163 j _ _ (omega arith) ∙ then-past 20 (j - 163) _ _ (omega arith) ∙ then-past 240 (j - 163 - 20) _ _ (omega arith) ∙ then-lt 200 (j - 163 - 20 - 240) _ _ (omega arith)
    ∙ not-true (leb 2 m) (λ e. not-two m l (leb→le 2 m (T_of (leb 2 m) e)))
  where
    not-two : (m : ℕ) → m < 2 → 2 ≤ m → ⊥
    not-two m l g = omega arith

keccak-found : (row : List ℕ) (j : ℕ) → j < 2 → Matched (round_tuple row j)
unfolding round_tuple followed_by
keccak-found row j l = by_bit (λ n. Matched (round_tuple row n)) (λ _. of-keccak _) (λ _. of-keccak _) j l

last-value : (row : List ℕ) → round_value row 140 ≡ is_bit (word row MU)
unfolding round_value followed_by
last-value row = refl

-- each rule that is not needed follows, in an active row, from the others
pub follows : (j : ℕ) → j < 1172 → needed j ≡ false → (row : List ℕ) → PassesBut j row → RoundPasses row
follows j h n row ok = go (other j h n)
  where
    go : Other j → RoundPasses row
    go (keccak a) = mend j row ok (λ _. keccak-found row j a) (λ i l e. omega arith)
    go (left a b) = by-lean j row ok (omega arith) (dropped-left j a b)
    go (parts a b) = by_le 2 ((j - 423) % 4) (λ c. by_next j row ok a b c) (λ c. by-lean j row ok (omega arith) (dropped-parts j a b c))
    go (carry a b) = by-sum j row ok a b
    go (last a) = mend j row ok (λ l. absurd (omega arith)) (λ i l e. let d : i ≡ 140 = omega arith in ap (round_value row) d ∙ last-value row ∙ ap is_bit ok.on)

-- so no row is wrong that passes the others
pub all_right : (row : List ℕ) → ((k : ℕ) → word row k < p) → word row MU ≡ 1 → RoundPasses row → Wrong row → ⊥
all_right row words on ok w = let r = round-sound row words ok on in w.state (round-fips row (word row ROUND) (state_lanes START row) r.lanes r.cells w.round)

-- EXACTLY THESE
pub needed-exactly : (j : ℕ) → j < 1172 → (needed j ≡ true) ↔ Needed j
needed-exactly j h = (each_needed j, λ w. back (needed j) refl w)
  where
    back : (t : Bool) → needed j ≡ t → Needed j → t ≡ true
    back true e w = refl
    back false e w = let ok = w.1 in absurd (all_right w.0 ok.below ok.on (follows j h e w.0 ok) w.2)

-- and in a row that is wrong and passes the others, rule j itself fails
pub breaks : (j : ℕ) (row : List ℕ) → PassesBut j row → Wrong row → (j < 1031 → Matched (round_tuple row j)) → ((i : ℕ) → i < 141 → 1031 + i ≡ j → round_value row i ≡ 0) → ⊥
breaks j row ok w t v = all_right row ok.below ok.on (mend j row ok t v) w
