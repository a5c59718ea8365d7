-- The tuples of a round row lane by lane, and so the operands of each group of lanes: which tuple stands at an index is said by
-- `round_tuple`, the operands are those that the leaves answer.
use mathlib.Core.Path.{◌≡◌, refl, sym, ap, ap₂, subst, ◌∙◌}
use mathlib.Core.List.{List}
use Prim.Native.Nat.{ℕ, ◌+◌, ◌*◌, ◌/◌, ◌%◌, ◌≤◌, ◌<◌}
use native.Mathlib.Nat.{zero-add}
use native.Mathlib.Omega.{arith}
use lib.ListN.{length}
use Rattle.lists.specs.Tab.{tab, word}
use Rattle.lists.proofs.Laws.{get_d-tab, length-tab}
use Rattle.lists.proofs.Then.{then-lt, then-ge, then-all, at-two, at-three}
use Rattle.tuple.specs.Tuple.{Tuple}
use Rattle.keccak_rnd.specs.Columns.{MU}
use Rattle.keccak_rnd.specs.Tuples.{alu, are_bytes, cxz_tuple0, cxz_tuple, dxz_tuple, theta_tuple, rot_tuple, chi_ands_tuple, chi_tuple, iota_tuple, round_tuple}
use Rattle.keccak_rnd.proofs.Places.{tuple_at_lem, tuples-from}
use Rattle.byte_tuples.specs.Lanes.{op_number, alu_lane}
use Rattle.byte_tuples.specs.declared.Op.TheVariants.{And, Xor}
use Rattle.keccak_rnd_terms.proofs.Terms.{xyb, rotated-term, pi-term, not-pi-term}
use Rattle.keccak_rnd_operands.specs.declared.Operand.TheVariants.{Column, Term}
use Rattle.keccak_rnd_operands.specs.declared.Operands.{Operands}
use Rattle.keccak_rnd_operands.specs.Lanes.{Within, operand_byte, lane_tuple, alu_tuple, OperandsOf, LeftOf, RotOf}

-- ---- the parts of an index
part-8 : (x z : ℕ) → z < 8 → (8 * x + z) / 8 ≡ x
part-8 x z b = omega arith

low-8 : (x z : ℕ) → z < 8 → (8 * x + z) % 8 ≡ z
low-8 x z b = omega arith

part-24 : (l z : ℕ) → z < 8 → (8 * l + z) / 24 ≡ l / 3
part-24 l z b = omega arith

mid-3 : (l z : ℕ) → z < 8 → (8 * l + z) / 8 % 3 ≡ l % 3
mid-3 l z b = omega arith

-- ---- the tuple at a place among those of the ByteAlu bus
module _ (row : List ℕ) where
  front : (s k : ℕ) → s + k < 160 → alu_tuple row (s + k) ≡ round_tuple row (3 + s + k)
  unfolding alu_tuple
  front s k h = let e : 3 + (s + k) ≡ 3 + s + k = omega arith in then-lt 160 (s + k) _ _ h ∙ ap (round_tuple row) e

  middle : (s k : ℕ) → s + k < 240 → alu_tuple row (160 + s + k) ≡ round_tuple row (183 + s + k)
  unfolding alu_tuple
  middle s k h =
      let e : 160 + s + k ≡ 160 + (s + k) = omega arith in
      let q : 183 + (s + k) ≡ 183 + s + k = omega arith in
      ap (alu_tuple row) e ∙ then-ge 160 (s + k) _ _ ∙ then-lt 240 (s + k) _ _ h ∙ ap (round_tuple row) q

  back : (s k : ℕ) → alu_tuple row (400 + s + k) ≡ round_tuple row (623 + s + k)
  unfolding alu_tuple
  back s k =
      let e : 400 + s + k ≡ 160 + (240 + (s + k)) = omega arith in
      let q : 623 + (s + k) ≡ 623 + s + k = omega arith in
      ap (alu_tuple row) e ∙ then-ge 160 (240 + (s + k)) _ _ ∙ then-ge 240 (s + k) _ _ ∙ ap (round_tuple row) q

  -- lane l of each group
  parity-at : (l z : ℕ) → l < 5 → z < 8 → alu_tuple row (8 * l + z) ≡ cxz_tuple0 row l z
  parity-at l z h b = ap (alu_tuple row) (sym (zero-add (8 * l + z))) ∙ front 0 (8 * l + z) (omega arith) ∙ tuple_at_lem row 3 (8 * l + z) (omega arith) ∙ at-two (cxz_tuple0 row) (part-8 l z b) (low-8 l z b)

  stage_at : (l z : ℕ) → l < 15 → z < 8 → alu_tuple row (40 + (8 * l + z)) ≡ cxz_tuple row (l / 3) (l % 3) z
  stage_at l z h b = front 40 (8 * l + z) (omega arith) ∙ tuple_at_lem row 4 (8 * l + z) (omega arith) ∙ at-three (cxz_tuple row) (part-24 l z b) (mid-3 l z b) (low-8 l z b)

  d-at : (l z : ℕ) → l < 5 → z < 8 → alu_tuple row (160 + (8 * l + z)) ≡ dxz_tuple row l z
  d-at l z h b = middle 0 (8 * l + z) (omega arith) ∙ tuple_at_lem row 6 (8 * l + z) (omega arith) ∙ at-two (dxz_tuple row) (part-8 l z b) (low-8 l z b)

  theta-at : (l z : ℕ) → l < 25 → z < 8 → alu_tuple row (200 + (8 * l + z)) ≡ theta_tuple row (l / 5) (l % 5) z
  theta-at l z h b = middle 40 (8 * l + z) (omega arith) ∙ tuple_at_lem row 7 (8 * l + z) (omega arith) ∙ xyb (theta_tuple row) l z b

  ands-at : (l z : ℕ) → l < 25 → z < 8 → alu_tuple row (400 + (8 * l + z)) ≡ chi_ands_tuple row (l / 5) (l % 5) z
  ands-at l z h b = back 0 (8 * l + z) ∙ tuple_at_lem row 9 (8 * l + z) (omega arith) ∙ xyb (chi_ands_tuple row) l z b

  chi-at : (l z : ℕ) → l < 25 → z < 8 → alu_tuple row (600 + (8 * l + z)) ≡ chi_tuple row (l / 5) (l % 5) z
  chi-at l z h b = back 200 (8 * l + z) ∙ tuple_at_lem row 10 (8 * l + z) (omega arith) ∙ xyb (chi_tuple row) l z b

  iota-at : (z : ℕ) → alu_tuple row (800 + z) ≡ iota_tuple row z
  iota-at z = back 400 z ∙ tuples-from row 11 z

-- lane n + l of all is lane l of the group that begins with lane n
from-lane : (row : List ℕ) (n l z : ℕ) → alu_tuple row (8 * (n + l) + z) ≡ alu_tuple row (8 * n + (8 * l + z))
from-lane row n l z = let e : 8 * (n + l) + z ≡ 8 * n + (8 * l + z) = omega arith in ap (alu_tuple row) e

-- ---- the operands of each group, lane l of it
module _ (l : ℕ) where
  pub parity-operands : l < 5 → OperandsOf l (record { op = Xor; a = Column (3 + l * 8); b = Column (3 + (l + 5) * 8); c = 203 + l * 4 * 8 })
  unfolding Within lane_tuple operand_byte op_number
  parity-operands h = record { a-within = omega arith; b-within = omega arith; c-within = omega arith; tuples = λ row z b. at row z b }
    where
      first : (z : ℕ) → 3 + (l + 0) * 8 + z ≡ 3 + l * 8 + z
      first z = omega arith

      third : (z : ℕ) → 203 + (l * 4 + 0) * 8 + z ≡ 203 + l * 4 * 8 + z
      third z = omega arith

      at : (row : List ℕ) (z : ℕ) → z < 8 → alu_tuple row (8 * l + z) ≡ alu row 2 (word row (3 + l * 8 + z)) (word row (3 + (l + 5) * 8 + z)) (word row (203 + l * 4 * 8 + z))
      at row z b =
          parity-at row l z h b
          ∙ ap₂ (λ (u v : ℕ). alu row 2 (word row u) (word row (3 + (l + 5) * 8 + z)) (word row v)) (first z) (third z)

  pub stage-operands : l < 15
      → OperandsOf (5 + l)
      (record { op = Xor; a = Column (203 + (l / 3 * 4 + l % 3) * 8); b = Column (3 + (l / 3 + 5 * (l % 3 + 2)) * 8); c = 203 + (l / 3 * 4 + (l % 3 + 1)) * 8 })
  unfolding Within lane_tuple operand_byte op_number
  stage-operands h =
      record {
        a-within = omega arith;
        b-within = omega arith;
        c-within = omega arith;
        tuples = λ row z b. from-lane row 5 l z ∙ stage_at row l z h b;
      }

  pub d-operands : l < 5 → OperandsOf (20 + l) (record { op = Xor; a = Column (203 + ((l + 4) % 5 * 4 + 3) * 8); b = Term (8 * ((l + 1) % 5)); c = 423 + l * 8 })
  unfolding Within lane_tuple operand_byte op_number
  d-operands h =
      record {
        a-within = omega arith;
        b-within = omega arith;
        c-within = omega arith;
        tuples = λ row z b.
            from-lane row 20 l z
            ∙ d-at row l z h b
            ∙ ap (λ (w : ℕ). alu row 2 (word row (203 + ((l + 4) % 5 * 4 + 3) * 8 + z)) w (word row (423 + l * 8 + z))) (sym (rotated-term row ((l + 1) % 5) z (omega arith) b));
      }

  pub theta-operands : l < 25
      → OperandsOf (25 + l)
      (record { op = Xor; a = Column (3 + (l / 5 + 5 * (l % 5)) * 8); b = Column (423 + l / 5 * 8); c = 463 + (l / 5 + 5 * (l % 5)) * 8 })
  unfolding Within lane_tuple operand_byte op_number
  theta-operands h = record { a-within = omega arith; b-within = omega arith; c-within = omega arith; tuples = λ row z b. from-lane row 25 l z ∙ theta-at row l z h b }

  pub ands-operands : l < 25
      → OperandsOf (50 + l)
      (record { op = And; a = Term (240 + 8 * (5 * ((l / 5 + 1) % 5) + l % 5)); b = Term (40 + 8 * (5 * ((l / 5 + 2) % 5) + l % 5)); c = 1063 + (l / 5 + 5 * (l % 5)) * 8 })
  unfolding Within lane_tuple operand_byte op_number
  ands-operands h =
      record {
        a-within = omega arith;
        b-within = omega arith;
        c-within = omega arith;
        tuples = λ row z b.
            from-lane row 50 l z
            ∙ ands-at row l z h b
            ∙ ap₂ (λ (u v : ℕ). alu row 0 u v (word row (1063 + (l / 5 + 5 * (l % 5)) * 8 + z)))
            (sym (not-pi-term row ((l / 5 + 1) % 5) (l % 5) z (omega arith) b))
            (sym (pi-term row ((l / 5 + 2) % 5) (l % 5) z (omega arith) (omega arith) b));
      }

  pub chi-operands : l < 25
      → OperandsOf (75 + l)
      (record { op = Xor; a = Term (40 + 8 * (5 * (l / 5) + l % 5)); b = Column (1063 + (l / 5 + 5 * (l % 5)) * 8); c = 1263 + (l / 5 + 5 * (l % 5)) * 8 })
  unfolding Within lane_tuple operand_byte op_number
  chi-operands h =
      record {
        a-within = omega arith;
        b-within = omega arith;
        c-within = omega arith;
        tuples = λ row z b.
            from-lane row 75 l z
            ∙ chi-at row l z h b
            ∙ ap (λ (w : ℕ). alu row 2 w (word row (1063 + (l / 5 + 5 * (l % 5)) * 8 + z)) (word row (1263 + (l / 5 + 5 * (l % 5)) * 8 + z)))
            (sym (pi-term row (l / 5) (l % 5) z (omega arith) (omega arith) b));
      }

pub iota-operands : OperandsOf 100 (record { op = Xor; a = Column 1263; b = Column 1463; c = 1471 })
unfolding Within lane_tuple operand_byte op_number
iota-operands = record { a-within = omega arith; b-within = omega arith; c-within = omega arith; tuples = λ row z b. iota-at row z }

-- ---- the runs of tuples on the ByteAlu bus
pub eight : {ws : List ℕ} (f : ℕ → ℕ) → ws ≡ tab 8 f → 8 ≤ length ws
eight f e = omega (arith, ap length e ∙ length-tab 8 f)

module _ (row : List ℕ) where
  pub front-run : (k : ℕ) → k < 160 → round_tuple row (3 + k) ≡ alu_tuple row (0 + k)
  front-run k h = let e : 0 + k < 160 = omega arith in sym (front row 0 k e)

  pub middle-run : (k : ℕ) → k < 240 → round_tuple row (183 + k) ≡ alu_tuple row (160 + k)
  middle-run k h = let e : 0 + k < 240 = omega arith in sym (middle row 0 k e)

  pub back-run : (k : ℕ) → round_tuple row (623 + k) ≡ alu_tuple row (400 + k)
  back-run k = sym (back row 0 k)

  -- lane l of a run from lane `from` on, its operands being read eight bytes at a time
  pub run_lane : (from l : ℕ) {o : Operands} {us vs : List ℕ} → OperandsOf (from + l) o → us ≡ tab 8 (operand_byte row o.a) → vs ≡ tab 8 (operand_byte row o.b)
      → (z : ℕ) → z < 8 → alu_tuple row (8 * from + (8 * l + z)) ≡ alu_lane (word row MU) (op_number o.op) us vs row o.c z
  unfolding lane_tuple
  run_lane from l {o} {us} {vs} h p q z b =
      let e : 8 * from + (8 * l + z) ≡ 8 * (from + l) + z = omega arith in
      ap (alu_tuple row) e
      ∙ h.tuples row z b
      ∙ sym (λ i. alu row (op_number o.op) (taken (operand_byte row o.a) p i) (taken (operand_byte row o.b) q i) (word row (o.c + z)))
    where
      taken : {ws : List ℕ} (f : ℕ → ℕ) → ws ≡ tab 8 f → word ws z ≡ f z
      taken f e = ap (λ (r : List ℕ). word r z) e ∙ get_d-tab 8 f z 0 b

  -- each is sent as often as MU says, and has four values
  alu-all : (P : Tuple → Type 0) → ((op a b c : ℕ) → P (alu row op a b c)) → (i : ℕ) → P (alu_tuple row i)
  unfolding alu_tuple
  alu-all P h i = then-all P 160 _ _ i (λ l. in-front i l) (λ j e. then-all P 240 _ _ j (λ l. in-middle j l) (λ k q. in-back k))
    where
      in-front : (k : ℕ) → k < 160 → P (round_tuple row (3 + k))
      in-front k l =
          subst P (sym (tuples-from row 3 k))
          (then-all P 40 _ _ k (λ u. h _ _ _ _) (λ i e. then-all P 120 _ _ i (λ u. h _ _ _ _) (λ j q. absurd (out i j e q l))))
        where
          out : (i j : ℕ) → 40 + i ≡ k → 120 + j ≡ i → k < 160 → ⊥
          out i j e q l = omega arith

      in-middle : (k : ℕ) → k < 240 → P (round_tuple row (183 + k))
      in-middle k l =
          subst P (sym (tuples-from row 6 k))
          (then-all P 40 _ _ k (λ u. h _ _ _ _) (λ i e. then-all P 200 _ _ i (λ u. h _ _ _ _) (λ j q. absurd (out i j e q l))))
        where
          out : (i j : ℕ) → 40 + i ≡ k → 200 + j ≡ i → k < 240 → ⊥
          out i j e q l = omega arith

      in-back : (k : ℕ) → P (round_tuple row (623 + k))
      in-back k =
          subst P (sym (tuples-from row 9 k))
          (then-all P 200 _ _ k (λ u. h _ _ _ _) (λ i e. then-all P 200 _ _ i (λ u. h _ _ _ _) (λ j q. h _ _ _ _)))

  pub alu-size : (i : ℕ) → length (alu_tuple row i).values ≡ 4
  alu-size = alu-all (λ t. length t.values ≡ 4) (λ op a b c. refl)

  pub alu-sent-by-mu : (i : ℕ) → (alu_tuple row i).multiplicity ≡ word row MU
  alu-sent-by-mu = alu-all (λ t. t.multiplicity ≡ word row MU) (λ op a b c. refl)

-- a lane by another name
pub same-lane : {k l : ℕ} {o : Operands} → k ≡ l → OperandsOf k o → OperandsOf l o
same-lane {o = o} e h = subst (λ (n : ℕ). OperandsOf n o) e h

-- ---- the pairs of bytes
pub left_is : (i : ℕ) → i < 20 → LeftOf i (record { a = 363 + 2 * i; b = 363 + 2 * i + 1 })
left_is i h =
    record {
      a-within = omega arith;
      b-within = omega arith;
      tuple = λ row. tuple_at_lem row 5 i h ∙ ap₂ (λ (a b : ℕ). are_bytes (word row a) (word row b)) (first i) (second i);
    }
  where
    first : (i : ℕ) → 363 + i / 4 * 8 + 2 * (i % 4) ≡ 363 + 2 * i
    first i = omega arith

    second : (i : ℕ) → 363 + i / 4 * 8 + (2 * (i % 4) + 1) ≡ 363 + 2 * i + 1
    second i = omega arith

pub rot-is : (l : ℕ) → l < 25 → RotOf l (record { a = 663 + (l / 5 + 5 * (l % 5)) * 8; b = 863 + (l / 5 + 5 * (l % 5)) * 8 })
rot-is l h =
    record {
      a-within = omega arith;
      b-within = omega arith;
      tuples = λ row z b. tuple_at_lem row 8 (8 * l + z) (omega arith) ∙ xyb (rot_tuple row) l z b;
    }
