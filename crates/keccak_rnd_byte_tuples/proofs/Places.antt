-- The tuples of a round row from 3 on: what is sent for given operands is the tuple, and where each of them stands.
use mathlib.Core.Path.{◌≡◌, sym, ap, subst, ◌∙◌}
use mathlib.Core.List.{List}
use Prim.Native.Nat.{ℕ, ◌+◌, ◌-◌, ◌*◌, ◌/◌, ◌%◌, ◌≤◌, ◌<◌}
use native.Mathlib.Nat.{zero-add}
use native.Mathlib.Omega.{arith}
use lib.ListN.{length}
use Rattle.lists.specs.Tab.{word}
use Rattle.tuple.specs.Tuple.{Tuple}
use Rattle.tuple.proofs.Call.{fits}
use Rattle.byte_tuples.specs.Lanes.{op_number}
use Rattle.keccak_rnd.specs.Tuples.{alu, are_bytes, round_tuple}
use Rattle.keccak_rnd_operands.specs.declared.Operands.{Operands}
use Rattle.keccak_rnd_operands.specs.declared.Pair.{Pair}
use Rattle.keccak_rnd_operands.specs.Lanes.{operand_byte, lane_tuple, alu_tuple, OperandsOf, RotOf}
use Rattle.keccak_rnd_operands.proofs.Groups.{front-run, middle-run, back-run, alu-size, left_is, rot-is}

module _ (row : List ℕ) where
  -- ---- by the operands of its lane
  pub alu-sent : (i : ℕ) {o : Operands} {n a b : ℕ} → OperandsOf (i / 8) o → n ≡ op_number o.op → a ≡ operand_byte row o.a (i % 8) → b ≡ operand_byte row o.b (i % 8)
      → alu_tuple row i ≡ alu row n a b (word row (o.c + i % 8))
  unfolding lane_tuple
  alu-sent i {o} h p q r =
      let e : i ≡ 8 * (i / 8) + i % 8 = omega arith in
      let b : i % 8 < 8 = omega arith in
      ap (alu_tuple row) e ∙ h.tuples row (i % 8) b ∙ sym (λ k. alu row (p k) (q k) (r k) (word row (o.c + i % 8)))

  pub rot-sent : (i : ℕ) {o : Pair} → RotOf (i / 8) o → round_tuple row (423 + i) ≡ are_bytes (word row (o.a + i % 8)) (word row (o.b + i % 8))
  rot-sent i h =
      let e : 423 + i ≡ 423 + (8 * (i / 8) + i % 8) = omega arith in
      let b : i % 8 < 8 = omega arith in
      ap (round_tuple row) e ∙ h.tuples row (i % 8) b

  -- ---- by the index
  module _ (i : ℕ) where
    pub at_front : 3 ≤ i → i < 163 → round_tuple row i ≡ alu_tuple row (i - 3)
    at_front l h =
        let e : i ≡ 3 + (i - 3) = omega arith in
        let b : i - 3 < 160 = omega arith in
        ap (round_tuple row) e ∙ front-run row (i - 3) b ∙ ap (alu_tuple row) (zero-add (i - 3))

    pub at-middle : 183 ≤ i → i < 423 → round_tuple row i ≡ alu_tuple row (i - 183 + 160)
    at-middle l h =
        let e : i ≡ 183 + (i - 183) = omega arith in
        let q : 160 + (i - 183) ≡ i - 183 + 160 = omega arith in
        let b : i - 183 < 240 = omega arith in
        ap (round_tuple row) e ∙ middle-run row (i - 183) b ∙ ap (alu_tuple row) q

    pub at_back : 623 ≤ i → round_tuple row i ≡ alu_tuple row (i - 623 + 400)
    at_back l =
        let e : i ≡ 623 + (i - 623) = omega arith in
        let q : 400 + (i - 623) ≡ i - 623 + 400 = omega arith in
        ap (round_tuple row) e ∙ back-run row (i - 623) ∙ ap (alu_tuple row) q

    pub at_left : 163 ≤ i → round_tuple row i ≡ round_tuple row (163 + (i - 163))
    at_left l = let e : i ≡ 163 + (i - 163) = omega arith in ap (round_tuple row) e

    pub at-rot : 423 ≤ i → round_tuple row i ≡ round_tuple row (423 + (i - 423))
    at-rot l = let e : i ≡ 423 + (i - 423) = omega arith in ap (round_tuple row) e

  -- ---- how many values
  module _ (i : ℕ) where
    pub alu-values : {n : ℕ} (j : ℕ) → round_tuple row i ≡ alu_tuple row j → length (round_tuple row i).values ≤ n → 4 ≤ n
    alu-values {n} j e h = subst (λ (k : ℕ). k ≤ n) (ap (λ (t : Tuple). length t.values) e ∙ alu-size row j) h

    pub left-values : {n : ℕ} → 163 ≤ i → i < 183 → length (round_tuple row i).values ≤ n → 2 ≤ n
    left-values {n} l b h =
        let q : i - 163 < 20 = omega arith in
        fits n (at_left i l ∙ (left_is (i - 163) q).tuple row) h

    pub rot-values : {n : ℕ} → 423 ≤ i → i < 623 → length (round_tuple row i).values ≤ n → 2 ≤ n
    rot-values {n} l b h =
        let q : (i - 423) / 8 < 25 = omega arith in
        fits n (at-rot i l ∙ rot-sent (i - 423) (rot-is ((i - 423) / 8) q)) h
