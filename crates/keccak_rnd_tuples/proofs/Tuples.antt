-- What stands at each index of a round row's tuples: the first three, and how many values each has.
use mathlib.Core.Path.{◌≡◌, refl, sym, ap, ◌∙◌}
use mathlib.Core.List.{List}
use Prim.Native.Nat.{ℕ, suc, ◌-◌, ◌/◌, ◌≤◌, ◌<◌}
use native.Mathlib.Omega.{arith}
use lib.ListN.{length}
use Rattle.lists.specs.Tab.{word}
use Rattle.lists.proofs.Laws.{length-tab}
use Rattle.lists.proofs.Then.{by_le}
use Rattle.field.specs.Field.{fadd}
use Rattle.tuple.specs.Tuple.{sender, receiver}
use Rattle.tuple.specs.declared.Bus.TheVariants.{Keccak, KeccakRc}
use Rattle.tuple.specs.declared.Side.TheVariants.{Sender, Receiver}
use Rattle.tuple.specs.Call.{interaction_of}
use Rattle.tuple.proofs.Call.{length-of}
use Rattle.keccak.specs.Tuples.{keccak_values}
use Rattle.keccak.proofs.Reading.{keccak-length}
use Rattle.keccak_rnd.specs.Columns.{start, rc}
use Rattle.keccak_rnd.specs.Tuples.{round_received, round_sent, constant_tuple, round_tuple}
use Rattle.keccak_rnd.proofs.Places.{tuple_at_lem}
use Rattle.keccak_rnd.proofs.Step.{keccak-same}
use Rattle.keccak_rnd_operands.proofs.Groups.{alu-size, left_is, rot-is}
use Rattle.keccak_rnd_byte_tuples.proofs.Places.{at_front, at_left, at-middle, at-rot, at_back, rot-sent}
use Rattle.keccak_rnd_tuples.specs.States.{state_word}
use Rattle.keccak_rnd_tuples.proofs.States.{state-whole}

module _ (row : List ℕ) where
  -- the first three tuples, as they are written
  pub at-received : round_tuple row 0 ≡ receiver Keccak (word row 1479) (keccak_values (word row 0) (word row 1) (word row 2) (state_word row 3 3))
  unfolding round_received
  at-received =
      tuple_at_lem row 0 0 (omega arith)
      ∙ ap (receiver Keccak (word row 1479))
      (keccak-same (word row 0) (word row 1) (word row 2) (λ x y b. word row (start x y b)) (state_word row 3 3) (λ x y b hx hy hb. sym (state-whole row 3 x y b)))

  pub at-sent : round_tuple row 1 ≡ sender Keccak (word row 1479) (keccak_values (word row 0) (word row 1) (fadd (word row 2) 1) (state_word row 1471 1263))
  unfolding round_sent state_word
  at-sent = tuple_at_lem row 1 0 (omega arith)

  pub at-rc : (i : ℕ) → i ≡ 2 → round_tuple row i ≡ constant_tuple row
  at-rc i e = ap (round_tuple row) e ∙ tuple_at_lem row 2 0 (omega arith)

  pub rc-length : length (constant_tuple row).values ≡ 9
  rc-length = ap suc (length-tab 8 (λ b. word row (rc b)))

  -- what a call answers for them
  pub received-interaction : interaction_of (receiver Keccak (word row 1479) (keccak_values (word row 0) (word row 1) (word row 2) (state_word row 3 3))) ≡ record { bus = Keccak; side = Receiver; length = 203; multiplicity = word row 1479 }
  received-interaction = ap (λ (n : ℕ). record { bus = Keccak; side = Receiver; length = n; multiplicity = word row 1479 }) (keccak-length (word row 0) (word row 1) (word row 2) (state_word row 3 3))

  pub sent-interaction : interaction_of (sender Keccak (word row 1479) (keccak_values (word row 0) (word row 1) (fadd (word row 2) 1) (state_word row 1471 1263))) ≡ record { bus = Keccak; side = Sender; length = 203; multiplicity = word row 1479 }
  sent-interaction = ap (λ (n : ℕ). record { bus = Keccak; side = Sender; length = n; multiplicity = word row 1479 }) (keccak-length (word row 0) (word row 1) (fadd (word row 2) 1) (state_word row 1471 1263))

  pub rc-interaction : interaction_of (constant_tuple row) ≡ record { bus = KeccakRc; side = Sender; length = 9; multiplicity = word row 1479 }
  rc-interaction = ap (λ (n : ℕ). record { bus = KeccakRc; side = Sender; length = n; multiplicity = word row 1479 }) rc-length

  -- ---- how many values
  module _ (i : ℕ) where
    pub keccak-size : i < 2 → 203 ≡ length (round_tuple row i).values
    keccak-size h =
        by_le 1 i
        (λ l. length-of (ap (round_tuple row) (one l) ∙ at-sent) (sym (keccak-length (word row 0) (word row 1) (fadd (word row 2) 1) (state_word row 1471 1263))))
        (λ l. length-of (ap (round_tuple row) (none l) ∙ at-received) (sym (keccak-length (word row 0) (word row 1) (word row 2) (state_word row 3 3))))
      where
        one : 1 ≤ i → i ≡ 1
        one l = omega arith

        none : i < 1 → i ≡ 0
        none l = omega arith

    pub rc-size : i ≡ 2 → 9 ≡ length (round_tuple row i).values
    rc-size e = length-of (at-rc i e) (sym rc-length)

    -- on the ByteAlu bus, and on the AreBytes bus
    pub front-size : 3 ≤ i → i < 163 → 4 ≡ length (round_tuple row i).values
    front-size l h = length-of (at_front row i l h) (sym (alu-size row _))

    pub left-size : 163 ≤ i → i < 183 → 2 ≡ length (round_tuple row i).values
    left-size l h = let b : i - 163 < 20 = omega arith in length-of (at_left row i l ∙ (left_is (i - 163) b).tuple row) refl

    pub middle-size : 183 ≤ i → i < 423 → 4 ≡ length (round_tuple row i).values
    middle-size l h = length-of (at-middle row i l h) (sym (alu-size row _))

    pub rot-size : 423 ≤ i → i < 623 → 2 ≡ length (round_tuple row i).values
    rot-size l h = let b : (i - 423) / 8 < 25 = omega arith in length-of (at-rot row i l ∙ rot-sent row (i - 423) (rot-is ((i - 423) / 8) b)) refl

    pub back-size : 623 ≤ i → 4 ≡ length (round_tuple row i).values
    back-size l = length-of (at_back row i l) (sym (alu-size row _))
