-- Which tuple of a round row stands at an index: part j of them begins at index 0, 1, 2, 3, 43, 163, 183, 223, 423, 623, 823, 1023.
use mathlib.Core.Path.{◌≡◌}
use mathlib.Core.List.{List, [], ◌∷◌}
use Prim.Native.Nat.{ℕ, ◌+◌, ◌/◌, ◌%◌, ◌<◌}
use Rattle.lists.specs.Tab.{word}
use Rattle.lists.proofs.Then.{part_start, part_size, part_at, parts_from, then-from, then_at}
use Rattle.tuple.specs.Tuple.{Tuple, sender, receiver}
use Rattle.tuple.specs.declared.Bus.TheVariants.{Keccak}
use Rattle.keccak.specs.Columns.{by_xyb}
use Rattle.keccak_rnd.specs.Columns.{MU}
use Rattle.keccak_rnd.specs.Tuples.{round_received, round_sent, constant_tuple, cxz_tuple0, cxz_tuple, cxz_left_tuple, dxz_tuple, theta_tuple, rot_tuple, chi_ands_tuple, chi_tuple, iota_tuple, round_tuple}

module _ (row : List ℕ) where
  abbrev pub tuple_parts : List (ℕ × (ℕ → Tuple))
  tuple_parts =
      (1, λ i. receiver Keccak (word row MU) (round_received row))
      ∷ (1, λ i. sender Keccak (word row MU) (round_sent row))
      ∷ (1, λ i. constant_tuple row)
      ∷ (40, λ i. cxz_tuple0 row (i / 8) (i % 8))
      ∷ (120, λ i. cxz_tuple row (i / 24) (i / 8 % 3) (i % 8))
      ∷ (20, λ i. cxz_left_tuple row (i / 4) (i % 4))
      ∷ (40, λ i. dxz_tuple row (i / 8) (i % 8))
      ∷ (200, by_xyb (theta_tuple row))
      ∷ (200, by_xyb (rot_tuple row))
      ∷ (200, by_xyb (chi_ands_tuple row))
      ∷ (200, by_xyb (chi_tuple row))
      ∷ []

  -- tuple k of part j; and from part j on, where ι's stand behind the last
  pub tuple_at_lem : (j k : ℕ) → k < part_size tuple_parts j → round_tuple row (part_start tuple_parts j + k) ≡ part_at (iota_tuple row) tuple_parts j k
  unfolding round_tuple
  tuple_at_lem = then_at (iota_tuple row) tuple_parts

  pub tuples-from : (j k : ℕ) → round_tuple row (part_start tuple_parts j + k) ≡ parts_from (iota_tuple row) tuple_parts j k
  unfolding round_tuple
  tuples-from = then-from (iota_tuple row) tuple_parts
