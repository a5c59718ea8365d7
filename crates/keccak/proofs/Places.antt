-- Which tuple of a core row stands at an index: part j of them begins at index 0, 1, 2, 3, 4, 54, 55, 59.
use mathlib.Core.Path.{◌≡◌}
use mathlib.Core.List.{List, [], ◌∷◌}
use Prim.Native.Nat.{ℕ, ◌+◌, ◌/◌, ◌%◌, ◌<◌}
use Rattle.lists.specs.Tab.{word}
use Rattle.lists.proofs.Then.{part_start, part_size, part_at, parts_from, then-from, then_at}
use Rattle.tuple.specs.Tuple.{Tuple, sender, receiver}
use Rattle.tuple.specs.declared.Bus.TheVariants.{Keccak}
use Rattle.keccak.specs.Columns.{MU}
use Rattle.keccak.specs.Tuples.{ecall_tuple, addr_memw, core_sent, core_received, pointer_tuple, align_tuple, addr_bytes_tuple, lane_memw, core_tuple}

module _ (nr syscall : ℕ) (row : List ℕ) where
  abbrev pub tuple_parts : List (ℕ × (ℕ → Tuple))
  tuple_parts =
      (1, λ i. ecall_tuple syscall row)
      ∷ (1, λ i. addr_memw row)
      ∷ (1, λ i. sender Keccak (word row MU) (core_sent nr row))
      ∷ (1, λ i. receiver Keccak (word row MU) (core_received row))
      ∷ (50, λ i. pointer_tuple row (i / 2) (i % 2))
      ∷ (1, λ i. align_tuple row)
      ∷ (4, addr_bytes_tuple row)
      ∷ []

  -- tuple k of part j; and from part j on, where the lanes' stand behind the last
  pub tuple_at_lem : (j k : ℕ) → k < part_size tuple_parts j → core_tuple nr syscall row (part_start tuple_parts j + k) ≡ part_at (lane_memw row) tuple_parts j k
  unfolding core_tuple
  tuple_at_lem = then_at (lane_memw row) tuple_parts

  pub tuples-from : (j k : ℕ) → core_tuple nr syscall row (part_start tuple_parts j + k) ≡ parts_from (lane_memw row) tuple_parts j k
  unfolding core_tuple
  tuples-from = then-from (lane_memw row) tuple_parts
