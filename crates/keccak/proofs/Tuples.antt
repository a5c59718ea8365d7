-- Which of a core row's tuples an index names, how many values each has, and the two of a pointer by their columns.
use mathlib.Core.Path.{◌≡◌, refl, sym, ap, ◌∙◌}
use mathlib.Core.List.{List, [], ◌∷◌}
use Prim.Native.Nat.{ℕ, zero, suc, ◌+◌, ◌-◌, ◌*◌, ◌/◌, ◌%◌, ◌≤◌, ◌<◌}
use native.Mathlib.Omega.{arith}
use lib.ListN.{length}
use Rattle.lists.specs.Tab.{tab, tab_from, word}
use Rattle.lists.proofs.Then.{part_start, part_size, part_at}
use Rattle.tuple.specs.Tuple.{sender, receiver}
use Rattle.tuple.specs.declared.Bus.TheVariants.{IsWh, IsHalfword, Keccak}
use Rattle.is_wh.specs.Tuples.{is-whh}
use Rattle.is_wh.proofs.Tuples.{pair-sent, low-sent}
use Rattle.keccak.specs.Columns.{MU, state-ptr}
use Rattle.keccak.specs.Tuples.{ecall_tuple, addr_memw, core_sent, core_received, pointer_tuple, align_tuple, addr_bytes_tuple, lane_memw, core_tuple}
use Rattle.keccak.proofs.Reading.{keccak-length}
use Rattle.keccak.proofs.Places.{tuple_parts, tuple_at_lem, tuples-from}

module _ (nr syscall : ℕ) (row : List ℕ) (i : ℕ) where
  -- the tuple at an index that is place k of part j
  at_part : (j k : ℕ) → i ≡ part_start (tuple_parts nr syscall row) j + k → k < part_size (tuple_parts nr syscall row) j
      → core_tuple nr syscall row i ≡ part_at (lane_memw row) (tuple_parts nr syscall row) j k
  at_part j k e h = ap (core_tuple nr syscall row) e ∙ tuple_at_lem nr syscall row j k h

  pub is-ecall : i ≡ 0 → core_tuple nr syscall row i ≡ ecall_tuple syscall row
  is-ecall e = at_part 0 0 e (omega arith)

  pub is-addr : i ≡ 1 → core_tuple nr syscall row i ≡ addr_memw row
  is-addr e = at_part 1 0 e (omega arith)

  pub is-sent : i ≡ 2 → core_tuple nr syscall row i ≡ sender Keccak (word row MU) (core_sent nr row)
  is-sent e = at_part 2 0 e (omega arith)

  pub is-received : i ≡ 3 → core_tuple nr syscall row i ≡ receiver Keccak (word row MU) (core_received row)
  is-received e = at_part 3 0 e (omega arith)

  pub is_pointer : 4 ≤ i → i < 54 → core_tuple nr syscall row i ≡ pointer_tuple row ((i - 4) / 2) ((i - 4) % 2)
  is_pointer l h = at_part 4 (i - 4) (omega arith) (omega arith)

  pub is-align : i ≡ 54 → core_tuple nr syscall row i ≡ align_tuple row
  is-align e = at_part 5 0 e (omega arith)

  pub is-bytes : 55 ≤ i → i < 59 → core_tuple nr syscall row i ≡ addr_bytes_tuple row (i - 55)
  is-bytes l h = at_part 6 (i - 55) (omega arith) (omega arith)

  pub is-lane : 59 ≤ i → core_tuple nr syscall row i ≡ lane_memw row (i - 59)
  is-lane l = let e : i ≡ 59 + (i - 59) = omega arith in ap (core_tuple nr syscall row) e ∙ tuples-from nr syscall row 7 (i - 59)

-- ---- how many values
module _ (row : List ℕ) where
  pub ecall-length : (syscall : ℕ) → 4 ≡ length (ecall_tuple syscall row).values
  unfolding ecall_tuple
  ecall-length syscall = refl

  pub addr-length : 24 ≡ length (addr_memw row).values
  unfolding addr_memw
  addr-length = refl

  pub sent-length : (nr : ℕ) → 203 ≡ length (core_sent nr row)
  unfolding core_sent
  sent-length nr = sym (keccak-length _ _ _ _)

  pub received-length : 203 ≡ length (core_received row)
  unfolding core_received
  received-length = sym (keccak-length _ _ _ _)

  pub pointer-length : (i j : ℕ) → j < 2 → 2 - j ≡ length (pointer_tuple row i j).values
  unfolding pointer_tuple
  pointer-length i zero h = refl
  pointer-length i (suc zero) h = refl
  pointer-length i (suc (suc j)) h = absurd (omega arith)

  pub align-length : 4 ≡ length (align_tuple row).values
  unfolding align_tuple
  align-length = refl

  pub bytes-length : (i : ℕ) → 2 ≡ length (addr_bytes_tuple row i).values
  unfolding addr_bytes_tuple
  bytes-length i = refl

  pub lane-length : (i : ℕ) → 24 ≡ length (lane_memw row i).values
  unfolding lane_memw tab tab_from
  lane-length i = refl

-- ---- the two tuples of a pointer, by the columns as code counts them
module _ (row : List ℕ) (i j : ℕ) where
  pub pointer_is : pointer_tuple row i j ≡ is-whh row (410 + 3 * i) (word row MU) j
  unfolding pointer_tuple
  pointer_is = ap (λ (k : ℕ). is-whh row k (word row MU) j) (limb i)
    where
      limb : (i : ℕ) → state-ptr i 0 ≡ 410 + 3 * i
      limb i = omega arith

  pub pointer-pair : j ≡ 0 → pointer_tuple row i j ≡ sender IsWh (word row MU) (word row (410 + 3 * i + 2) ∷ word row (410 + 3 * i + 1) ∷ [])
  pointer-pair e = pointer_is ∙ pair-sent row (410 + 3 * i) (word row MU) j e

  pub pointer-low : (j ≡ 0 → ⊥) → pointer_tuple row i j ≡ sender IsHalfword (word row MU) (word row (410 + 3 * i) ∷ [])
  pointer-low n = pointer_is ∙ low-sent row (410 + 3 * i) (word row MU) j n
