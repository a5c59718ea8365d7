-- What a row's tuples add to the counters of a kind: the tuples of a core row that are counted, and those of a round row.
--     core-kinds    a core row adds 25 of kind 4, 1 of kind 7 and 4 of kind 3, each MU times, whatever its address
--     round-kinds   a round row that passes adds 608 of kind 9 and 200 of kind 7, each MU times, and 220 of kind 3
use mathlib.Core.Bool.{Bool, true, false, ◌&&◌}
use mathlib.Core.List.{List}
use mathlib.Core.Path.{◌≡◌, refl, ap₂, ◌∙◌}
use Prim.Native.Nat.{ℕ, ◌+◌, ◌*◌, ◌/◌, ◌%◌, ◌<◌}
use native.Mathlib.Omega.{arith}
use lib.Dec.{eqb}
use Rattle.lists.specs.Tab.{pick, word}
use Rattle.lists.specs.Sum.{sum_below}
use Rattle.lists.proofs.Sum.{sum_same, sum-const, sum_then, sum-part, sum-run, sum-zero, sum-flat}
use Rattle.lists.proofs.Then.{T_true}
use Rattle.tuple.specs.Tuple.{Tuple, sender, same_side}
use Rattle.tuple.specs.declared.Bus.{Bus}
use Rattle.tuple.specs.declared.Bus.TheVariants.{ByteAlu, AreBytes, IsHalfword, IsWh, KeccakRc, Keccak, Memw, Ecall, Msb8, Msb16, Zero, IsB20, Hwsl}
use Rattle.tuple.specs.declared.Side.{Side}
use Rattle.tuple.specs.declared.Side.TheVariants.{Sender, Receiver}
use Rattle.bitwise.specs.Charge.{place_kind, found, counted}
use Rattle.bitwise.proofs.Found.{alu-decides, bytes_decides, half-decides}
use Rattle.bitwise.proofs.Charge.{found-counted}
use Rattle.bitwise.proofs.Charged.{kind_adds, kind-sent, kind-bytes, kind-half, kind-alu, kind-received, kind-none}
use Rattle.matching.specs.Matching.{FoundOn, Matched}
use Rattle.keccak.specs.Columns.{MU as CORE-MU, addr, state-ptr}
use Rattle.keccak.specs.Tuples.{ecall_tuple, addr_memw, lane_memw, pointer_tuple, align_tuple, addr_bytes_tuple, core_tuple}
use Rattle.keccak_rnd.specs.Columns.{MU}
use Rattle.keccak_rnd.specs.Tuples.{round_tuple}
use Rattle.keccak_rnd.specs.Passes.{RoundPasses}

-- ---- a core row whose address columns and lowest limbs are in range, where MU is not 0
pub record CoreCounted (row : List ℕ) : Type 0 where
  pub bytes : (word row CORE-MU ≡ 0 → ⊥) → (b : ℕ) → b < 8 → word row (addr b) < 256
  pub limbs : (word row CORE-MU ≡ 0 → ⊥) → (i : ℕ) → i < 25 → word row (state-ptr i 0) < 65536

module _ (k nr syscall : ℕ) (row : List ℕ) (c : CoreCounted row) where
  abbrev m : ℕ
  m = word row CORE-MU

  abbrev of : ℕ → ℕ
  of j = pick (eqb k j) m 0

  -- a pointer's two tuples: only the halfword is looked up in the bitwise table
  pointer-kind : (i : ℕ) → i < 25 → sum_below 2 (λ j. kind_adds k (pointer_tuple row i j)) ≡ of 4
  unfolding sum_below pointer_tuple counted
  pointer-kind i h =
      let a = kind-none k IsWh m (pointer_tuple row i 0).values refl in
      let b = kind-half k m (word row (state-ptr i 0)) (λ n. c.limbs n i h) in
      omega (arith, a, b)

  pointers-kind : sum_below 50 (λ i. kind_adds k (pointer_tuple row (i / 2) (i % 2))) ≡ 25 * of 4
  pointers-kind =
      sum-flat 25 2 (λ r j. kind_adds k (pointer_tuple row r j))
      ∙ sum_same 25 (λ r. sum_below 2 (λ j. kind_adds k (pointer_tuple row r j))) (λ r. of 4) (λ r l. pointer-kind r l)
      ∙ sum-const 25 (of 4)

  align-kind : kind_adds k (align_tuple row) ≡ of 7
  unfolding align_tuple
  align-kind = kind-alu k m 0 (word row (addr 0)) 7 0 (omega arith) (λ n. (c.bytes n 0 (omega arith), omega arith))

  bytes-kind : (i : ℕ) → i < 4 → kind_adds k (addr_bytes_tuple row i) ≡ of 3
  unfolding addr_bytes_tuple
  bytes-kind i h = kind-bytes k m (word row (addr (2 * i))) (word row (addr (2 * i + 1))) (λ n. (c.bytes n (2 * i) (omega arith), c.bytes n (2 * i + 1) (omega arith)))

  pub core-kinds : sum_below 84 (λ i. kind_adds k (core_tuple nr syscall row i)) ≡ 25 * of 4 + of 7 + 4 * of 3
  unfolding core_tuple ecall_tuple addr_memw lane_memw counted
  core-kinds =
      sum-run (kind_adds k) 1 83 0 _ _ _ (λ i _. kind-received k Ecall m _)
      (sum-run (kind_adds k) 1 82 0 _ _ _ (λ i _. kind-none k Memw m _ refl)
      (sum-run (kind_adds k) 1 81 0 _ _ _ (λ i _. kind-none k Keccak m _ refl)
      (sum-run (kind_adds k) 1 80 0 _ _ _ (λ i _. kind-received k Keccak m _)
      (sum_then (kind_adds k) 50 30 _ _
      ∙ ap₂ ◌+◌ pointers-kind
      (sum-run (kind_adds k) 1 29 (of 7) _ _ _ (λ i _. align-kind)
      (sum-run (kind_adds k) 4 25 (of 3) _ _ _ bytes-kind
      (sum-zero 25 _ (λ i _. kind-none k Memw m _ refl))))))))
      ∙ omega arith

-- ---- a row that passes: what it looks up in the bitwise table is counted
-- whether a tuple that is matched is counted: so on the three buses that are looked up there
unfoldable looked_up : Bus → List ℕ → Bool
looked_up ByteAlu v = true
looked_up AreBytes v = true
looked_up IsHalfword v = true
looked_up IsWh v = false
looked_up KeccakRc v = false
looked_up Keccak v = false
looked_up Memw v = false
looked_up Ecall v = false
looked_up Msb8 v = false
looked_up Msb16 v = false
looked_up Zero v = false
looked_up IsB20 v = counted IsB20 v
looked_up Hwsl v = false

unfoldable kind_sends : ℕ → Tuple → ℕ
kind_sends k t = pick (same_side Sender t.side && (looked_up t.bus t.values && eqb k (place_kind t.bus t.values))) t.multiplicity 0

matched-sent : (k : ℕ) (b : Bus) (m : ℕ) (v : List ℕ) → Matched (sender b m v) → kind_adds k (sender b m v) ≡ kind_sends k (sender b m v)
unfolding FoundOn kind_adds kind_sends looked_up counted found
matched-sent k ByteAlu m v h = kind-sent k ByteAlu m v (λ n. found-counted ByteAlu v (T_true _ ((alu-decides v).from (h n))))
matched-sent k AreBytes m v h = kind-sent k AreBytes m v (λ n. found-counted AreBytes v (T_true _ ((bytes_decides v).from (h n))))
matched-sent k IsHalfword m v h = kind-sent k IsHalfword m v (λ n. found-counted IsHalfword v (T_true _ ((half-decides v).from (h n))))
matched-sent k IsWh m v h = refl
matched-sent k KeccakRc m v h = refl
matched-sent k Keccak m v h = refl
matched-sent k Memw m v h = refl
matched-sent k Ecall m v h = refl
matched-sent k Msb8 m v h = refl
matched-sent k Msb16 m v h = refl
matched-sent k Zero m v h = refl
matched-sent k IsB20 m v h = refl
matched-sent k Hwsl m v h = refl

matched-kind : (k : ℕ) (t : Tuple) → Matched t → kind_adds k t ≡ kind_sends k t
unfolding kind_adds kind_sends
matched-kind k t h = go t.side refl
  where
    go : (s : Side) → t.side ≡ s
        → pick (same_side Sender s && (counted t.bus t.values && eqb k (place_kind t.bus t.values))) t.multiplicity 0
        ≡ pick (same_side Sender s && (looked_up t.bus t.values && eqb k (place_kind t.bus t.values))) t.multiplicity 0
    go Sender e = matched-sent k t.bus t.multiplicity t.values h
    go Receiver e = refl

pub round-kinds : (k : ℕ) (row : List ℕ) → RoundPasses row
    → sum_below 1031 (λ i. kind_adds k (round_tuple row i)) ≡ 608 * pick (eqb k 9) (word row MU) 0 + 200 * pick (eqb k 7) (word row MU) 0 + 220 * pick (eqb k 3) 1 0
unfolding round_tuple kind_sends looked_up place_kind
round-kinds k row h =
    sum_same 1031 (λ i. kind_adds k (round_tuple row i)) (λ i. kind_sends k (round_tuple row i)) (λ i l. matched-kind k (round_tuple row i) (h.lookups i l))
    ∙ sum-part (kind_sends k) 1 1030 0 _ _ _ (λ i. refl)
    (sum-part (kind_sends k) 1 1029 0 _ _ _ (λ i. refl)
    (sum-part (kind_sends k) 1 1028 0 _ _ _ (λ i. refl)
    (sum-part (kind_sends k) 40 988 _ _ _ _ (λ i. refl)
    (sum-part (kind_sends k) 120 868 _ _ _ _ (λ i. refl)
    (sum-part (kind_sends k) 20 848 _ _ _ _ (λ i. refl)
    (sum-part (kind_sends k) 40 808 _ _ _ _ (λ i. refl)
    (sum-part (kind_sends k) 200 608 _ _ _ _ (λ i. refl)
    (sum-part (kind_sends k) 200 408 _ _ _ _ (λ i. refl)
    (sum-part (kind_sends k) 200 208 _ _ _ _ (λ i. refl)
    (sum-part (kind_sends k) 200 8 _ _ _ _ (λ i. refl)
    (sum-const 8 (pick (eqb k 9) (word row MU) 0))))))))))))
    ∙ omega arith
