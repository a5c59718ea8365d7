-- What the 84 tuples of an operation's core row add to a counter, from its address: the pointers' low halfwords, the alignment and
-- the address's bytes. Its other tuples end in other tables.
use mathlib.Core.List.{List, [], ◌∷◌}
use mathlib.Core.Path.{◌≡◌, refl, sym, ap, ap₂, ◌∙◌}
use Prim.Native.Nat.{ℕ, ◌+◌, ◌*◌, ◌/◌, ◌%◌, ◌^◌, ◌<◌}
use native.Mathlib.Nat.{zero-add}
use native.Mathlib.Omega.{arith}
use lib.Dec.{eqb}
use lib.Pow.{shr-shr}
use Rattle.lists.specs.Tab.{pick, followed_by}
use Rattle.lists.specs.Sum.{sum_below}
use Rattle.lists.proofs.Sum.{sum_same, sum_then, sum-part, sum-const, sum-flat}
use Rattle.bits.specs.Bits.{byte_at, limb_at}
use Rattle.bits.proofs.Bytes.{byte-lt}
use Rattle.tuple.specs.Tuple.{sender}
use Rattle.tuple.specs.declared.Bus.TheVariants.{ByteAlu, AreBytes, IsHalfword}
use Rattle.bitwise.specs.Charge.{counted, falls_on, charged_row}
use Rattle.bitwise.proofs.Charge.{adds, sent-adds, half-counted, bytes_counted, operands-counted}
use Rattle.keccak.specs.Row.{core_row}
use Rattle.keccak.specs.Tuples.{ecall_tuple, addr_memw, pointer_tuple, align_tuple, addr_bytes_tuple, lane_memw, core_tuple}
use Rattle.keccak.specs.declared.KeccakOperation.{KeccakOperation}
use Rattle.keccak.proofs.Cells.{read-addr, read-pointer, read-mu}
use Rattle.keccak_counts.specs.Places.{hits, pointer_place, align_place, pair_place, address_adds}

-- ---- sums
-- n entries of f that make a, and m of g that make b
pieces : {A : Type 0} (h : A → ℕ) (n m : ℕ) {a b : ℕ} (f g : ℕ → A) → sum_below n (λ i. h (f i)) ≡ a → sum_below m (λ i. h (g i)) ≡ b
    → sum_below (n + m) (λ i. h (followed_by n f g i)) ≡ a + b
pieces h n m f g e d = sum_then h n m f g ∙ ap₂ ◌+◌ e d

-- ---- two bytes of a number, and the halfword that they make
low_byte : (x : ℕ) → byte_at x 0 ≡ x % 256
low_byte x = omega arith

two_bytes : (a i : ℕ) → byte_at a (2 * i) + byte_at a (2 * i + 1) * 256 ≡ a / 2 ^ (16 * i) % 65536
two_bytes a i =
    ap₂ (λ (m n : ℕ). a / 2 ^ m % 256 + a / 2 ^ n % 256 * 256) (even i) (odd i)
    ∙ ap (λ (x : ℕ). a / 2 ^ (16 * i) % 256 + x % 256 * 256) (sym (shr-shr a (16 * i) 8))
    ∙ whole (a / 2 ^ (16 * i))
  where
    even : (i : ℕ) → 8 * (2 * i) ≡ 16 * i
    even i = omega arith

    odd : (i : ℕ) → 8 * (2 * i + 1) ≡ 16 * i + 8
    odd i = omega arith

    whole : (x : ℕ) → x % 256 + x / 256 % 256 * 256 ≡ x % 65536
    whole x = omega arith

-- ---- the tuples that are counted
module _ (o : KeccakOperation) (c : ℕ) where
  abbrev a : ℕ
  a = o.state_addr

  abbrev row : List ℕ
  row = core_row o

  pointer-adds : (i : ℕ) → i < 25 → sum_below 2 (λ j. adds c (pointer_tuple row i j)) ≡ pick (eqb c (pointer_place a i)) 1 0
  unfolding sum_below pointer_tuple falls_on counted limb_at
  pointer-adds i l =
      let h : (a + 8 * i) % 65536 < 2 ^ 16 = omega arith in
      zero-add (adds c (pointer_tuple row i 1))
      ∙ ap₂ (λ (m n : ℕ). adds c (sender IsHalfword m (n ∷ []))) (read-mu o) (read-pointer o i 0 l (omega arith))
      ∙ sent-adds c IsHalfword 1 ((a + 8 * i) % 65536 ∷ []) (pointer_place a i) (half-counted ((a + 8 * i) % 65536) h)

  pointers-add : sum_below 50 (λ i. adds c (pointer_tuple row (i / 2) (i % 2))) ≡ hits 25 (pointer_place a) c
  unfolding hits
  pointers-add =
      sum-flat 25 2 (λ i j. adds c (pointer_tuple row i j))
      ∙ sum_same 25 (λ i. sum_below 2 (λ j. adds c (pointer_tuple row i j))) (λ i. pick (eqb c (pointer_place a i)) 1 0) pointer-adds

  align-adds : adds c (align_tuple row) ≡ pick (eqb c (align_place a)) 1 0
  unfolding align_tuple
  align-adds =
      ap₂ (λ (m n : ℕ). adds c (sender ByteAlu m (0 ∷ n ∷ 7 ∷ 0 ∷ []))) (read-mu o) (read-addr o 0 (omega arith) ∙ low_byte a)
      ∙ sent-adds c ByteAlu 1 (0 ∷ a % 256 ∷ 7 ∷ 0 ∷ []) (align_place a) (operands-counted 0 (a % 256) 7 0 (omega arith) (omega arith) (omega arith))

  pair-adds : (i : ℕ) → i < 4 → adds c (addr_bytes_tuple row i) ≡ pick (eqb c (pair_place a i)) 1 0
  unfolding addr_bytes_tuple
  pair-adds i l =
      let e = read-addr o (2 * i) (omega arith) in
      let d = read-addr o (2 * i + 1) (omega arith) in
      let b = bytes_counted (byte_at a (2 * i)) (byte_at a (2 * i + 1)) (byte-lt a (2 * i)) (byte-lt a (2 * i + 1)) in
      let m = read-mu o in
      (λ t. adds c (sender AreBytes (m t) (e t ∷ d t ∷ [])))
      ∙ sent-adds c AreBytes 1 (byte_at a (2 * i) ∷ byte_at a (2 * i + 1) ∷ []) (pair_place a i) (b.0, b.1 ∙ ap (λ (n : ℕ). n * 10 + 3) (two_bytes a i))

  pub row-adds : (nr syscall : ℕ) → charged_row 84 (core_tuple nr syscall (core_row o)) c ≡ address_adds a c
  unfolding charged_row core_tuple sum_below falls_on counted ecall_tuple addr_memw lane_memw address_adds hits
  row-adds nr syscall =
      sum-part (adds c) 1 83 0 _ _ _ (λ i. refl)
      (sum-part (adds c) 1 82 0 _ _ _ (λ i. refl)
      (sum-part (adds c) 1 81 0 _ _ _ (λ i. refl)
      (sum-part (adds c) 1 80 0 _ _ _ (λ i. refl)
      (pieces (adds c) 50 30 _ _ pointers-add
      (sum-part (adds c) 1 29 (pick (eqb c (align_place a)) 1 0) _ _ _ (λ i. align-adds)
      (pieces (adds c) 4 25 _ _ (sum_same 4 (λ i. adds c (addr_bytes_tuple row i)) (λ i. pick (eqb c (pair_place a i)) 1 0) pair-adds)
      (sum-const 25 0)))))))
      ∙ omega arith
