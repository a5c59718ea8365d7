-- A tuple that is charged is found in the row that it is charged to. Of round rows always, of core rows where the address is a
-- multiple of 8; where it is not, the alignment tuple is counted in the row of its operands, and no row of the table has it.
--     round-placed          tuples of round rows
--     core-placed           tuples of core rows but the alignment tuple, whatever the addresses
--     align-placed          and that one, of an aligned address
--     align-lost            of any other: it is counted, and no row has it
--     table-placed          so all of a table's, where all addresses are aligned
--     syscall-free          nothing that is charged depends on the syscall number
use mathlib.Core.Bool.{true}
use mathlib.Core.List.{List, [], ◌∷◌}
use mathlib.Core.Path.{◌≡◌, refl, sym, ap, ap₂, subst, ◌∙◌}
use Prim.Native.Nat.{ℕ, zero, suc, ◌/◌, ◌%◌, ◌≤◌, ◌<◌}
use native.Mathlib.Omega.{arith}
use borrow.Author.Tests.{eq-eqb}
use lib.Bits.{and_mask}
use Rattle.lists.specs.Tab.{word}
use Rattle.lists.specs.Sum.{sum_below}
use Rattle.lists.proofs.Sum.{sum_same}
use Rattle.lists.proofs.Kept.{by-eq}
use Rattle.lists.proofs.Then.{T_true, then-all, then-lt, then-past, by_le}
use Rattle.bits.specs.Bits.{byte_at}
use Rattle.bits.proofs.Bytes.{byte-lt}
use Rattle.fips202.specs.Lanes.{Lanes}
use Rattle.tuple.specs.Tuple.{Tuple, sender}
use Rattle.tuple.specs.declared.Bus.{Bus}
use Rattle.tuple.specs.declared.Bus.TheVariants.{ByteAlu, AreBytes, IsHalfword, IsWh, KeccakRc, Keccak, Memw, Ecall, Msb8, Msb16, Zero, IsB20, Hwsl}
use Rattle.bitwise.specs.Found.{BitwiseFound, alu_op, AluFound}
use Rattle.bitwise.specs.Charge.{found, counted, place_counter, falls_on, PlacedAt, charged_row, charged}
use Rattle.bitwise.proofs.Found.{alu-decides, alu-occurs, alu-direct}
use Rattle.bitwise.proofs.Charge.{found-placed, Sound, operands-counted, falls-is, adds, received-adds}
use Rattle.bitwise.proofs.Charged.{falls-place}
use Rattle.matching.specs.Matching.{FoundOn}
use Rattle.keccak.specs.Columns.{addr}
use Rattle.keccak.specs.Row.{core_row, core_pad, core_row_at}
use Rattle.keccak.specs.Tuples.{ecall_tuple, addr_memw, lane_memw, pointer_tuple, align_tuple, addr_bytes_tuple, core_tuple}
use Rattle.keccak.specs.declared.KeccakOperation.{KeccakOperation}
use Rattle.keccak.proofs.Cells.{read-addr, read-mu, pad-zero}
use Rattle.keccak.proofs.Table.{core-row-op, core-row-pad}
use Rattle.keccak.proofs.Tuples.{is-align}
use Rattle.keccak_rnd.specs.Row.{round_row_at}
use Rattle.keccak_rnd.specs.Tuples.{round_tuple}
use Rattle.keccak_rnd.proofs.Table.{round-table-passes}

-- a tuple that falls on a counter stands in the row and under the kind of that counter
falls-stands : (t : Tuple) → Sound t → (c : ℕ) → falls_on t c ≡ true → PlacedAt t c
unfolding PlacedAt
falls-stands t ok c f = let e = falls-place t c f in (found-placed t.bus t.values (ok e.0), e.1)

-- ---- round rows: every tuple that is sent is matched
pub matched-sound : (b : Bus) (v : List ℕ) → FoundOn b v → counted b v ≡ true → found b v ≡ true
unfolding FoundOn found counted
matched-sound ByteAlu v h e = T_true _ ((alu-decides v).from h)
matched-sound AreBytes v h e = e
matched-sound IsHalfword v h e = e
matched-sound IsWh v h e = e
matched-sound KeccakRc v h e = e
matched-sound Keccak v h e = e
matched-sound Memw v h e = e
matched-sound Ecall v h e = e
matched-sound Msb8 v h e = e
matched-sound Msb16 v h e = e
matched-sound Zero v h e = e
matched-sound IsB20 v h e = e
matched-sound Hwsl v h e = e

pub round-sound : (nr n : ℕ) (op : ℕ → KeccakOperation) → nr ≤ 24 → ((i : ℕ) → i < n → Lanes (op i).input)
    → (q i : ℕ) → i < 1031 → ((round_tuple (round_row_at nr n op q) i).multiplicity ≡ 0 → ⊥) → Sound (round_tuple (round_row_at nr n op q) i)
round-sound nr n op few lanes q i l some e =
    let t = round_tuple (round_row_at nr n op q) i in
    matched-sound t.bus t.values ((round-table-passes nr n op few lanes q).lookups i l some) e

pub round-placed : (nr n : ℕ) (op : ℕ → KeccakOperation) → nr ≤ 24 → ((i : ℕ) → i < n → Lanes (op i).input)
    → (q i c : ℕ) → i < 1031 → ((round_tuple (round_row_at nr n op q) i).multiplicity ≡ 0 → ⊥)
    → falls_on (round_tuple (round_row_at nr n op q) i) c ≡ true → PlacedAt (round_tuple (round_row_at nr n op q) i) c
round-placed nr n op few lanes q i c l some f = falls-stands (round_tuple (round_row_at nr n op q) i) (round-sound nr n op few lanes q i l some) c f

-- ---- core rows
pointer-sound : (row : List ℕ) (i j : ℕ) → Sound (pointer_tuple row i j)
unfolding pointer_tuple found counted
pointer-sound row i zero e = e
pointer-sound row i (suc j) e = e

-- of any row, and whatever it holds
pub core-sound-but : (nr syscall : ℕ) (row : List ℕ) (i : ℕ) → (i ≡ 54 → ⊥) → Sound (core_tuple nr syscall row i)
unfolding core_tuple ecall_tuple addr_memw lane_memw addr_bytes_tuple found counted
core-sound-but nr syscall row i n =
    then-all Sound 1 _ _ i (λ a e. e)
    (λ i₁ e₁. then-all Sound 1 _ _ i₁ (λ a e. e)
    (λ i₂ e₂. then-all Sound 1 _ _ i₂ (λ a e. e)
    (λ i₃ e₃. then-all Sound 1 _ _ i₃ (λ a e. e)
    (λ i₄ e₄. then-all Sound 50 _ _ i₄ (λ a. pointer-sound row (i₄ / 2) (i₄ % 2))
    (λ i₅ e₅. then-all Sound 1 _ _ i₅ (λ a. absurd (n (omega (arith, a, e₁, e₂, e₃, e₄, e₅))))
    (λ i₆ e₆. then-all Sound 4 _ _ i₆ (λ a e. e)
    (λ i₇ e₇ e. e)))))))

pub core-placed : (nr syscall : ℕ) (row : List ℕ) (i c : ℕ) → (i ≡ 54 → ⊥) → falls_on (core_tuple nr syscall row i) c ≡ true → PlacedAt (core_tuple nr syscall row i) c
core-placed nr syscall row i c n f = falls-stands (core_tuple nr syscall row i) (core-sound-but nr syscall row i n) c f

-- ---- the alignment tuple: AND of the address's lowest byte and 7 is 0
-- the lowest byte and 7
low_byte : (a : ℕ) → alu_op 0 (byte_at a 0) 7 ≡ a % 8
unfolding alu_op
low_byte a = and_mask (byte_at a 0) 3 ∙ omega arith

module _ (o : KeccakOperation) where
  abbrev a : ℕ
  a = o.state_addr

  abbrev values : List ℕ
  values = 0 ∷ byte_at a 0 ∷ 7 ∷ 0 ∷ []

  pub align_is : align_tuple (core_row o) ≡ sender ByteAlu 1 values
  unfolding align_tuple
  align_is = ap₂ (λ (m b : ℕ). sender ByteAlu m (0 ∷ b ∷ 7 ∷ 0 ∷ [])) (read-mu o) (read-addr o 0 (omega arith))

  -- it is counted, whatever the address
  pub align-counted : counted ByteAlu values ≡ true
  align-counted = (operands-counted 0 (byte_at a 0) 7 0 (omega arith) (byte-lt a 0) (omega arith)).0

  pub align-found : a % 8 ≡ 0 → found ByteAlu values ≡ true
  unfolding found
  align-found e = T_true _ ((alu-decides values).from (alu-occurs 0 (byte_at a 0) 7 0 (omega arith) (byte-lt a 0) (omega arith) (sym (low_byte a ∙ e))))

  -- and found in the table only where the address is a multiple of 8
  pub align-lost : (a % 8 ≡ 0 → ⊥) → BitwiseFound ByteAlu values → ⊥
  unfolding AluFound
  align-lost n f = n (sym (low_byte a) ∙ sym (alu-direct f).4)

  pub align-sound : a % 8 ≡ 0 → Sound (align_tuple (core_row o))
  align-sound e = subst Sound (sym align_is) (λ _. align-found e)

pad-sound : Sound (align_tuple core_pad)
unfolding align_tuple found
pad-sound _ =
    T_true _ ((alu-decides (0 ∷ word core_pad (addr 0) ∷ 7 ∷ 0 ∷ [])).from (alu-occurs 0 (word core_pad (addr 0)) 7 0 (omega arith) (omega (arith, pad-zero (addr 0) (omega arith))) (omega arith) (sym zero-and)))
  where
    zero-and : alu_op 0 (word core_pad (addr 0)) 7 ≡ 0
    zero-and = ap (λ (n : ℕ). alu_op 0 n 7) (pad-zero (addr 0) (omega arith)) ∙ low_byte 0

-- ---- a whole table, all of whose addresses are multiples of 8
module _ (nr n : ℕ) (op : ℕ → KeccakOperation) (even : (i : ℕ) → i < n → (op i).state_addr % 8 ≡ 0) where
  row-align : (r : ℕ) → Sound (align_tuple (core_row_at n op r))
  row-align r =
      by_le n r (λ l. subst (λ (x : List ℕ). Sound (align_tuple x)) (sym (core-row-pad n op r l)) pad-sound)
      (λ l. subst (λ (x : List ℕ). Sound (align_tuple x)) (sym (core-row-op n op r l)) (align-sound (op r) (even r l)))

  pub table-sound : (r i : ℕ) → Sound (core_tuple nr 0 (core_row_at n op r) i)
  table-sound r i = by-eq i 54 (λ e. subst Sound (sym (is-align nr 0 (core_row_at n op r) i e)) (row-align r)) (λ d. core-sound-but nr 0 (core_row_at n op r) i d)

  pub table-placed : (r i c : ℕ) → falls_on (core_tuple nr 0 (core_row_at n op r) i) c ≡ true → PlacedAt (core_tuple nr 0 (core_row_at n op r) i) c
  table-placed r i c f = falls-stands (core_tuple nr 0 (core_row_at n op r) i) (table-sound r i) c f

-- where an address is not: tuple 54 of its row is counted, and no row of the table has it
pub unaligned : (nr n : ℕ) (op : ℕ → KeccakOperation) (r : ℕ) → r < n → ((op r).state_addr % 8 ≡ 0 → ⊥)
    → (falls_on (core_tuple nr 0 (core_row_at n op r) 54) (place_counter ByteAlu (core_tuple nr 0 (core_row_at n op r) 54).values) ≡ true)
    × ((core_tuple nr 0 (core_row_at n op r) 54).multiplicity ≡ 1)
    × (BitwiseFound ByteAlu (core_tuple nr 0 (core_row_at n op r) 54).values → ⊥)
unaligned nr n op r l odd =
    let t : core_tuple nr 0 (core_row_at n op r) 54 ≡ sender ByteAlu 1 (0 ∷ byte_at (op r).state_addr 0 ∷ 7 ∷ 0 ∷ []) = is-align nr 0 (core_row_at n op r) 54 refl ∙ ap align_tuple (core-row-op n op r l) ∙ align_is (op r) in
    let v : List ℕ = 0 ∷ byte_at (op r).state_addr 0 ∷ 7 ∷ 0 ∷ [] in (
      subst (λ (u : Tuple). falls_on u (place_counter ByteAlu u.values) ≡ true) (sym t) (falls-is ByteAlu 1 v (place_counter ByteAlu v) (align-counted (op r)) ∙ eq-eqb (place_counter ByteAlu v) (place_counter ByteAlu v) refl),
      ap (λ (u : Tuple). u.multiplicity) t,
      subst (λ (u : Tuple). BitwiseFound ByteAlu u.values → ⊥) (sym t) (align-lost (op r) odd),
    )

-- ---- no lookup depends on the syscall number: it stands in tuple 0, which is received
module _ (nr syscall c : ℕ) where
  each : (row : List ℕ) (i : ℕ) → adds c (core_tuple nr syscall row i) ≡ adds c (core_tuple nr 0 row i)
  unfolding core_tuple ecall_tuple
  each row zero =
      ap (adds c) (then-lt 1 0 _ _ (omega arith)) ∙ received-adds c Ecall _ _
      ∙ sym (ap (adds c) (then-lt 1 0 _ _ (omega arith)) ∙ received-adds c Ecall _ _)
  each row (suc i) = ap (adds c) (then-past 1 (suc i) _ _ (omega arith) ∙ sym (then-past 1 (suc i) _ _ (omega arith)))

  pub syscall-free : (h : ℕ) (row : ℕ → List ℕ)
      → charged h 84 (λ r. core_tuple nr syscall (row r)) c ≡ charged h 84 (λ r. core_tuple nr 0 (row r)) c
  unfolding charged charged_row
  syscall-free h row =
      sum_same h (λ r. sum_below 84 (λ i. adds c (core_tuple nr syscall (row r) i))) (λ r. sum_below 84 (λ i. adds c (core_tuple nr 0 (row r) i)))
      (λ r l. sum_same 84 (λ i. adds c (core_tuple nr syscall (row r) i)) (λ i. adds c (core_tuple nr 0 (row r) i)) (λ i k. each (row r) i))
