-- What is compared of a record and of a row.
--     record-row        a record asks for the first columns of the row that is written of its words
--     matches-exactly   equal columns, by the numbers that a row makes
--     wide-unmatched, large-unmatched   no record asks for a timestamp word of 2^32 or more, or for a byte of 256 or more
--     behind-mark       what a record asks for stands in the 416 bytes behind its mark
use mathlib.Core.Path.{◌≡◌, refl, sym, ap, subst, ◌∙◌}
use mathlib.Core.List.{List}
use mathlib.Core.Logic.{◌↔◌, ◌⊎◌, ⊎_elim}
use Prim.Native.Nat.{ℕ, zero, suc, ◌+◌, ◌-◌, ◌*◌, ◌/◌, ◌%◌, ◌^◌, ◌≤◌, ◌<◌}
use native.Mathlib.Omega.{arith}
use borrow.Author.Tests.{lt-ltb, le-ltb}
use lib.ListN.{get_or}
use Rattle.lists.specs.Tab.{tab, word}
use Rattle.lists.proofs.Then.{by_le}
use Rattle.lists.proofs.Laws.{get_d-tab, tab-same, list-tab, row-at}
use Rattle.bits.specs.Bits.{byte_at, word_at, pack, lane_of}
use Rattle.bits.proofs.Bytes.{pack-lt, pack-by, lane-same, lane-byte_at, lane_byte_lem}
use Rattle.fips202.proofs.Steps.{lane-grid}
use Rattle.keccak.specs.Columns.{TIMESTAMP-0, TIMESTAMP-1, ADDR, INPUT-STATE, OUTPUT-STATE, STATE-PTR, lane_column}
use Rattle.keccak.specs.Row.{core_groups, core_row, state_lanes}
use Rattle.keccak.specs.declared.KeccakOperation.{KeccakOperation}
use Rattle.keccak.proofs.State.{length-state}
use Rattle.keccak.proofs.Cells.{read-t0, read-t1, read-addr}
use Rattle.verdict.proofs.Operations.{low_word, high_word}
use Rattle.op_file.specs.File.{record_word}
use Rattle.op_list.proofs.RecordAgain.{word_of}
use Rattle.same_operations.specs.Same.{record_cell, record_cells, row_cells, Matches}

-- ---- the columns of a record
-- column k, of the timestamp and behind it
pub stamp-cell : (r : List ℕ) (k : ℕ) → k < 2 → record_cell r k ≡ pack 4 (2 + 4 * k) (word r)
unfolding record_cell
stamp-cell r k l = simp (lt-ltb k 2 l)

pub byte-cell : (r : List ℕ) (k : ℕ) → 2 ≤ k → record_cell r k ≡ word r (8 + k)
unfolding record_cell
byte-cell r k l = simp (le-ltb k 2 l)

-- eight bytes as two numbers of four
two-halves : (f : ℕ → ℕ) → pack 8 2 f ≡ pack 4 2 f + 2 ^ 32 * pack 4 6 f
unfolding pack
two-halves f = omega arith

-- the columns behind the timestamp, eight to a word
column-is : (k : ℕ) → 2 ≤ k → k < STATE-PTR → (2 + 8 * ((k - 2) / 8) + (k - 2) % 8 ≡ k) × ((k - 2) / 8 < 51)
column-is k l h = (omega arith, omega arith)

module _ (r : List ℕ) (small : (k : ℕ) → word r k < 256) where
  -- the timestamp
  stamp-is : record_word r 0 ≡ record_cell r 0 + 2 ^ 32 * record_cell r 1
  stamp-is =
      word_of r 0 (omega arith)
      ∙ pack-by 8 0 2 (λ b. word r (2 + 8 * 0 + b)) (word r) (λ b l. ap (λ (k : ℕ). word r (2 + k)) (omega arith))
      ∙ two-halves (word r)
      ∙ sym (λ i. stamp-cell r 0 (omega arith) i + 2 ^ 32 * stamp-cell r 1 (omega arith) i)

  stamp-short : (k : ℕ) → k < 2 → record_cell r k < 2 ^ 32
  stamp-short k l = subst (λ (n : ℕ). n < 2 ^ 32) (sym (stamp-cell r k l)) (pack-lt 4 (2 + 4 * k) (word r) (λ b g h. small b))

  low-cell : word_at (record_word r 0) 0 ≡ record_cell r 0
  low-cell = ap (λ (n : ℕ). word_at n 0) stamp-is ∙ low_word (record_cell r 0) (record_cell r 1) (stamp-short 0 (omega arith))

  high-cell : word_at (record_word r 0) 1 ≡ record_cell r 1
  high-cell = ap (λ (n : ℕ). word_at n 1) stamp-is ∙ high_word (record_cell r 0) (record_cell r 1) (stamp-short 0 (omega arith))

  -- byte b of word 1 + j
  cell-is : (j b : ℕ) → j < 51 → b < 8 → record_cell r (2 + 8 * j + b) ≡ byte_at (record_word r (1 + j)) b
  cell-is j b l h =
      let e : 8 + (2 + 8 * j + b) ≡ 2 + 8 * (1 + j) + b = omega arith in
      byte-cell r (2 + 8 * j + b) (omega arith)
      ∙ ap (word r) e
      ∙ sym (lane-byte_at (λ c. word r (2 + 8 * (1 + j) + c)) (λ c g. small (2 + 8 * (1 + j) + c)) b h)
      ∙ ap (λ (n : ℕ). byte_at n b) (sym (word_of r (1 + j) (omega arith)))

  -- a row whose timestamp and bytes are these
  cells_same : (x : List ℕ) → word x 0 ≡ word_at (record_word r 0) 0 → word x 1 ≡ word_at (record_word r 0) 1 →
      ((j b : ℕ) → j < 51 → b < 8 → word x (2 + 8 * j + b) ≡ byte_at (record_word r (1 + j)) b) → record_cells r ≡ row_cells x
  unfolding record_cells row_cells
  cells_same x low high bytes = tab-same STATE-PTR (record_cell r) (word x) each
    where
      each : (k : ℕ) → k < STATE-PTR → record_cell r k ≡ word x k
      each zero l = sym (low ∙ low-cell)
      each (suc zero) l = sym (high ∙ high-cell)
      each (suc (suc k)) l =
          let c = column-is (suc (suc k)) (omega arith) l in
          let j = (suc (suc k) - 2) / 8 in
          let b = (suc (suc k) - 2) % 8 in
          subst (λ (n : ℕ). record_cell r n ≡ word x n) c.0 (cell-is j b c.1 (omega arith) ∙ sym (bytes j b c.1 (omega arith)))

-- ---- the row that is written
-- an operation with the words of a record but for its segment number
pub record OfRecord (r : List ℕ) (o : KeccakOperation) : Type 0 where
  pub timestamp : o.timestamp ≡ record_word r 0
  pub address : o.state_addr ≡ record_word r 1
  pub input : (l : ℕ) → l < 25 → get_or o.input l 0 ≡ record_word r (2 + l)
  pub output : (l : ℕ) → l < 25 → get_or o.output l 0 ≡ record_word r (27 + l)

module _ (r : List ℕ) (o : KeccakOperation) (h : OfRecord r o) where
  -- byte b of lane l of INPUT and of OUTPUT
  input-cell : (l b : ℕ) → l < 25 → b < 8 → word (core_row o) (10 + (8 * l + b)) ≡ byte_at (record_word r (2 + l)) b
  unfolding core_row core_groups
  input-cell l b g hb = row-at (core_groups o) 2 (8 * l + b) (omega arith) ∙ lane_byte_lem o.input l b hb ∙ ap (λ (n : ℕ). byte_at n b) (h.input l g)

  output-cell : (l b : ℕ) → l < 25 → b < 8 → word (core_row o) (210 + (8 * l + b)) ≡ byte_at (record_word r (27 + l)) b
  unfolding core_row core_groups
  output-cell l b g hb = row-at (core_groups o) 3 (8 * l + b) (omega arith) ∙ lane_byte_lem o.output l b hb ∙ ap (λ (n : ℕ). byte_at n b) (h.output l g)

  core-cell : (j b : ℕ) → j < 51 → b < 8 → word (core_row o) (2 + 8 * j + b) ≡ byte_at (record_word r (1 + j)) b
  core-cell zero b l hb = let e : 2 + 8 * 0 + b ≡ 2 + b = omega arith in ap (word (core_row o)) e ∙ read-addr o b hb ∙ ap (λ (n : ℕ). byte_at n b) h.address
  core-cell (suc j) b l hb =
      by_le 25 j
      (λ g.
      let e : 2 + 8 * suc j + b ≡ 210 + (8 * (j - 25) + b) = omega arith in
      let w : 27 + (j - 25) ≡ 1 + suc j = omega arith in
      ap (word (core_row o)) e ∙ output-cell (j - 25) b (omega arith) hb ∙ ap (λ (k : ℕ). byte_at (record_word r k) b) w)
      (λ g.
      let e : 2 + 8 * suc j + b ≡ 10 + (8 * j + b) = omega arith in
      let w : 2 + j ≡ 1 + suc j = omega arith in
      ap (word (core_row o)) e ∙ input-cell j b g hb ∙ ap (λ (k : ℕ). byte_at (record_word r k) b) w)

  pub record-row : ((k : ℕ) → word r k < 256) → record_cells r ≡ row_cells (core_row o)
  record-row small =
      cells_same r small (core_row o)
      (read-t0 o ∙ ap (λ (n : ℕ). word_at n 0) h.timestamp)
      (read-t1 o ∙ ap (λ (n : ℕ). word_at n 1) h.timestamp)
      core-cell

-- ---- by the numbers that a row makes
-- lane l of a state, by its eight columns
lane-at : (base : ℕ) (x : List ℕ) (l : ℕ) → l < 25 → get_or (state_lanes base x) l 0 ≡ lane_of (λ b. word x (base + 8 * l + b))
unfolding state_lanes
lane-at base x l h =
    let e : l % 5 + 5 * (l / 5) ≡ l = omega arith in
    ap (λ (k : ℕ). get_or (state_lanes base x) k 0) (sym e)
    ∙ lane-grid (λ i j. lane_of (λ b. word x (lane_column base i j b))) (l % 5) (l / 5) (omega arith) (omega arith)
    ∙ lane-same (λ b. word x (lane_column base (l % 5) (l / 5) b)) (λ b. word x (base + 8 * l + b)) (λ b g. ap (word x) (same b))
  where
    same : (b : ℕ) → base + (l % 5 + 5 * (l / 5)) * 8 + b ≡ base + 8 * l + b
    same b = omega arith

module _ (r x : List ℕ) (small : (k : ℕ) → word r k < 256) where
  -- columns that are equal
  module _ (e : record_cells r ≡ row_cells x) where
    cell_at : (k : ℕ) → k < STATE-PTR → record_cell r k ≡ word x k
    unfolding record_cells row_cells
    cell_at k l = sym (get_d-tab STATE-PTR (record_cell r) k 0 l) ∙ ap (λ (t : List ℕ). word t k) e ∙ get_d-tab STATE-PTR (word x) k 0 l

    lane_made : (j : ℕ) → j < 51 → lane_of (λ b. word x (2 + 8 * j + b)) ≡ record_word r (1 + j)
    lane_made j l =
        lane-same (λ b. word x (2 + 8 * j + b)) (λ b. word r (2 + 8 * (1 + j) + b))
        (λ b g.
        let q : 8 + (2 + 8 * j + b) ≡ 2 + 8 * (1 + j) + b = omega arith in
        sym (cell_at (2 + 8 * j + b) (omega arith)) ∙ byte-cell r (2 + 8 * j + b) (omega arith) ∙ ap (word r) q)
        ∙ sym (word_of r (1 + j) (omega arith))

    state-made : (base w : ℕ) → (j : ℕ) → base ≡ 2 + 8 * j → w ≡ 1 + j → j + 25 ≤ 51 → state_lanes base x ≡ tab 25 (λ l. record_word r (w + l))
    state-made base w j eb ew h =
        list-tab (state_lanes base x) 25 (length-state base x)
        ∙ tab-same 25 (λ l. get_or (state_lanes base x) l 0) (λ l. record_word r (w + l))
        (λ l g.
        let q : 1 + (j + l) ≡ w + l = omega arith in
        lane-at base x l g
        ∙ lane-same (λ b. word x (base + 8 * l + b)) (λ b. word x (2 + 8 * (j + l) + b)) (λ b m. ap (word x) (same l b))
        ∙ lane_made (j + l) (omega arith)
        ∙ ap (record_word r) q)
      where
        same : (l b : ℕ) → base + 8 * l + b ≡ 2 + 8 * (j + l) + b
        same l b = omega arith

    matched : Matches r x
    matched =
        record {
          short = (
            subst (λ (n : ℕ). n < 2 ^ 32) (cell_at 0 (omega arith)) (stamp-short r small 0 (omega arith)),
            subst (λ (n : ℕ). n < 2 ^ 32) (cell_at 1 (omega arith)) (stamp-short r small 1 (omega arith)),
          );
          timestamp = sym (stamp-is r small ∙ (λ i. cell_at 0 (omega arith) i + 2 ^ 32 * cell_at 1 (omega arith) i));
          bytes = λ k l g. subst (λ (n : ℕ). n < 256) (sym (byte-cell r k l) ∙ cell_at k g) (small (8 + k));
          address = lane_made 0 (omega arith);
          input = state-made INPUT-STATE 2 1 refl refl (omega arith);
          output = state-made OUTPUT-STATE 27 26 refl refl (omega arith);
        }

  -- numbers that are equal
  module _ (m : Matches r x) where
    lane_in : (base w l b : ℕ) → state_lanes base x ≡ tab 25 (λ k. record_word r (w + k)) → 2 ≤ base → base + 200 ≤ STATE-PTR → l < 25 → b < 8 →
        word x (base + 8 * l + b) ≡ byte_at (record_word r (w + l)) b
    lane_in base w l b e lo hi g hb =
        sym (lane-byte_at (λ c. word x (base + 8 * l + c)) (λ c h. m.bytes (base + 8 * l + c) (omega arith) (omega arith)) b hb)
        ∙ ap (λ (n : ℕ). byte_at n b)
        (sym (lane-at base x l g) ∙ ap (λ (s : List ℕ). get_or s l 0) e ∙ get_d-tab 25 (λ k. record_word r (w + k)) l 0 g)

    byte-in : (j b : ℕ) → j < 51 → b < 8 → word x (2 + 8 * j + b) ≡ byte_at (record_word r (1 + j)) b
    byte-in zero b l hb =
        let e : 2 + 8 * 0 + b ≡ 2 + b = omega arith in
        ap (word x) e
        ∙ sym (lane-byte_at (λ c. word x (2 + c)) (λ c h. m.bytes (2 + c) (omega arith) (omega arith)) b hb)
        ∙ ap (λ (n : ℕ). byte_at n b) m.address
    byte-in (suc j) b l hb =
        by_le 25 j
        (λ g.
        let e : 2 + 8 * suc j + b ≡ OUTPUT-STATE + 8 * (j - 25) + b = omega arith in
        let w : 27 + (j - 25) ≡ 1 + suc j = omega arith in
        ap (word x) e ∙ lane_in OUTPUT-STATE 27 (j - 25) b m.output (omega arith) (omega arith) (omega arith) hb ∙ ap (λ (k : ℕ). byte_at (record_word r k) b) w)
        (λ g.
        let e : 2 + 8 * suc j + b ≡ INPUT-STATE + 8 * j + b = omega arith in
        let w : 2 + j ≡ 1 + suc j = omega arith in
        ap (word x) e ∙ lane_in INPUT-STATE 2 j b m.input (omega arith) (omega arith) g hb ∙ ap (λ (k : ℕ). byte_at (record_word r k) b) w)

    matched-cells : record_cells r ≡ row_cells x
    matched-cells =
        cells_same r small x
        (sym (ap (λ (n : ℕ). word_at n 0) (sym m.timestamp) ∙ low_word (word x 0) (word x 1) m.short.0))
        (sym (ap (λ (n : ℕ). word_at n 1) (sym m.timestamp) ∙ high_word (word x 0) (word x 1) m.short.0))
        byte-in

  pub matches-exactly : (record_cells r ≡ row_cells x) ↔ Matches r x
  matches-exactly = (matched, matched-cells)

  -- a word that is too large
  pub wide-unmatched : (2 ^ 32 ≤ word x TIMESTAMP-0) ⊎ (2 ^ 32 ≤ word x TIMESTAMP-1) → record_cells r ≡ row_cells x → ⊥
  wide-unmatched w e = let m = matched e in ⊎_elim (λ h. omega (arith, m.short.0)) (λ h. omega (arith, m.short.1)) w

  pub large-unmatched : (k : ℕ) → ADDR ≤ k → k < STATE-PTR → 256 ≤ word x k → record_cells r ≡ row_cells x → ⊥
  large-unmatched k l g h e = omega (arith, (matched e).bytes k l g)

-- ---- what of a record is compared: the 416 bytes behind its mark
pub behind-mark : (r q : List ℕ) → ((k : ℕ) → k < 416 → word r (2 + k) ≡ word q (2 + k)) → record_cells r ≡ record_cells q
unfolding record_cells
behind-mark r q h = tab-same STATE-PTR (record_cell r) (record_cell q) (λ k l. by_le 2 k (λ g. later k l g) (λ g. stamp k g))
  where
    stamp : (k : ℕ) → k < 2 → record_cell r k ≡ record_cell q k
    stamp k l =
        stamp-cell r k l
        ∙ pack-by 4 (2 + 4 * k) (2 + 4 * k) (word r) (word q)
        (λ b g.
        let e : 2 + (4 * k + b) ≡ 2 + 4 * k + b = omega arith in
        subst (λ (n : ℕ). word r n ≡ word q n) e (h (4 * k + b) (omega arith)))
        ∙ sym (stamp-cell q k l)

    later : (k : ℕ) → k < STATE-PTR → 2 ≤ k → record_cell r k ≡ record_cell q k
    later k l g =
        let e : 2 + (6 + k) ≡ 8 + k = omega arith in
        byte-cell r k g ∙ subst (λ (n : ℕ). word r n ≡ word q n) e (h (6 + k) (omega arith)) ∙ sym (byte-cell q k g)
