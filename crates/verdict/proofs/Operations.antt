-- The operations that are read from the active rows of a core table: what they hold, that they make these rows again, and that no call
-- refuses them.
--     op-is        operation i is active row i, read as an operation
--     row-again    the core row that is written for what is read from a row is that row
--     none-refused, lendable, rows-again   the claims of demand 3 on the operations
use mathlib.Core.Path.{◌≡◌, refl, sym, ap, subst, ◌∙◌}
use mathlib.Core.List.{List, [], ◌∷◌, ◌++◌}
use Prim.Native.Nat.{ℕ, zero, suc, ◌+◌, ◌-◌, ◌*◌, ◌/◌, ◌%◌, ◌^◌, ◌≤◌, ◌<◌}
use native.Mathlib.Omega.{arith}
use lib.ListN.{length, get_or, get_or-append}
use lib.Seq.{ext_get_or, get_or-append-add}
use Rattle.lists.specs.Tab.{word, tab}
use Rattle.lists.specs.First.{count_below}
use Rattle.lists.proofs.Laws.{tab-same, list-tab, table_at, length-table, length-row_at, holds_row}
use Rattle.lists.proofs.Then.{by_le}
use Rattle.lists.proofs.Count.{count-before}
use Rattle.bits.specs.Bits.{byte_at, lane_byte, word_at, limb_at}
use Rattle.bits.proofs.Bytes.{lane-byte_at}
use Rattle.answer.specs.Limits.{MAX-OPS}
use Rattle.answer.specs.Refusal.{accepted}
use Rattle.fips202.specs.Lanes.{Lanes}
use Rattle.keccak.specs.Columns.{TIMESTAMP-0, TIMESTAMP-1, INPUT-STATE, OUTPUT-STATE, MU, NUM-COLUMNS, addr, state-ptr, lane_column}
use Rattle.keccak.specs.Row.{pointer_limb, core_groups, core_row, OP-WORDS, SEGMENT-WORD, op_at, state_lanes, core_address}
use Rattle.keccak.specs.Passes.{CoreCells}
use Rattle.keccak.specs.Refusals.{op_count, operations_refusal}
use Rattle.keccak.specs.declared.KeccakOperation.{KeccakOperation}
use Rattle.keccak.proofs.State.{length-state, state-lanes, state-byte}
use Rattle.keccak.proofs.Cells.{length-core}
use Rattle.keccak.proofs.Refusals.{accepted-is}
use Rattle.bus.proofs.Listed.{index-mem, by-tab, selected-length, selected-at}
use Rattle.verdict.specs.Kind.{Layout, rows, row, is_active, active, actives, active_rows, Active}
use Rattle.verdict.specs.CoreAndRound.{core_layout}
use Rattle.verdict.specs.Claims.{EachActive, ShortTimestamp, States, op_words, operations}
use Rattle.verdict.proofs.TwoTables.{listed-mem, is-on}

-- ---- one row
-- a core row read as an operation
abbrev pub read_op : List ℕ → KeccakOperation
read_op x =
    record {
      timestamp = word x TIMESTAMP-0 + 2 ^ 32 * word x TIMESTAMP-1;
      state_addr = core_address x;
      input = state_lanes INPUT-STATE x;
      output = state_lanes OUTPUT-STATE x;
      segment = 0;
    }

pub low_word : (a b : ℕ) → a < 2 ^ 32 → word_at (a + 2 ^ 32 * b) 0 ≡ a
unfolding word_at
low_word a b h = omega arith

pub high_word : (a b : ℕ) → a < 2 ^ 32 → word_at (a + 2 ^ 32 * b) 1 ≡ b
unfolding word_at
high_word a b h = omega arith

-- the three limbs of a number that is made of them
limb-again : (f : ℕ → ℕ) → f 0 < 65536 → f 1 < 65536 → (j : ℕ) → j < 3 → limb_at (f 0 + 2 ^ 16 * f 1 + 2 ^ 32 * f 2) j ≡ f j
unfolding limb_at
limb-again f h0 h1 zero l = omega arith
limb-again f h0 h1 (suc zero) l = omega arith
limb-again f h0 h1 (suc (suc zero)) l = omega arith
limb-again f h0 h1 (suc (suc (suc j))) l = absurd (omega arith)

module _ (x : List ℕ) where
  -- the bytes of a state, by lane and by column
  module _ (base : ℕ) (bytes : (k : ℕ) → k < 200 → word x (base + k) < 256) where
    byte_small : (i j b : ℕ) → i < 5 → j < 5 → b < 8 → word x (lane_column base i j b) < 256
    byte_small i j b hi hj hb =
        let e : base + ((i + 5 * j) * 8 + b) ≡ lane_column base i j b = omega arith in
        subst (λ (k : ℕ). word x k < 256) e (bytes ((i + 5 * j) * 8 + b) (omega arith))

    lanes_small : Lanes (state_lanes base x)
    lanes_small = state-lanes base x byte_small

    state-again : (k : ℕ) → k < 200 → word x (base + k) ≡ lane_byte (state_lanes base x) k
    unfolding lane_byte
    state-again k l =
        let i : k / 8 % 5 + 5 * (k / 40) ≡ k / 8 = omega arith in
        let e : lane_column base (k / 8 % 5) (k / 40) (k % 8) ≡ base + k = omega arith in
        sym (ap (λ (n : ℕ). byte_at (get_or (state_lanes base x) n 0) (k % 8)) (sym i)
        ∙ state-byte base x byte_small (k / 8 % 5) (k / 40) (k % 8) (omega arith) (omega arith) (omega arith) ∙ ap (word x) e)

  module _ (stamp : ShortTimestamp x) (cells : CoreCells x) (states : States x) where
    stamp-again : (k : ℕ) → k < 2 → word x (0 + k) ≡ word_at (read_op x).timestamp k
    stamp-again zero l = sym (low_word (word x TIMESTAMP-0) (word x TIMESTAMP-1) stamp.0)
    stamp-again (suc zero) l = sym (high_word (word x TIMESTAMP-0) (word x TIMESTAMP-1) stamp.0)
    stamp-again (suc (suc k)) l = absurd (omega arith)

    address-again : (k : ℕ) → k < 8 → word x (addr k) ≡ byte_at (core_address x) k
    address-again k l = sym (lane-byte_at (λ b. word x (addr b)) cells.addr-bytes k l)

    pointer-again : (k : ℕ) → k < 75 → word x (410 + k) ≡ pointer_limb (core_address x) k
    unfolding pointer_limb
    pointer-again k l =
        let i : k / 3 < 25 = omega arith in
        let e : state-ptr (k / 3) (k % 3) ≡ 410 + k = omega arith in
        sym (ap (λ (n : ℕ). limb_at n (k % 3)) (sym (cells.pointers (k / 3) i))
        ∙ limb-again (λ j. word x (state-ptr (k / 3) j)) (cells.limb-0 (k / 3) i) (cells.limb-1 (k / 3) i) (k % 3) (omega arith) ∙ ap (word x) e)

    pub row-again : length x ≡ NUM-COLUMNS → word x MU ≡ 1 → core_row (read_op x) ≡ x
    unfolding core_row core_groups
    row-again size on =
        ext_get_or 0 (core_row (read_op x)) x (length-core (read_op x) ∙ sym size) (λ k l.
        let e : 0 + k ≡ k = omega arith in
        let b : k < 486 = omega (arith, length-core (read_op x)) in
        sym (ap (word x) (sym e)
        ∙ holds_row x 0 (core_groups (read_op x))
        (stamp-again, (address-again, (state-again INPUT-STATE states.input-bytes, (state-again OUTPUT-STATE states.output-bytes, (pointer-again, (mu-again, tt)))))) k b))
      where
        mu-again : (k : ℕ) → k < 1 → word x (485 + k) ≡ 1
        mu-again k l = let e : 485 + k ≡ MU = omega arith in ap (word x) e ∙ on

  -- its words in a list of operations
  abbrev after-input : List ℕ
  after-input = state_lanes OUTPUT-STATE x ++ (0 ∷ [])

  past_two : (k : ℕ) → word (op_words x) (2 + k) ≡ word (state_lanes INPUT-STATE x ++ after-input) k
  unfolding op_words
  past_two k = let e : 2 + k ≡ suc (suc k) = omega arith in ap (word (op_words x)) e

  past-input : (k : ℕ) → word (op_words x) (27 + k) ≡ word after-input k
  past-input k =
      let e : 27 + k ≡ 2 + (length (state_lanes INPUT-STATE x) + k) = omega (arith, length-state INPUT-STATE x) in
      ap (word (op_words x)) e ∙ past_two (length (state_lanes INPUT-STATE x) + k) ∙ get_or-append-add (state_lanes INPUT-STATE x) after-input k 0

  op-stamp : word (op_words x) 0 ≡ (read_op x).timestamp
  unfolding op_words
  op-stamp = refl

  op-address : word (op_words x) 1 ≡ core_address x
  unfolding op_words
  op-address = refl

  op-input : (k : ℕ) → k < 25 → word (op_words x) (2 + k) ≡ word (state_lanes INPUT-STATE x) k
  op-input k l = past_two k ∙ get_or-append (state_lanes INPUT-STATE x) after-input 0 k (omega (arith, length-state INPUT-STATE x))

  op-output : (k : ℕ) → k < 25 → word (op_words x) (27 + k) ≡ word (state_lanes OUTPUT-STATE x) k
  op-output k l = past-input k ∙ get_or-append (state_lanes OUTPUT-STATE x) (0 ∷ []) 0 k (omega (arith, length-state OUTPUT-STATE x))

  op-segment : word (op_words x) SEGMENT-WORD ≡ 0
  op-segment =
      let e : 25 ≡ length (state_lanes OUTPUT-STATE x) + 0 = omega (arith, length-state OUTPUT-STATE x) in
      past-input 25 ∙ ap (word after-input) e ∙ get_or-append-add (state_lanes OUTPUT-STATE x) (0 ∷ []) 0 0

  op-word : ShortTimestamp x → core_address x < 2 ^ 64 → States x → (k : ℕ) → k < OP-WORDS → word (op_words x) k < 2 ^ 64
  op-word stamp low states zero l = let a = stamp.0 in let b = stamp.1 in omega (arith, op-stamp)
  op-word stamp low states (suc zero) l = omega (arith, op-address)
  op-word stamp low states (suc (suc k)) l =
      by_le 25 k
      (λ h. by_le 50 k
      (λ g. let q : SEGMENT-WORD ≡ suc (suc k) = omega arith in subst (λ (m : ℕ). word (op_words x) m < 2 ^ 64) q (omega (arith, op-segment)))
      (λ g. let q : 27 + (k - 25) ≡ suc (suc k) = omega arith in
      let b : k - 25 < 25 = omega arith in
      subst (λ (m : ℕ). word (op_words x) m < 2 ^ 64) q (subst (λ (m : ℕ). m < 2 ^ 64) (sym (op-output (k - 25) b)) (lanes_small OUTPUT-STATE states.output-bytes (k - 25) b))))
      (λ h. let q : 2 + k ≡ suc (suc k) = omega arith in
      subst (λ (m : ℕ). word (op_words x) m < 2 ^ 64) q (subst (λ (m : ℕ). m < 2 ^ 64) (sym (op-input k h)) (lanes_small INPUT-STATE states.input-bytes k h)))

-- ---- the table
pub actives-length : (A : Layout) (ws : List ℕ) → length (active_rows A ws) ≡ actives A ws
actives-length A ws = selected-length (is_active A) _ ∙ by-tab (is_active A) (rows A ws) (row A ws)

module _ (core : List ℕ) where
  abbrev rows_of : List (List ℕ)
  rows_of = active_rows core_layout core

  ops-length : length (operations core) ≡ length rows_of * OP-WORDS
  unfolding operations
  ops-length = length-table (length rows_of) OP-WORDS (λ i. op_words (get_or rows_of i []))

  pub ops-count : op_count (operations core) ≡ length rows_of
  ops-count = omega (arith, ops-length)

  ops-at : (i k : ℕ) → i < length rows_of → k < OP-WORDS → word (operations core) (i * OP-WORDS + k) ≡ word (op_words (get_or rows_of i [])) k
  unfolding operations
  ops-at i k l g = table_at (length rows_of) OP-WORDS (λ i. op_words (get_or rows_of i [])) i k l g

  -- row i of the active rows is an active row of the table
  pub row_of : (i : ℕ) → i < length rows_of → (r : ℕ) × Active core_layout core r × (get_or rows_of i [] ≡ row core_layout core r)
  row_of i l = listed-mem core_layout core (get_or rows_of i []) (index-mem [] rows_of i l)

  pub of-active : (P : List ℕ → Type 0) → EachActive P core → (i : ℕ) → i < length rows_of → P (get_or rows_of i [])
  of-active P h i l = let f = row_of i l in subst P (sym f.2) (h f.0 f.1)

  module _ (i : ℕ) (l : i < length rows_of) where
    abbrev x : List ℕ
    x = get_or rows_of i []

    stamp-at : (op_at (operations core) i).timestamp ≡ (read_op x).timestamp
    unfolding op_at
    stamp-at = let e : OP-WORDS * i ≡ i * OP-WORDS + 0 = omega arith in ap (word (operations core)) e ∙ ops-at i 0 l (omega arith) ∙ op-stamp x

    address-at : (op_at (operations core) i).state_addr ≡ core_address x
    unfolding op_at
    address-at = let e : OP-WORDS * i + 1 ≡ i * OP-WORDS + 1 = omega arith in ap (word (operations core)) e ∙ ops-at i 1 l (omega arith) ∙ op-address x

    segment-at : (op_at (operations core) i).segment ≡ 0
    unfolding op_at
    segment-at =
        let e : OP-WORDS * i + SEGMENT-WORD ≡ i * OP-WORDS + SEGMENT-WORD = omega arith in
        ap (word (operations core)) e ∙ ops-at i SEGMENT-WORD l (omega arith) ∙ op-segment x

    -- 25 lanes, of which the first is word `from` of the operation
    lanes_at : (base from : ℕ) → from ≤ 27 → ((k : ℕ) → k < 25 → word (op_words x) (from + k) ≡ word (state_lanes base x) k) →
        tab 25 (λ k. word (operations core) (OP-WORDS * i + from + k)) ≡ state_lanes base x
    lanes_at base from fits h =
        tab-same 25 (λ k. word (operations core) (OP-WORDS * i + from + k)) (λ k. word (state_lanes base x) k) (λ k g.
        let e : OP-WORDS * i + from + k ≡ i * OP-WORDS + (from + k) = omega arith in
        ap (word (operations core)) e ∙ ops-at i (from + k) l (omega arith) ∙ h k g)
        ∙ sym (list-tab (state_lanes base x) 25 (length-state base x))

    input-at : (op_at (operations core) i).input ≡ state_lanes INPUT-STATE x
    unfolding op_at
    input-at = lanes_at INPUT-STATE 2 (omega arith) (op-input x)

    output-at : (op_at (operations core) i).output ≡ state_lanes OUTPUT-STATE x
    unfolding op_at
    output-at = lanes_at OUTPUT-STATE 27 (omega arith) (op-output x)

    pub op-is : op_at (operations core) i ≡ read_op x
    op-is = λ p. record { timestamp = stamp-at p; state_addr = address-at p; input = input-at p; output = output-at p; segment = segment-at p }

  -- ---- what demand 3 claims of them
  module _ (few : actives core_layout core ≤ MAX-OPS) (stamps : EachActive ShortTimestamp core) (cells : EachActive CoreCells core) where
    pub none-refused : (room needed : ℕ) → needed ≤ room → operations_refusal room needed (operations core) ≡ accepted
    none-refused room needed fits =
        (accepted-is room needed (operations core)).1
        (record {
          few = omega (arith, ops-count, actives-length core_layout core);
          whole = omega (arith, ops-length);
          long = fits;
          low = λ i l.
              let h : i < length rows_of = omega (arith, ops-count) in
              omega (arith, address-at i h, (of-active CoreCells cells i h).below);
          aligned = λ i l.
              let h : i < length rows_of = omega (arith, ops-count) in
              ap (λ (a : ℕ). a % 8) (address-at i h) ∙ (of-active CoreCells cells i h).aligned;
          segments = λ i l. let h : i < length rows_of = omega (arith, ops-count) in omega (arith, segment-at i h);
        })

    pub lendable : EachActive States core → (k : ℕ) → k < length (operations core) → word (operations core) k < 2 ^ 64
    lendable states k l =
        let i : k / OP-WORDS < length rows_of = omega (arith, ops-length) in
        let g : k % OP-WORDS < OP-WORDS = omega arith in
        let e : k / OP-WORDS * OP-WORDS + k % OP-WORDS ≡ k = omega arith in
        subst (λ (m : ℕ). word (operations core) m < 2 ^ 64) e
        (subst (λ (m : ℕ). m < 2 ^ 64) (sym (ops-at (k / OP-WORDS) (k % OP-WORDS) i g))
        (op-word (get_or rows_of (k / OP-WORDS) []) (of-active ShortTimestamp stamps (k / OP-WORDS) i) (omega (arith, (of-active CoreCells cells (k / OP-WORDS) i).below))
        (of-active States states (k / OP-WORDS) i) (k % OP-WORDS) g))

    pub rows-again : EachActive States core → (r : ℕ) → Active core_layout core r →
        core_row (op_at (operations core) (count_below (active core_layout core) r)) ≡ row core_layout core r
    rows-again states r a =
        let i : ℕ = count_below (active core_layout core) r in
        let here : get_or rows_of i [] ≡ row core_layout core r =
        selected-at (is_active core_layout) (row core_layout core) [] (rows core_layout core) r a.there (is-on core_layout (row core_layout core r) a.on) in
        let below : i < length rows_of =
        omega (arith, actives-length core_layout core, count-before (active core_layout core) (rows core_layout core) r a.there (is-on core_layout (row core_layout core r) a.on)) in
        ap core_row (op-is i below ∙ ap read_op here)
        ∙ row-again (row core_layout core r) (stamps r a) (cells r a) (states r a) (length-row_at NUM-COLUMNS core r) a.on
