-- What the answer says of a file and a core table.
--     same-exactly      same: records and active rows can be matched one to one, partners with the same columns
--     same-equally      every list of columns stands equally often among the records and among the active rows
--     same-matches      records and active rows can be matched one to one, each with one that it matches
--     one_by_one        the answer is what giving out partners one by one gives
--     written_same      a file and the core table that is written of its operations are the same
--     left-same         so are the file and the core table that are written of one list
--     segments-ignored  marks and segment numbers make no difference
--     pointers-ignored  nor do the pointers of the rows
use mathlib.Core.Path.{◌≡◌, refl, sym, ap, subst, ◌∙◌}
use mathlib.Core.Bool.{Bool, true, false}
use mathlib.Core.List.{List, [], ◌∷◌, ◌++◌}
use mathlib.Core.Logic.{◌↔◌}
use mathlib.Core.Option.{Option, none, some}
use Prim.Native.Nat.{ℕ, zero, suc, ◌+◌, ◌*◌, ◌/◌, ◌%◌, ◌^◌, ◌≤◌, ◌<◌}
use native.Mathlib.Numerals.{add-one}
use native.Mathlib.Omega.{arith}
use borrow.Author.Tests.{eqb-true}
use lib.Dec.{eqb}
use lib.ListN.{length, take, drop, get_or, get_or-eq_default}
use lib.Seq.{get_or-drop}
use Rattle.lists.specs.Tab.{tab, tab_from, word}
use Rattle.lists.specs.First.{first_at}
use Rattle.lists.specs.OneToOne.{OneToOne}
use Rattle.lists.proofs.Then.{by_le}
use Rattle.lists.proofs.First.{at_same}
use Rattle.lists.proofs.Laws.{length-tab, get_d-tab, tab-same}
use Rattle.lists.proofs.OneToOne.{matched-by}
use Rattle.bits.specs.Bits.{byte_at}
use Rattle.bits.proofs.Bytes.{byte-lt}
use Rattle.answer.specs.Refusal.{accepted}
use Rattle.answer.proofs.Laws.{new-words}
use Rattle.keccak.specs.Columns.{STATE-PTR, MU}
use Rattle.keccak.specs.Height.{height}
use Rattle.keccak.specs.Refusals.{core_trace_refusal}
use Rattle.keccak.specs.Calls.{core_trace_after}
use Rattle.keccak.proofs.Calls.{table-left}
use Rattle.keccak.proofs.Refusals.{accepted-is}
use Rattle.keccak.specs.Row.{OP-WORDS, LAST-SEGMENT, op_at, core_table}
use Rattle.keccak.specs.Refusals.{op_count, segment_at}
use Rattle.keccak.specs.declared.KeccakOperation.{KeccakOperation}
use Rattle.verdict.specs.Kind.{Layout, rows, row, is_active, active, Active}
use Rattle.verdict.specs.CoreAndRound.{core_layout}
use Rattle.verdict.proofs.TwoTables.{is-on}
use Rattle.verdict.proofs.Honest.{row_made, made-active, active-made}
use Rattle.op_file.specs.File.{records_of, bytes_of, record_word, records_words, file_words, size_of, start_at}
use Rattle.op_file.proofs.Counted.{word-is}
use Rattle.op_file.proofs.SegmentNumbers.{part_small}
use Rattle.op_file.proofs.Starts.{record-there}
use Rattle.op_list.specs.Record.{word_byte, is_numbered, mark_of, body_size, record_bytes, words_from}
use Rattle.op_list.specs.Files.{records_for, file_bytes, bytes_for, write_refusal, write_after}
use Rattle.op_list.proofs.Files.{list_length, records-more, file-length}
use Rattle.op_list.proofs.RoundTrip.{list-again}
use Rattle.partners.specs.Partners.{copies_in, alone, first_alone, unpartnered, left}
use Rattle.partners.proofs.Partners.{alone-is, left_is, none-alone, none-alone-matched, alone-of-same, alone-in-same}
use Rattle.same_operations.specs.Same.{record_cells, row_cells, Matches, file_run, core_run, row_left, record_left, agreement_of}
use Rattle.same_operations.specs.declared.Agreement.TheVariants.{Same}
use Rattle.same_operations.proofs.Cells.{OfRecord, record-row, matches-exactly, behind-mark}

-- record i of a file
abbrev pub record_at : List ℕ → ℕ → List ℕ
record_at file i = get_or (records_of file) i []

-- there is a record i
abbrev pub InFile : List ℕ → ℕ → Type 0
InFile file i = i < length (records_of file)

-- ---- same
none_left : (a b : Option ℕ) → (record_left a (row_left b) ≡ Same) ↔ ((a ≡ none) × (b ≡ none))
none_left none none = (λ e. (refl, refl), λ h. refl)
none_left none (some r) = (λ e. (refl, cc), λ h. cc h.1)
none_left (some i) b = (λ e. (cc, cc), λ h. cc h.0)

active_on : (A : Layout) (ws : List ℕ) (r : ℕ) → active A ws r ≡ true → word (row A ws r) A.mu ≡ 1
unfolding is_active
active_on A ws r e = eqb-true _ _ e

module _ (core file : List ℕ) where
  pub same-exactly : (agreement_of core file ≡ Same)
      ↔ OneToOne (InFile file) (Active core_layout core) (λ i r. record_cells (record_at file i) ≡ row_cells (row core_layout core r))
  unfolding agreement_of file_run core_run
  same-exactly =
      let n = none_left (first_alone (file_run file) (core_run core)) (first_alone (core_run core) (file_run file)) in
      let m = none-alone-matched (file_run file) (core_run core) in (
        (λ e. matched-by (λ i l. (l, refl)) (λ i c. c.0) there back (λ i r l q. q) (m.0 (n.0 e))),
        λ h. n.1 (m.1 (matched-by (λ i c. c.0) (λ i l. (l, refl)) back there (λ i r l q. q) h)),
      )
    where
      there : (r : ℕ) → Active core_layout core r → (r < rows core_layout core) × (active core_layout core r ≡ true)
      there r a = (a.there, is-on core_layout (row core_layout core r) a.on)

      back : (r : ℕ) → (r < rows core_layout core) × (active core_layout core r ≡ true) → Active core_layout core r
      back r c = record { there = c.0; on = active_on core_layout core r c.1 }

  pub same-equally : (agreement_of core file ≡ Same) ↔ ((x : List ℕ) → copies_in (file_run file) x ≡ copies_in (core_run core) x)
  unfolding agreement_of
  same-equally =
      let n = none_left (first_alone (file_run file) (core_run core)) (first_alone (core_run core) (file_run file)) in
      let m = none-alone (file_run file) (core_run core) in ((λ e. m.0 (n.0 e)), λ h. n.1 (m.1 h))

  -- ---- one by one
  pub one_by_one : agreement_of core file
      ≡ record_left (first_at (unpartnered (file_run file) (core_run core)) (length (records_of file)))
      (row_left (first_at (left (file_run file) (core_run core)) (rows core_layout core)))
  unfolding agreement_of file_run core_run
  one_by_one =
      let F = file_run file in
      let C = core_run core in
      (λ i. record_left (at_same (alone F C) (unpartnered F C) (length (records_of file)) (λ k l. alone-is F C k) i)
      (row_left (at_same (alone C F) (left F C) (rows core_layout core) (left_is F C) i)))

-- ---- a file of bytes
part_bytes : (n : ℕ) (s : List ℕ) → ((k : ℕ) → word s k < 256) → (k : ℕ) → word (drop n s) k < 256
part_bytes n s h k = subst (λ (v : ℕ). v < 256) (sym (get_or-drop n s k 0)) (h (n + k))

module _ (file : List ℕ) (small : (k : ℕ) → word file k < 256) where
  record-bytes : (i : ℕ) → InFile file i → (k : ℕ) → word (record_at file i) k < 256
  record-bytes i l k =
      let t = drop (start_at (records_of file) i) file in
      subst (λ (r : List ℕ). word r k < 256) (sym (record-there file i l)) (part_small (size_of t) t (part_bytes (start_at (records_of file) i) file small) k)

  pub same-matches : (core : List ℕ) → (agreement_of core file ≡ Same)
      ↔ OneToOne (InFile file) (Active core_layout core) (λ i r. Matches (record_at file i) (row core_layout core r))
  same-matches core =
      let e = same-exactly core file in (
        (λ a. matched-by (λ i l. l) (λ i l. l) (λ r c. c) (λ r c. c) (λ i r l q. (matches-exactly _ _ (record-bytes i l)).0 q) (e.0 a)),
        λ h. e.1 (matched-by (λ i l. l) (λ i l. l) (λ r c. c) (λ r c. c) (λ i r l q. (matches-exactly _ _ (record-bytes i l)).1 q) h),
      )

  -- ---- the core table that is written of its operations
  word_at : (i j k : ℕ) → InFile file i → j < OP-WORDS → k ≡ i * OP-WORDS + j → word (file_words file) k ≡ record_word (record_at file i) j
  unfolding file_words
  word_at i j k l h e = ap (word (records_words (records_of file))) e ∙ word-is (records_of file) i j l h

  of-record : (i : ℕ) → InFile file i → OfRecord (record_at file i) (op_at (file_words file) i)
  unfolding op_at
  of-record i l =
      record {
        timestamp = word_at i 0 (OP-WORDS * i) l (omega arith) (omega arith);
        address = word_at i 1 (OP-WORDS * i + 1) l (omega arith) (omega arith);
        input = λ k h. get_d-tab 25 (λ k. word (file_words file) (OP-WORDS * i + 2 + k)) k 0 h ∙ word_at i (2 + k) (OP-WORDS * i + 2 + k) l (omega arith) (omega arith);
        output = λ k h. get_d-tab 25 (λ k. word (file_words file) (OP-WORDS * i + 27 + k)) k 0 h ∙ word_at i (27 + k) (OP-WORDS * i + 27 + k) l (omega arith) (omega arith);
      }

  pub written_same : (floor : ℕ) → agreement_of (core_table floor (length (records_of file)) (op_at (file_words file))) file ≡ Same
  written_same floor =
      (same-exactly (core_table floor n op) file).1
      (record {
        to = λ i. i;
        from = λ r. r;
        to_in = made-active floor n op;
        from_in = active-made floor n op;
        from-to = λ i l. refl;
        to-from = λ r a. refl;
        alike = λ i l. record-row (record_at file i) (op i) (of-record i l) (record-bytes i l) ∙ ap row_cells (sym (row_made floor n op i l));
      })
    where
      n : ℕ
      n = length (records_of file)

      op : ℕ → KeccakOperation
      op = op_at (file_words file)

-- ---- the file and the core table that are written of one list
bytes-joined : (a b : List ℕ) → ((k : ℕ) → word a k < 256) → ((k : ℕ) → word b k < 256) → (k : ℕ) → word (a ++ b) k < 256
bytes-joined [] b ha hb k = hb k
bytes-joined (x ∷ a) b ha hb zero = ha 0
bytes-joined (x ∷ a) b ha hb (suc k) = bytes-joined a b (λ j. ha (suc j)) hb k

tab-bytes : (n : ℕ) (f : ℕ → ℕ) → ((k : ℕ) → f k < 256) → (k : ℕ) → word (tab n f) k < 256
tab-bytes n f h k =
    by_le n k
    (λ l. subst (λ (v : ℕ). v < 256) (sym (get_or-eq_default (tab n f) 0 (past l))) (omega arith))
    (λ l. subst (λ (v : ℕ). v < 256) (sym (get_d-tab n f k 0 l)) (h k))
  where
    past : n ≤ k → length (tab n f) ≤ k
    past l = omega (arith, length-tab n f)

record-small : (f : ℕ → ℕ) (k : ℕ) → word (record_bytes f) k < 256
unfolding record_bytes word_byte
record-small f zero = omega arith
record-small f (suc zero) = go (is_numbered f)
  where
    go : (b : Bool) → mark_of b < 256
    go true = omega arith
    go false = omega arith
record-small f (suc (suc k)) = tab-bytes (body_size f) (λ j. byte_at (f (j / 8)) (j % 8)) (λ j. byte-lt (f (j / 8)) (j % 8)) k

records-small : (ops : List ℕ) (n : ℕ) (k : ℕ) → word (bytes_of (records_for ops n)) k < 256
unfolding tab tab_from bytes_of
records-small ops zero k = omega arith
records-small ops (suc n) k =
    subst (λ (s : List ℕ). word s k < 256) (records-more ops n ∙ ap (λ (m : ℕ). bytes_of (records_for ops m)) (add-one n))
    (bytes-joined (bytes_of (records_for ops n)) (record_bytes (words_from ops (n * OP-WORDS))) (records-small ops n) (record-small (words_from ops (n * OP-WORDS))) k)

module _ (ops : List ℕ) (small : (k : ℕ) → word ops k < 2 ^ 64) where
  listed_same : length ops % OP-WORDS ≡ 0 → ((i : ℕ) → i < op_count ops → segment_at ops i ≤ LAST-SEGMENT) → (floor : ℕ) →
      agreement_of (core_table floor (op_count ops) (op_at ops)) (file_bytes ops) ≡ Same
  unfolding file_bytes
  listed_same whole narrow floor =
      let e = list-again ops whole small narrow in
      let n : length (records_of (file_bytes ops)) ≡ op_count ops = omega (arith, list_length (file_bytes ops), ap length e) in
      (λ j. agreement_of (core_table floor (sym n j) (op_at (sym e j))) (file_bytes ops)) ∙ written_same (file_bytes ops) (records-small ops (op_count ops)) floor

  -- what both calls leave, where both accept the list
  pub left-same : (floor : ℕ) (table file : List ℕ) → core_trace_refusal floor (length table) ops ≡ accepted → write_refusal (length file) ops ≡ accepted →
      agreement_of (take (height floor (op_count ops) * 486) (core_trace_after floor ops table)) (take (bytes_for ops (op_count ops)) (write_after ops file)) ≡ Same
  unfolding write_refusal
  left-same floor table file wrote-core wrote-file =
      let ok = (accepted-is (length file) (bytes_for ops (op_count ops)) ops).0 wrote-file in
      let f = subst (λ (n : ℕ). take n (write_after ops file) ≡ file_bytes ops) (file-length ops) (new-words (file_bytes ops) file wrote-file) in
      (λ j. agreement_of (table-left floor ops table wrote-core j) (f j)) ∙ listed_same ok.whole ok.segments floor

-- ---- marks and segment numbers
module _ (file other : List ℕ) (many : length (records_of file) ≡ length (records_of other))
    (behind : (i k : ℕ) → InFile file i → k < 416 → word (record_at file i) (2 + k) ≡ word (record_at other i) (2 + k)) where
  pub segments-ignored : (core : List ℕ) → agreement_of core file ≡ agreement_of core other
  unfolding agreement_of file_run
  segments-ignored core =
      λ j. record_left (alone-of-same (file_run file) (file_run other) many (λ i l. refl) cells (core_run core) j)
      (row_left (alone-in-same (file_run file) (file_run other) many (λ i l. refl) cells (core_run core) j))
    where
      cells : (i : ℕ) → InFile file i → record_cells (record_at file i) ≡ record_cells (record_at other i)
      cells i l = behind-mark (record_at file i) (record_at other i) (λ k h. behind i k l h)

-- ---- pointers
module _ (core other : List ℕ) (many : rows core_layout core ≡ rows core_layout other)
    (before : (r k : ℕ) → r < rows core_layout core → k < STATE-PTR → word (row core_layout core r) k ≡ word (row core_layout other r) k)
    (mu : (r : ℕ) → r < rows core_layout core → word (row core_layout core r) MU ≡ word (row core_layout other r) MU) where
  cells-before : (r : ℕ) → r < rows core_layout core → row_cells (row core_layout core r) ≡ row_cells (row core_layout other r)
  unfolding row_cells
  cells-before r l = tab-same STATE-PTR (word (row core_layout core r)) (word (row core_layout other r)) (λ k h. before r k l h)

  pub pointers-ignored : (file : List ℕ) → agreement_of core file ≡ agreement_of other file
  unfolding agreement_of core_run is_active
  pointers-ignored file =
      λ j. record_left (alone-in-same (core_run core) (core_run other) many actives cells-before (file_run file) j)
      (row_left (alone-of-same (core_run core) (core_run other) many actives cells-before (file_run file) j))
    where
      actives : (r : ℕ) → r < rows core_layout core → eqb (word (row core_layout core r) MU) 1 ≡ eqb (word (row core_layout other r) MU) 1
      actives r l = ap (λ (n : ℕ). eqb n 1) (mu r l)
