-- A list of operations that is written to a file and read back is the same list; a file without a fault that is read and
-- written again is the same file, where no record is marked 4B 50 for segment 0.
use Prim.Native.Nat.{ℕ, ◌+◌, ◌*◌, ◌/◌, ◌%◌, ◌^◌, ◌≤◌, ◌<◌}
use mathlib.Core.Path.{◌≡◌, refl, sym, ap, ◌∙◌, subst}
use mathlib.Core.Bool.{true}
use mathlib.Core.List.{List, []}
use mathlib.Core.Option.{none}
use native.Mathlib.Omega.{arith}
use lib.ListN.{length, drop, get_or, take}
use lib.Seq.{get_or-drop, ext_get_or}
use Rattle.lists.specs.Tab.{tab, word}
use Rattle.lists.proofs.Laws.{length-tab, get_d-tab, tab-same, list-tab}
use Rattle.lists.proofs.Then.{by_le}
use Rattle.answer.specs.Refusal.{accepted}
use Rattle.answer.proofs.Laws.{new-words}
use Rattle.keccak.specs.Row.{OP-WORDS, SEGMENT-WORD, LAST-SEGMENT, op_at}
use Rattle.keccak.specs.Refusals.{op_count, segment_at}
use Rattle.keccak.proofs.Refusals.{accepted-is}
use Rattle.op_file.specs.File.{is_marked, size_of, records_of, bytes_of, segment_of, record_word, records_words, file_words, first_fault, start_at}
use Rattle.op_file.proofs.Counted.{words-length, word-is}
use Rattle.op_file.proofs.SegmentNumbers.{part_small}
use Rattle.op_file.proofs.Starts.{Sized, each-whole, record-there, bytes-again, records-again}
use Rattle.op_list.specs.Record.{words_from, Record}
use Rattle.op_list.specs.Files.{read_refusal, read_after, records_for, file_bytes, bytes_for, write_refusal, write_after}
use Rattle.op_list.proofs.RecordAgain.{record-sized, record-word, record-number, record_same, bytes_back}
use Rattle.op_list.proofs.Files.{record_for, file-length, list_length}

-- ---- a list, written and read
module _ (ops : List ℕ) (whole : length ops % OP-WORDS ≡ 0) (small : (k : ℕ) → word ops k < 2 ^ 64) (narrow : (i : ℕ) → i < op_count ops → segment_at ops i ≤ LAST-SEGMENT) where
  abbrev n : ℕ
  n = op_count ops

  written : (i : ℕ) → i < n → get_or (records_for ops n) i [] ≡ record_for ops i
  written i l = get_d-tab n (record_for ops) i [] l

  sized : Sized (records_for ops n)
  sized i l =
      let e = written i (omega (arith, length-tab n (record_for ops))) in
      ap length e ∙ record-sized (words_from ops (i * OP-WORDS)) ∙ ap size_of (sym e)

  records : records_of (file_bytes ops) ≡ records_for ops n
  unfolding file_bytes
  records = records-again (records_for ops n) sized

  -- word j of operation i
  number-low : (i : ℕ) → i < n → word ops (i * OP-WORDS + SEGMENT-WORD) ≤ LAST-SEGMENT
  unfolding op_at
  number-low i l =
      let e : OP-WORDS * i + SEGMENT-WORD ≡ i * OP-WORDS + SEGMENT-WORD = omega arith in
      subst (λ (k : ℕ). word ops k ≤ LAST-SEGMENT) e (narrow i l)

  word_back : (i j : ℕ) → i < n → j < OP-WORDS → record_word (record_for ops i) j ≡ word ops (i * OP-WORDS + j)
  word_back i j l h =
      by_le SEGMENT-WORD j
      (λ (m : SEGMENT-WORD ≤ j).
      let e : SEGMENT-WORD ≡ j = omega arith in
      subst (λ (k : ℕ). record_word (record_for ops i) k ≡ word ops (i * OP-WORDS + k)) e (record-number (words_from ops (i * OP-WORDS)) (number-low i l)))
      (λ (m : j < SEGMENT-WORD). record-word (words_from ops (i * OP-WORDS)) j m (small (i * OP-WORDS + j)))

  pub list-again : file_words (file_bytes ops) ≡ ops
  unfolding file_words
  list-again =
      ap records_words records
      ∙ list-tab (records_words (records_for ops n)) (length ops) long
      ∙ tab-same (length ops) (word (records_words (records_for ops n))) (word ops) each
      ∙ sym (list-tab ops (length ops) refl)
    where
      count : length (records_for ops n) ≡ n
      count = length-tab n (record_for ops)

      long : length (records_words (records_for ops n)) ≡ length ops
      long = words-length (records_for ops n) ∙ omega (arith, count, whole)

      each : (k : ℕ) → k < length ops → word (records_words (records_for ops n)) k ≡ word ops k
      each k h =
          let e : k / OP-WORDS * OP-WORDS + k % OP-WORDS ≡ k = omega arith in
          let i : k / OP-WORDS < n = omega (arith, whole) in
          ap (word (records_words (records_for ops n))) (sym e)
          ∙ word-is (records_for ops n) (k / OP-WORDS) (k % OP-WORDS) (omega (arith, count)) (omega arith)
          ∙ ap (λ (r : List ℕ). record_word r (k % OP-WORDS)) (written (k / OP-WORDS) i)
          ∙ word_back (k / OP-WORDS) (k % OP-WORDS) i (omega arith)
          ∙ ap (word ops) e

-- of what `write_operations` leaves, where it is accepted
pub list_left : (ops file : List ℕ) → ((k : ℕ) → word ops k < 2 ^ 64) → write_refusal (length file) ops ≡ accepted →
    file_words (take (bytes_for ops (op_count ops)) (write_after ops file)) ≡ ops
unfolding write_refusal
list_left ops file small passed =
    let ok = (accepted-is (length file) (bytes_for ops (op_count ops)) ops).0 passed in
    ap file_words (subst (λ (n : ℕ). take n (write_after ops file) ≡ file_bytes ops) (file-length ops) (new-words (file_bytes ops) file passed))
    ∙ list-again ops ok.whole small ok.segments

-- a list of records is the table of its elements
records-tab : (rs : List (List ℕ)) → rs ≡ tab (length rs) (λ i. get_or rs i [])
records-tab rs = ext_get_or [] rs (tab (length rs) (λ i. get_or rs i [])) (sym (length-tab (length rs) (λ i. get_or rs i []))) (λ i h. sym (get_d-tab (length rs) (λ i. get_or rs i []) i [] h))

-- ---- a file, read and written
module _ (file : List ℕ) (right : first_fault 0 0 (records_of file) ≡ none) (small : (k : ℕ) → word file k < 256)
    (above : (i : ℕ) → i < length (records_of file) → is_marked (get_or (records_of file) i []) ≡ true → 0 < segment_of (get_or (records_of file) i [])) where
  abbrev record_of : ℕ → List ℕ
  record_of i = get_or (records_of file) i []

  record-at : (i : ℕ) → i < length (records_of file) → Record (record_of i)
  record-at i l =
      record {
        whole = each-whole 0 0 (records_of file) right i l;
        bytes = λ k. subst (λ (r : List ℕ). word r k < 256) (sym (record-there file i l))
            (part_small (size_of (drop (start_at (records_of file) i) file)) (drop (start_at (records_of file) i) file) later k);
      }
    where
      later : (k : ℕ) → word (drop (start_at (records_of file) i) file) k < 256
      later k = subst (λ (v : ℕ). v < 256) (sym (get_or-drop (start_at (records_of file) i) file k 0)) (small (start_at (records_of file) i + k))

  -- record i of what is written for the list
  file-record : (i : ℕ) → i < length (records_of file) → record_for (file_words file) i ≡ record_of i
  unfolding file_words
  file-record i l =
      record_same (words_from (file_words file) (i * OP-WORDS)) (record_word (record_of i)) (λ j h. word-is (records_of file) i j l h)
      ∙ bytes_back (record_of i) (record-at i l) (above i l)

  operations : op_count (file_words file) ≡ length (records_of file)
  operations = ap (λ (m : ℕ). m / OP-WORDS) (list_length file) ∙ quotient (length (records_of file))
    where
      quotient : (m : ℕ) → m * OP-WORDS / OP-WORDS ≡ m
      quotient m = omega arith

  pub file-again : file_bytes (file_words file) ≡ file
  unfolding file_bytes
  file-again =
      ap (λ (m : ℕ). bytes_of (records_for (file_words file) m)) operations
      ∙ ap bytes_of (tab-same (length (records_of file)) (record_for (file_words file)) record_of file-record ∙ sym (records-tab (records_of file)))
      ∙ bytes-again file

  -- of what `read_operations` leaves, where it is accepted
  pub file-left : (ops : List ℕ) → read_refusal file (length ops) ≡ accepted → file_bytes (take (length (records_of file) * OP-WORDS) (read_after file ops)) ≡ file
  file-left ops passed =
      ap file_bytes (subst (λ (n : ℕ). take n (read_after file ops) ≡ file_words file) (list_length file) (new-words (file_words file) ops passed)) ∙ file-again
