-- What `tally` counts of a file without a fault is a list of operations that every call accepts.
use Prim.Native.Nat.{ℕ, zero, suc, ◌+◌, ◌*◌, ◌%◌, ◌≤◌, ◌<◌}
use mathlib.Core.Path.{◌≡◌, ap, subst, sym, ◌∙◌}
use mathlib.Core.Bool.{true}
use mathlib.Core.List.{List, [], ◌∷◌}
use mathlib.Core.Option.{none}
use mathlib.Mathlib.Data.Option.Basic.{or_else-eq-none}
use native.Mathlib.Omega.{arith}
use borrow.Author.Tests.{leb-false, ltb-false, eqb-true}
use lib.ListN.{length, get_or}
use Rattle.lists.specs.Tab.{tab, word}
use Rattle.lists.proofs.Laws.{get_d-tab, length-table, table_at}
use Rattle.answer.specs.Limits.{MAX-OPS}
use Rattle.answer.specs.Refusal.{accepted}
use Rattle.answer.proofs.Laws.{passed-if}
use Rattle.keccak.specs.Row.{OP-WORDS, SEGMENT-WORD, LAST-ADDRESS, LAST-SEGMENT, op_at}
use Rattle.keccak.specs.Refusals.{op_count, address_at, segment_at, operations_refusal}
use Rattle.keccak.proofs.Refusals.{accepted-is}
use Rattle.op_file.specs.File.{segment_of, record_word, address_of, operation_words, fault_of, first_fault, records_of, is_aligned, aligned_of, records_words, file_words}
use Rattle.op_file.proofs.Cases.{each-counted}
use Rattle.op_file.proofs.SegmentNumbers.{of-selected, narrow-counted}

-- ---- a list of records without a fault
-- there is room for it, and each address is accepted by 4
room-all : (i at : ℕ) (rs : List (List ℕ)) → i ≤ MAX-OPS → first_fault i at rs ≡ none → i + length rs ≤ MAX-OPS
unfolding first_fault fault_of
room-all i at [] l e = omega arith
room-all i at (r ∷ rs) l e =
    let q = (or_else-eq-none (fault_of i at r) (first_fault (i + 1) (at + length r) rs)).0 e in
    let few = leb-false MAX-OPS i (passed-if _ _ _ q.0).0 in
    omega (arith, room-all (i + 1) (at + length r) rs (omega arith) q.1)

low-all : (i at : ℕ) (rs : List (List ℕ)) → first_fault i at rs ≡ none → (m : ℕ) → m < length rs → address_of (get_or rs m []) ≤ LAST-ADDRESS
unfolding first_fault fault_of
low-all i at [] e m l = absurd (omega arith)
low-all i at (r ∷ rs) e zero l =
    let q = (or_else-eq-none (fault_of i at r) (first_fault (i + 1) (at + length r) rs)).0 e in
    ltb-false LAST-ADDRESS (address_of r) (passed-if _ _ _ (passed-if _ _ _ (passed-if _ _ _ q.0).1).1).0
low-all i at (r ∷ rs) e (suc m) l =
    low-all (i + 1) (at + length r) rs ((or_else-eq-none (fault_of i at r) (first_fault (i + 1) (at + length r) rs)).0 e).1 m (omega arith)

-- ---- the flat list of some records
module _ (rs : List (List ℕ)) where
  pub words-length : length (records_words rs) ≡ length rs * OP-WORDS
  unfolding records_words
  words-length = length-table (length rs) OP-WORDS (λ i. operation_words (get_or rs i []))

  -- word j of record i
  pub word-is : (i j : ℕ) → i < length rs → j < OP-WORDS → word (records_words rs) (i * OP-WORDS + j) ≡ record_word (get_or rs i []) j
  unfolding records_words operation_words
  word-is i j l h =
      table_at (length rs) OP-WORDS (λ i. tab OP-WORDS (record_word (get_or rs i []))) i j l h ∙ get_d-tab OP-WORDS (record_word (get_or rs i [])) j 0 h

  address_is : (i : ℕ) → i < length rs → address_at (records_words rs) i ≡ address_of (get_or rs i [])
  unfolding op_at
  address_is i l =
      let e : OP-WORDS * i + 1 ≡ i * OP-WORDS + 1 = omega arith in
      ap (word (records_words rs)) e ∙ word-is i 1 l (omega arith)

  segment-is : (i : ℕ) → i < length rs → segment_at (records_words rs) i ≡ segment_of (get_or rs i [])
  unfolding op_at record_word
  segment-is i l =
      let e : OP-WORDS * i + SEGMENT-WORD ≡ i * OP-WORDS + SEGMENT-WORD = omega arith in
      ap (word (records_words rs)) e ∙ word-is i SEGMENT-WORD l (omega arith)

-- the same of a file: word j of its record i
pub file-word : (file : List ℕ) (i j : ℕ) → i < length (records_of file) → j < OP-WORDS → word (file_words file) (i * OP-WORDS + j) ≡ record_word (get_or (records_of file) i []) j
unfolding file_words
file-word file = word-is (records_of file)

pub counted-accepted : (file : List ℕ) → ((k : ℕ) → word file k < 256) → first_fault 0 0 (records_of file) ≡ none → (room needed : ℕ) → needed ≤ room →
    operations_refusal room needed (records_words (aligned_of file)) ≡ accepted
unfolding is_aligned
counted-accepted file small right room needed fits =
    (accepted-is room needed (records_words (aligned_of file))).1
    (record {
      few = omega (arith, count, each-counted file, room-all 0 0 (records_of file) (omega arith) right);
      whole = omega (arith, words-length (aligned_of file));
      long = fits;
      low = λ i l. subst (λ (a : ℕ). a ≤ LAST-ADDRESS) (sym (address_is (aligned_of file) i (below i l))) (each i (below i l)).0;
      aligned = λ i l. ap (λ (a : ℕ). a % 8) (address_is (aligned_of file) i (below i l)) ∙ eqb-true _ _ (each i (below i l)).1;
      segments = λ i l. subst (λ (s : ℕ). s ≤ LAST-SEGMENT) (sym (segment-is (aligned_of file) i (below i l))) (narrow-counted file small i (below i l));
    })
  where
    count : op_count (records_words (aligned_of file)) ≡ length (aligned_of file)
    count = omega (arith, words-length (aligned_of file))

    below : (i : ℕ) → i < op_count (records_words (aligned_of file)) → i < length (aligned_of file)
    below i l = omega (arith, count)

    each : (i : ℕ) → i < length (aligned_of file) → (address_of (get_or (aligned_of file) i []) ≤ LAST-ADDRESS) × (is_aligned (get_or (aligned_of file) i []) ≡ true)
    each =
        of-selected (λ r. (address_of r ≤ LAST-ADDRESS) × (is_aligned r ≡ true)) is_aligned (records_of file)
        (λ i l t. (low-all 0 0 (records_of file) right i l, t))
