-- How long files and lists are, and the clauses of the calls that read and write them.
--     file-length    a file that is written has the bytes that 3 counts
--     count_fits     a file without a fault has 418 bytes or more for each record
use Prim.Native.Nat.{ℕ, zero, suc, ◌+◌, ◌*◌, ◌≤◌, ◌<◌}
use mathlib.Core.Path.{◌≡◌, refl, sym, ap, ◌∙◌, subst}
use mathlib.Core.Bool.{false}
use mathlib.Core.List.{List, [], ◌∷◌, ◌++◌, append-nil, append_assoc}
use mathlib.Core.Logic.{◌↔◌}
use mathlib.Core.Option.{Option, none, some, or_else}
use native.Mathlib.Nat.{add-zero}
use native.Mathlib.Numerals.{add-one}
use native.Mathlib.Omega.{arith}
use borrow.Author.Tests.{lt-ltb, le-ltb}
use lib.ListN.{length, get_or, length-append}
use lib.Seq.{sets}
use Rattle.lists.specs.Sum.{sum_below}
use Rattle.lists.specs.Tab.{tab, tab_from}
use Rattle.lists.proofs.Laws.{length-tab, tab-add}
use Rattle.answer.specs.declared.Refusal.{Refusal}
use Rattle.answer.specs.declared.Refusal.TheVariants.{TooShort}
use Rattle.answer.specs.Refusal.{accepted, overwrite}
use Rattle.answer.proofs.Laws.{refuse-yes, refuse-no, sets-overwrite}
use Rattle.keccak.specs.Row.{OP-WORDS}
use Rattle.keccak.specs.Refusals.{op_count, Acceptable}
use Rattle.keccak.proofs.Refusals.{accepted-is}
use Rattle.op_file.specs.File.{RECORD-BYTES, SEGMENT-RECORD-BYTES, is_marked, record_size, records_of, bytes_of, record_word, operation_words, file_words, first_fault, sums_of, file_sums, unless, tally_of}
use Rattle.op_file.specs.declared.Sums.{Sums}
use Rattle.op_file.proofs.Cases.{each-counted, four, floor-counts}
use Rattle.op_file.proofs.Counted.{words-length}
use Rattle.op_file.proofs.Starts.{Sized, marked, each-whole, bytes-again}
use Rattle.op_file.proofs.Steps.{size-least, size-most}
use Rattle.op_list.specs.Record.{is_numbered, record_bytes, words_from}
use Rattle.op_list.proofs.RecordAgain.{record-length}
use Rattle.op_list.specs.Files.{read_refusal, records_for, file_bytes, bytes_for, write_refusal}
use Rattle.std.specs.Prelude.{Ok, Err}

pub operation-length : (r : List ℕ) → length (operation_words r) ≡ OP-WORDS
unfolding operation_words
operation-length r = length-tab OP-WORDS (record_word r)

pub list_length : (file : List ℕ) → length (file_words file) ≡ length (records_of file) * OP-WORDS
unfolding file_words
list_length file = words-length (records_of file)

-- ---- the bytes of records
bytes-last : (rs : List (List ℕ)) (r : List ℕ) → bytes_of (rs ++ (r ∷ [])) ≡ bytes_of rs ++ r
unfolding bytes_of
bytes-last [] r = append-nil r
bytes-last (q ∷ rs) r = ap (λ (t : List ℕ). q ++ t) (bytes-last rs r) ∙ sym (append_assoc q (bytes_of rs) r)

tab-last : (n : ℕ) (f : ℕ → List ℕ) → tab (n + 1) f ≡ tab n f ++ (f n ∷ [])
unfolding tab tab_from
tab-last n f = tab-add n 1 f (λ k. f n) (λ k l. ap f (omega arith))

module _ (ops : List ℕ) where
  abbrev pub record_for : ℕ → List ℕ
  record_for i = record_bytes (words_from ops (i * OP-WORDS))

  -- one more of them
  pub records-more : (n : ℕ) → bytes_of (records_for ops n) ++ record_for n ≡ bytes_of (records_for ops (n + 1))
  records-more n = sym (ap bytes_of (tab-last n record_for) ∙ bytes-last (records_for ops n) (record_for n))

  pub bytes-more : (n : ℕ) → bytes_for ops n + record_size (is_numbered (words_from ops (n * OP-WORDS))) ≡ bytes_for ops (n + 1)
  unfolding bytes_for sum_below
  bytes-more n = ap (λ (k : ℕ). sum_below k (λ i. record_size (is_numbered (words_from ops (i * OP-WORDS))))) (sym (add-one n))

  pub bytes_most : (n : ℕ) → bytes_for ops n ≤ SEGMENT-RECORD-BYTES * n
  unfolding bytes_for sum_below
  bytes_most zero = omega arith
  bytes_most (suc n) = omega (arith, bytes_most n, size-most (is_numbered (words_from ops (n * OP-WORDS))))

  pub bytes-grow : (n k : ℕ) → bytes_for ops n ≤ bytes_for ops (n + k)
  bytes-grow n zero = omega (arith, ap (bytes_for ops) (add-zero n))
  bytes-grow n (suc k) =
      let e : n + suc k ≡ n + k + 1 = omega arith in
      rw e (omega (arith, bytes-grow n k, bytes-more (n + k)))

  pub for-length : (n : ℕ) → length (bytes_of (records_for ops n)) ≡ bytes_for ops n
  unfolding bytes_for sum_below tab tab_from bytes_of
  for-length zero = refl
  for-length (suc n) =
      ap (λ (k : ℕ). length (bytes_of (records_for ops k))) (sym (add-one n))
      ∙ ap length (sym (records-more n))
      ∙ length-append (bytes_of (records_for ops n)) (record_for n)
      ∙ (λ i. for-length n i + record-length (words_from ops (n * OP-WORDS)) i)

  pub file-length : length (file_bytes ops) ≡ bytes_for ops (op_count ops)
  unfolding file_bytes
  file-length = for-length (op_count ops)

-- records that are as long as they say have 418 bytes or more
sized-bytes : (rs : List (List ℕ)) → Sized rs → length rs * RECORD-BYTES ≤ length (bytes_of rs)
unfolding bytes_of
sized-bytes [] h = omega arith
sized-bytes (r ∷ rs) h = omega (arith, h 0 (omega arith), size-least (is_marked r), length-append r (bytes_of rs), sized-bytes rs (λ i l. h (suc i) (omega arith)))

pub file-sized : (file : List ℕ) → first_fault 0 0 (records_of file) ≡ none → Sized (records_of file)
file-sized file e i l = (marked (get_or (records_of file) i []) (each-whole 0 0 (records_of file) e i l)).long

pub count_fits : (file : List ℕ) → first_fault 0 0 (records_of file) ≡ none → length (records_of file) * RECORD-BYTES ≤ length file
count_fits file e = omega (arith, sized-bytes (records_of file) (file-sized file e), ap length (bytes-again file))

-- ---- what a tally says of the faults
told-refused : {r : Refusal} (o : Option Refusal) (s : Sums) → Err r ≡ unless o s → o ≡ some r
told-refused none s e = cc
told-refused (some x) s e = cc

told-counted : {t : Sums} (o : Option Refusal) (s : Sums) → Ok t ≡ unless o s → (o ≡ none) × (t ≡ s)
told-counted none s e = (refl, cc)
told-counted (some x) s e = (cc, cc)

pub told-fault : (file : List ℕ) {r : Refusal} → Err r ≡ tally_of 4 false 0 file → first_fault 0 0 (records_of file) ≡ some r
told-fault file e = told-refused _ _ (e ∙ floor-counts 4 false four 0 file)

pub told-file : (file : List ℕ) {t : Sums} → Ok t ≡ tally_of 4 false 0 file
    → (first_fault 0 0 (records_of file) ≡ none) × (t.ops + t.unaligned ≡ length (records_of file))
unfolding sums_of
told-file file e =
    let q = told-counted (first_fault 0 0 (records_of file)) (file_sums 4 false 0 file) (e ∙ floor-counts 4 false four 0 file) in
    (q.0, ap (λ (s : Sums). s.ops + s.unaligned) q.1 ∙ each-counted file)

-- ---- the clauses of `read_operations`
module _ (file : List ℕ) (room : ℕ) where
  pub read-fault : {r : Refusal} → first_fault 0 0 (records_of file) ≡ some r → read_refusal file room ≡ some r
  unfolding read_refusal or_else
  read-fault e = rw e refl

  module _ (n : ℕ) (e : first_fault 0 0 (records_of file) ≡ none) (q : n ≡ length (records_of file)) where
    pub read_short : room < n * OP-WORDS → read_refusal file room ≡ some (TooShort (n * OP-WORDS))
    unfolding read_refusal or_else
    read_short h = rw (e, sym q) (refuse-yes _ _ (lt-ltb _ _ h))

    pub read-accepted : n * OP-WORDS ≤ room → read_refusal file room ≡ none
    unfolding read_refusal or_else
    read-accepted h = rw (e, sym q) (refuse-no _ (le-ltb _ _ h) refl)

pub read-words : (file ops : List ℕ) (n : ℕ) {new : List ℕ} → n ≡ length (records_of file) → n * OP-WORDS ≤ length ops
    → new ≡ sets ops 0 (file_words file) → new ≡ overwrite (file_words file) ops
read-words file ops n q h e = e ∙ sets-overwrite ops (file_words file) (omega (arith, q, h, list_length file))

-- what `write_operations` needs is as long as what it writes, so a slice of exactly that length is accepted
pub write-accepted : (room : ℕ) (ops : List ℕ) → (write_refusal room ops ≡ accepted) ↔ Acceptable room (length (file_bytes ops)) ops
unfolding write_refusal
write-accepted room ops =
    subst (λ (n : ℕ). (write_refusal room ops ≡ accepted) ↔ Acceptable room n ops) (sym (file-length ops)) (accepted-is room _ ops)
