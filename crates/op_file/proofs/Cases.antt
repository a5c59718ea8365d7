-- Cases of the scope, and a file of one record.
use Prim.Native.Nat.{ℕ, zero, suc, ◌+◌, ◌-◌, ◌*◌, ◌%◌, ◌<◌, ◌≤◌}
use mathlib.Core.Path.{◌≡◌, refl, sym, ap, ◌∙◌}
use mathlib.Core.Bool.{Bool, true, false, not}
use mathlib.Core.List.{List, [], ◌∷◌, ◌++◌}
use mathlib.Core.Logic.{⊎_elim}
use mathlib.Core.Option.{Option, none, some}
use mathlib.Mathlib.Data.Option.Basic.{or_else-eq-some}
use native.Mathlib.Omega.{arith}
use borrow.Author.Tests.{lt-leb, lt-ltb}
use lib.Dec.{eqb, eqb-suc-zero}
use lib.ListN.{length, take}
use lib.Seq.{get_or-append-add}
use Rattle.lists.specs.Tab.{tab, tab_from, word}
use Rattle.lists.specs.Select.{cons_if, selected}
use Rattle.bits.specs.Bits.{pack}
use Rattle.bits.proofs.Bytes.{pack-by}
use Rattle.answer.specs.Limits.{MAX-OPS}
use Rattle.answer.specs.Refusal.{refuse_if, not_floor, PowerFloor}
use Rattle.answer.proofs.Laws.{unlike, later-if, none_told_lem}
use Rattle.answer.proofs.Refusals.{floor-later, floor-refused, floor-least}
use Rattle.answer.specs.declared.Refusal.{Refusal}
use Rattle.answer.specs.declared.Refusal.TheVariants.{PastEnd, HighAddress, BadRecord, Unaligned, Floor}
use Rattle.tuple.specs.declared.Bus.{Bus}
use Rattle.tuple.specs.declared.Bus.TheVariants.{AreBytes}
use Rattle.tuple.specs.declared.Side.{Side}
use Rattle.tuple.specs.declared.Side.TheVariants.{Sender}
use Rattle.keccak.specs.Height.{doubled, next-power-of-two, height}
use Rattle.keccak.specs.Row.{LAST-ADDRESS, op_at}
use Rattle.keccak.specs.Tuples.{core_table_sum}
use Rattle.keccak.specs.declared.KeccakOperation.{KeccakOperation}
use Rattle.keccak.proofs.Height.{height-found}
use Rattle.keccak_rnd.specs.Row.{padding-are-bytes}
use Rattle.keccak_rnd.specs.Tuples.{round_table_sum}
use Rattle.op_file.specs.File.{RECORD-BYTES, is_mark, is_marked, record_size, size_of, segment_of, operation_words, record_word, is_whole, address_of, fault_of, first_fault, split, records_of, is_aligned, is_unaligned, aligned_of, unaligned_of, records_words, any_marked, none_told, told, segments_of, written_sum, bus_total, sums_of, file_sums, unless, tally_of}
use Rattle.op_file.specs.Reader.{wrong, record_count, reading, step_of, padding_sum, counts_of, end_of, checked, finish_of}
use Rattle.op_file.specs.declared.Whole.{Whole}
use Rattle.op_file.specs.declared.Reading.{Reading}
use Rattle.op_file.specs.declared.Segments.{Segments}
use Rattle.op_file.specs.declared.Sums.{Sums}
use Rattle.op_file.proofs.Totals.{counts-are-sums}
use Rattle.op_file.proofs.Laws.{over-fault}
use Rattle.op_file.proofs.Steps.{begun, step-wrong}
use Rattle.std.specs.Prelude.{Result, Ok, Err}

-- ---- the floor
-- what a file says where the floor is checked
says : {o p : Option Refusal} (s : Sums) → o ≡ p → unless o s ≡ unless p s
says s e = ap (λ (o : Option Refusal). unless o s) e

-- an accepted floor: the first fault of the file, or its sums; any other is refused, whatever the file
module _ (floor : ℕ) (shipped : Bool) where
  pub floor-counts : PowerFloor floor → (syscall : ℕ) (file : List ℕ) → tally_of floor shipped syscall file
      ≡ unless (first_fault 0 0 (records_of file)) (file_sums floor shipped syscall file)
  unfolding tally_of
  floor-counts h syscall file = says _ (floor-later floor (first_fault 0 0 (records_of file)) h)

  pub floor-ends : PowerFloor floor → (c : Result Reading Refusal) → finish_of floor shipped c ≡ end_of floor shipped c
  unfolding finish_of
  floor-ends h c = ap (λ (o : Option Refusal). checked o (end_of floor shipped c)) (floor-later floor none h)

  pub other-floor : (PowerFloor floor → ⊥) → (syscall : ℕ) (file : List ℕ) → tally_of floor shipped syscall file ≡ Err (Floor floor)
  unfolding tally_of
  other-floor h syscall file =
      says (file_sums floor shipped syscall file) (floor-refused floor (first_fault 0 0 (records_of file)) h)

-- the floor of tables of old
pub four : PowerFloor 4
four = (2, omega arith, omega arith, refl)

-- the sums of no operation, where both tables have so many rows
abbrev pub empty_sums : ℕ → ℕ → Sums
empty_sums rows are-bytes =
    record { ops = 0; core_rows = rows; round_rows = rows; byte_alu = 0; are_bytes = are-bytes; keccak_rc = 0; is_halfword = 0; is_wh = 0; memw = 0; ecall = 0; segments = none_told; unaligned = 0 }

-- an empty file, whose tables are not shipped or are: "The 880 of shipped mode becomes 220 times the floor."
module _ (floor : ℕ) (h : PowerFloor floor) where
  empty-height : floor ≡ height floor 0
  unfolding next-power-of-two doubled
  empty-height = height-found {h = floor} {w = 1} floor 0 (omega (arith, floor-least floor h)) refl

  pub empty-file : (syscall : ℕ) → tally_of floor false syscall [] ≡ Ok (empty_sums floor 0)
  unfolding records_of split selected first_fault sums_of bus_total segments_of told any_marked
  empty-file syscall = floor-counts floor false h syscall [] ∙ ap (λ (k : ℕ). Ok (empty_sums k 0)) (sym empty-height)

  pub empty-shipped : (syscall : ℕ) → tally_of floor true syscall [] ≡ Ok (empty_sums floor (220 * floor))
  unfolding records_of split selected first_fault counts_of padding_sum segments_of told any_marked
  empty-shipped syscall =
      let rows = sym empty-height in
      let sent : 0 + (height floor 0 - 0) * 220 ≡ 220 * floor = omega (arith, empty-height) in
      floor-counts floor true h syscall []
      ∙ ap Ok (sym (counts-are-sums floor true syscall 0 (op_at (records_words [])) none_told 0) ∙ (λ t. empty_sums (rows t) (sent t)))

-- in shipped mode what is computed, and what is defined, is the sum over the rows as written
module _ (floor syscall n : ℕ) (op : ℕ → KeccakOperation) (segments : Segments) (left : ℕ) where
  pub shipped-buses : (s : Side) (b : Bus) → bus_total floor true syscall s b n op ≡ core_table_sum s b 24 syscall floor n op + round_table_sum s b 24 floor n op
  unfolding bus_total written_sum
  shipped-buses s b = refl

  pub shipped-are-bytes : (counts_of floor true n segments left).are_bytes ≡ core_table_sum Sender AreBytes 24 syscall floor n op + round_table_sum Sender AreBytes 24 floor n op
  unfolding sums_of
  shipped-are-bytes = ap (λ (s : Sums). s.are_bytes) (counts-are-sums floor true syscall n op segments left) ∙ shipped-buses Sender AreBytes

-- both modes agree where there is an operation, and on every file that has a record to count, refused or not
pub modes-agree : (floor syscall n : ℕ) (op : ℕ → KeccakOperation) (segments : Segments) (left : ℕ) → 1 ≤ n →
    sums_of floor true syscall n op segments left ≡ sums_of floor false syscall n op segments left
unfolding sums_of bus_total
modes-agree floor syscall zero op segments left l = absurd (omega arith)
modes-agree floor syscall (suc k) op segments left l = rw (eqb-suc-zero k) refl

pub modes-agree-on : (floor syscall : ℕ) (file : List ℕ) → 1 ≤ length (aligned_of file) → tally_of floor true syscall file ≡ tally_of floor false syscall file
unfolding tally_of
modes-agree-on floor syscall file one =
    ap (unless (not_floor floor (first_fault 0 0 (records_of file))))
    (modes-agree floor syscall (length (aligned_of file)) (op_at (records_words (aligned_of file))) (segments_of (aligned_of file)) (length (unaligned_of file)) one)

-- the sums of one operation, where nothing is left out
pub one-record : (shipped : Bool) (syscall : ℕ) (op : ℕ → KeccakOperation) (segments : Segments) → record { ops = 1; core_rows = 4; round_rows = 32; byte_alu = 19393; are_bytes = 7044; keccak_rc = 24; is_halfword = 25; is_wh = 25; memw = 26; ecall = 1; segments = segments; unaligned = 0 } ≡ sums_of 4 shipped syscall 1 op segments 0
unfolding counts_of padding_sum padding-are-bytes height next-power-of-two doubled
one-record true syscall op segments = counts-are-sums 4 true syscall 1 op segments 0
one-record false syscall op segments = counts-are-sums 4 false syscall 1 op segments 0

-- the same with a floor above its 24 round rows: 256 core rows, and 232 padding rows of 256
pub one-record-256 : (shipped : Bool) (syscall : ℕ) (op : ℕ → KeccakOperation) (segments : Segments) → record { ops = 1; core_rows = 256; round_rows = 256; byte_alu = 19393; are_bytes = 56324; keccak_rc = 24; is_halfword = 25; is_wh = 25; memw = 26; ecall = 1; segments = segments; unaligned = 0 } ≡ sums_of 256 shipped syscall 1 op segments 0
unfolding counts_of padding_sum padding-are-bytes height next-power-of-two doubled
one-record-256 true syscall op segments = counts-are-sums 256 true syscall 1 op segments 0
one-record-256 false syscall op segments = counts-are-sums 256 false syscall 1 op segments 0

-- the highest address that is counted, the next one, and one between them
module _ (i at : ℕ) (r : List ℕ) (few : i < MAX-OPS) (w : is_whole r ≡ true) where
  pub highest-accepted : address_of r ≡ 18446744073709551416 → (fault_of i at r ≡ none) × (is_aligned r ≡ true)
  unfolding fault_of refuse_if is_aligned
  highest-accepted e = (simp (lt-leb MAX-OPS i few, w, e), ap (λ (a : ℕ). eqb (a % 8) 0) e)

  pub next-refused : address_of r ≡ 18446744073709551424 → fault_of i at r ≡ some (HighAddress 18446744073709551424)
  unfolding fault_of refuse_if
  next-refused e = simp (lt-leb MAX-OPS i few, w, e)

  pub last-left-out : address_of r ≡ 18446744073709551423 → (fault_of i at r ≡ none) × (is_unaligned r ≡ true)
  unfolding fault_of refuse_if is_unaligned is_aligned
  last-left-out e = (simp (lt-leb MAX-OPS i few, w, e), ap (λ (a : ℕ). not (eqb (a % 8) 0)) e)

  -- a high address is refused by 4, multiple of 8 or not
  pub high-refused : LAST-ADDRESS < address_of r → fault_of i at r ≡ some (HighAddress (address_of r))
  unfolding fault_of refuse_if
  high-refused h = simp (lt-leb MAX-OPS i few, w, lt-ltb LAST-ADDRESS (address_of r) h)

-- "`tally` never gives it."
fault-not-7 : (i at : ℕ) (r : List ℕ) (a : ℕ) → fault_of i at r ≡ some (Unaligned a) → ⊥
unfolding fault_of
fault-not-7 i at r a e =
    let b = later-if _ _ (unlike _ _ (λ z. omega arith)) e in
    let c = later-if _ _ (unlike _ _ (λ z. omega arith)) b in
    none_told_lem (later-if _ _ (unlike _ _ (λ z. omega arith)) c)

first-not-7 : (i at : ℕ) (rs : List (List ℕ)) (a : ℕ) → first_fault i at rs ≡ some (Unaligned a) → ⊥
unfolding first_fault
first-not-7 i at [] a e = none_told_lem e
first-not-7 i at (r ∷ rs) a e =
    ⊎_elim (fault-not-7 i at r a) (λ h. first-not-7 (i + 1) (at + length r) rs a h.1) ((or_else-eq-some (fault_of i at r) (first_fault (i + 1) (at + length r) rs) (Unaligned a)).0 e)

pub never-7 : (floor : ℕ) (shipped : Bool) (syscall : ℕ) (file : List ℕ) (a : ℕ) → tally_of floor shipped syscall file ≡ Err (Unaligned a) → ⊥
unfolding tally_of
never-7 floor shipped syscall file a e =
    let o = not_floor floor (first_fault 0 0 (records_of file)) in
    said o _ (λ (q : o ≡ some (Unaligned a)). first-not-7 0 0 (records_of file) a (later-if _ _ (unlike (Floor floor) (Unaligned a) (λ z. omega arith)) q)) e
  where
    said : {x : Refusal} (o : Option Refusal) (s : Sums) → (o ≡ some x → ⊥) → unless o s ≡ Err x → ⊥
    said none s not e = let z : ◌≡◌ {A = ℕ} 0 1 = cc in absurd (omega arith)
    said (some y) s not e = not cc

-- every record is counted or left out
both-kinds : (rs : List (List ℕ)) → length (selected is_aligned rs) + length (selected is_unaligned rs) ≡ length rs
unfolding selected is_unaligned
both-kinds [] = refl
both-kinds (r ∷ rs) = by (is_aligned r) (both-kinds rs)
  where
    by : (t : Bool) → length (selected is_aligned rs) + length (selected is_unaligned rs) ≡ length rs →
        length (cons_if t r (selected is_aligned rs)) + length (cons_if (not t) r (selected is_unaligned rs)) ≡ suc (length rs)
    by true e = omega arith
    by false e = omega arith

pub each-counted : (file : List ℕ) → length (aligned_of file) + length (unaligned_of file) ≡ length (records_of file)
each-counted file = both-kinds (records_of file)

pub one-too-many : (at : ℕ) (r : List ℕ) → fault_of 89478485 at r ≡ some (PastEnd 89478486)
one-too-many at r = over-fault 89478485 at r (omega arith)

-- "a mark that is neither": refused by its second byte, whatever follows, with the byte where its record starts
pub mark-refused : (w : Whole) → record_count w < MAX-OPS → (m a t b : ℕ) → is_mark b ≡ false → step_of (Ok (reading w (begun 1 m a t))) b ≡ Err (BadRecord w.start)
unfolding wrong
mark-refused w few m a t b e = step-wrong w few (begun 1 m a t) b (simp e)

-- "Records marked 4B 4F still read, as segment 0."; "4 more bytes at the end, lowest first"
pub old-segment : (r : List ℕ) → is_marked r ≡ false → segment_of r ≡ 0
unfolding segment_of
old-segment r e = rw e refl

pub segment-bytes : (r : List ℕ) → length r ≡ RECORD-BYTES → is_marked (r ++ (1 ∷ 2 ∷ 3 ∷ 4 ∷ [])) ≡ true → segment_of (r ++ (1 ∷ 2 ∷ 3 ∷ 4 ∷ [])) ≡ 0x04030201
unfolding segment_of pack
segment-bytes r l e =
    rw e
    (pack-by 4 RECORD-BYTES 0 (word (r ++ (1 ∷ 2 ∷ 3 ∷ 4 ∷ []))) (word (1 ∷ 2 ∷ 3 ∷ 4 ∷ []))
    (λ b h. ap (λ (n : ℕ). word (r ++ (1 ∷ 2 ∷ 3 ∷ 4 ∷ [])) (n + b)) (sym l) ∙ get_or-append-add r (1 ∷ 2 ∷ 3 ∷ 4 ∷ []) b 0 ∙ ap (word (1 ∷ 2 ∷ 3 ∷ 4 ∷ [])) (same b)))
  where
    same : (b : ℕ) → b ≡ 0 + b
    same b = omega arith

-- "418 bytes", "with 4 more bytes"
pub sizes : (r : List ℕ) → (is_marked r ≡ false → size_of r ≡ 418) × (is_marked r ≡ true → size_of r ≡ 422)
unfolding record_size
sizes r = ((λ e. rw e refl), (λ e. rw e refl))

-- "then timestamp, address, .. each 8 bytes, lowest first": the first two words of a record
pub record-begins : (rest : List ℕ) →
    take 2 (operation_words (0x4B ∷ 0x4F ∷ 1 ∷ 2 ∷ 3 ∷ 4 ∷ 5 ∷ 6 ∷ 7 ∷ 8 ∷ 9 ∷ 10 ∷ 11 ∷ 12 ∷ 13 ∷ 14 ∷ 15 ∷ 16 ∷ rest))
    ≡ 0x0807060504030201 ∷ 0x100F0E0D0C0B0A09 ∷ []
unfolding operation_words record_word pack tab tab_from
record-begins rest = refl
