-- The executor's file against the core table: "both claim to record the same calls".
--     record_cells, row_cells    what is compared of a record and of a row
--     Matches                  the same by the numbers that a row makes
--     file_run, core_run         the file's records, and the active rows of a core table, as runs of that
--     agreement_of              same; the first record with no partner of its own; or, failing that, the first active row left
--     same_for                  what the call answers
use Rattle.std.specs.Prelude.{ℕ, ◌+◌, ◌*◌, ◌^◌, ◌≤◌, ◌<◌, ◌≡◌, true, List, [], ltb, length, get_or, Result, Ok, Err}
use Rattle.std.proofs.Math.Option.{Option, none, some}
use Rattle.lists.specs.Tab.{pick, tab, word}
use Rattle.bits.specs.Bits.{pack}
use Rattle.answer.specs.Refusal.{refuse_if, refuse_at}
use Rattle.answer.specs.declared.Refusal.{Refusal}
use Rattle.answer.specs.declared.Refusal.TheVariants.{NotWhole, NotElement}
use Rattle.field.specs.Elements.{first_not_element}
use Rattle.keccak.specs.Columns.{TIMESTAMP-0, TIMESTAMP-1, ADDR, INPUT-STATE, OUTPUT-STATE, STATE-PTR}
use Rattle.keccak.specs.Row.{state_lanes, core_address}
use Rattle.verdict.specs.Kind.{rows, row, active}
use Rattle.verdict.specs.CoreAndRound.{core_layout}
use Rattle.verdict.specs.Claims.{ShortTimestamp}
use Rattle.verdict.specs.Verdict.{ragged}
use Rattle.op_file.specs.File.{records_of, record_word, address_of, first_fault}
use Rattle.partners.specs.Partners.{Run, first_alone}
use Rattle.same_operations.specs.declared.Agreement.{Agreement}
use Rattle.same_operations.specs.declared.Agreement.TheVariants.{Same, Record, Row}

-- ---- what is compared: "timestamp, address, INPUT and OUTPUT", the columns of a core row before the pointers: "pointers are not
-- compared", and "Segment numbers are ignored"
-- column k of the row that a record asks for: the low and the high 32 bits of its timestamp, which is 8 bytes behind the mark, and
-- then a column for each byte that follows
unfoldable pub record_cell : List ℕ → ℕ → ℕ
record_cell r k = pick (ltb k 2) (pack 4 (2 + 4 * k) (word r)) (word r (8 + k))

unfoldable pub record_cells : List ℕ → List ℕ
record_cells r = tab STATE-PTR (record_cell r)

-- the same columns of a row. "Bytes not below 256 or timestamp words not below 2^32 make a row that no record matches.": no record has
-- such words
unfoldable pub row_cells : List ℕ → List ℕ
row_cells x = tab STATE-PTR (word x)

-- ---- the same by the numbers that a row makes: its timestamp words are below 2^32 and make the record's timestamp; its address, INPUT and
-- OUTPUT are bytes and make the record's address and lanes. proofs/Cells.antt: that is so exactly where these columns are equal
-- (`matches-exactly`)
pub record Matches (r x : List ℕ) : Type 0 where
  pub short : ShortTimestamp x
  pub timestamp : word x TIMESTAMP-0 + 2 ^ 32 * word x TIMESTAMP-1 ≡ record_word r 0
  pub bytes : (k : ℕ) → ADDR ≤ k → k < STATE-PTR → word x k < 256
  pub address : core_address x ≡ address_of r
  pub input : state_lanes INPUT-STATE x ≡ tab 25 (λ l. record_word r (2 + l))
  pub output : state_lanes OUTPUT-STATE x ≡ tab 25 (λ l. record_word r (27 + l))

-- ---- the two runs: "the file's operations", where "unaligned records are compared like any other", and "the active core rows", each
-- "by its number in the file or table, from 0"
unfoldable pub file_run : List ℕ → Run
file_run file =
    record {
      size = length (records_of file);
      chosen = λ i. true;
      element = λ i. record_cells (get_or (records_of file) i []);
    }

unfoldable pub core_run : List ℕ → Run
core_run core =
    record {
      size = rows core_layout core;
      chosen = active core_layout core;
      element = λ r. row_cells (row core_layout core r);
    }

-- ---- the answer: "Say 'same' exactly when the active core rows .. are the file's operations in some order, repeats counted. Else give
-- the first file record with no partner of its own, or failing that the first active row left"
abbrev pub row_left : Option ℕ → Agreement
row_left none = Same
row_left (some r) = Row r

abbrev pub record_left : Option ℕ → Agreement → Agreement
record_left none later = later
record_left (some i) later = Record i

unfoldable pub agreement_of : List ℕ → List ℕ → Agreement
agreement_of core file =
    record_left (first_alone (file_run file) (core_run core)) (row_left (first_alone (core_run core) (file_run file)))

-- ---- the call: "The table is refused first, by 2 or 5, then the file as `tally` refuses it, never by 7."
unfoldable pub same_refusal : List ℕ → List ℕ → Option Refusal
same_refusal core file =
    refuse_if (ragged core_layout core) (NotWhole 0)
    (refuse_at (first_not_element core (length core)) NotElement
    (first_fault 0 0 (records_of file)))

abbrev pub unless_refused : Option Refusal → Agreement → Result Agreement Refusal
unless_refused none a = Ok a
unless_refused (some r) a = Err r

unfoldable pub same_for : List ℕ → List ℕ → Result Agreement Refusal
same_for core file = unless_refused (same_refusal core file) (agreement_of core file)
