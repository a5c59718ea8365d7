-- A whole operation file and the flat list of its operations, both ways.
use Rattle.std.specs.Prelude.{ℕ, ◌*◌, List, length}
use Rattle.std.proofs.Math.Option.{Option, or_else}
use Rattle.lists.specs.Sum.{sum_below}
use Rattle.lists.specs.Tab.{tab}
use Rattle.answer.specs.Refusal.{accepted, overwrite, afterwards, too_short}
use Rattle.answer.specs.declared.Refusal.{Refusal}
use Rattle.keccak.specs.Row.{OP-WORDS}
use Rattle.keccak.specs.Refusals.{op_count, operations_refusal}
use Rattle.op_file.specs.File.{record_size, records_of, bytes_of, first_fault, file_words}
use Rattle.op_list.specs.Record.{is_numbered, record_bytes, words_from}

-- `read_operations`: the file as `tally` refuses it; then 3, a list too short for the words. "Old operation files that
-- hold one stay readable": its words are those of every record, and what takes the list then refuses it
unfoldable pub read_refusal : List ℕ → ℕ → Option Refusal
read_refusal file room =
    or_else (first_fault 0 0 (records_of file)) (too_short room (length (records_of file) * OP-WORDS) accepted)

-- what it leaves in the list that it is lent
abbrev pub read_after : List ℕ → List ℕ → List ℕ
read_after file ops = afterwards (read_refusal file (length ops)) (overwrite (file_words file) ops) ops

-- the records of the first n operations of a list, and the file of them all
abbrev pub records_for : List ℕ → ℕ → List (List ℕ)
records_for ops n = tab n (λ i. record_bytes (words_from ops (i * OP-WORDS)))

unfoldable pub file_bytes : List ℕ → List ℕ
file_bytes ops = bytes_of (records_for ops (op_count ops))

-- how many bytes these are: 418 for an operation of segment 0 and 422 for any other (proofs/Files.antt: `file-length`)
unfoldable pub bytes_for : List ℕ → ℕ → ℕ
bytes_for ops n = sum_below n (λ i. record_size (is_numbered (words_from ops (i * OP-WORDS))))

-- `write_operations`: 1, 2, 3, 4, 7 and 11 as in every call that takes a list of operations
unfoldable pub write_refusal : ℕ → List ℕ → Option Refusal
write_refusal room ops = operations_refusal room (bytes_for ops (op_count ops)) ops

-- what it leaves in the bytes that it is lent
abbrev pub write_after : List ℕ → List ℕ → List ℕ
write_after ops file = afterwards (write_refusal (length file) ops) (overwrite (file_bytes ops) file) file
