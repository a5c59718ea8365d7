-- How far an operation file and a core table were found to agree.
--     Stands     where a record starts in a file without a fault
--     Agreed     what is passed of both is the same
--     Ahead      how far partners were looked for, of records whose timestamps rise
use Rattle.std.specs.Prelude.{◌≡◌, List, Bool, ◌&&◌, ℕ, ◌+◌, ◌*◌, ◌^◌, ◌≤◌, ◌<◌, leb, length}
use Rattle.std.proofs.Math.Option.{none}
use Rattle.lists.specs.Tab.{word}
use Rattle.keccak.specs.Columns.{TIMESTAMP-0, TIMESTAMP-1}
use Rattle.verdict.specs.Kind.{rows}
use Rattle.verdict.specs.CoreAndRound.{core_layout}
use Rattle.op_file.specs.File.{records_of, start_at, first_fault}
use Rattle.partners.specs.Partners.{EquallyOften}
use Rattle.same_operations.specs.Same.{file_run, core_run}
use Rattle.same_operations.specs.declared.Passed.{Passed}

-- record i starts at byte `from`; behind the last record that is the end of the file
pub record Stands (file : List ℕ) (i from : ℕ) : Type 0 where
  pub right : first_fault 0 0 (records_of file) ≡ none
  pub there : i ≤ length (records_of file)
  pub starts : from ≡ start_at (records_of file) i

-- the records and the active rows that are passed are the same, each equally often
pub record Agreed (core file : List ℕ) (p : Passed) : Type 0 where
  pub stands : Stands file p.records p.bytes
  pub within : p.rows ≤ rows core_layout core
  pub equally : EquallyOften (file_run file) (core_run core) p.records p.rows

-- the timestamp of what is compared
unfoldable pub stamp_of : List ℕ → ℕ
stamp_of x = word x TIMESTAMP-0 + 2 ^ 32 * word x TIMESTAMP-1

-- no record before record i that is not passed has a timestamp above `top`, and row `next` is not passed
pub record Ahead (core file : List ℕ) (p : Passed) (i top next : ℕ) : Type 0 where
  pub under : (k : ℕ) → p.records ≤ k → k < i → stamp_of ((file_run file).element k) ≤ top
  pub behind : p.rows ≤ next
  pub within : next ≤ rows core_layout core

-- index k is h or a later one, and passes
unfoldable pub from_on : ℕ → (ℕ → Bool) → ℕ → Bool
from_on h t k = leb h k && t k
