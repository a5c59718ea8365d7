-- `dedup_is_wh_rows`: what it refuses, what it answers, and what it leaves in the memory that it is lent.
use Rattle.std.specs.Prelude.{ℕ, ◌*◌, ◌/◌, List, length}
use Rattle.std.proofs.Math.Option.{Option}
use Rattle.answer.specs.Refusal.{accepted, too_short, number_of, overwrite, afterwards}
use Rattle.answer.specs.declared.Refusal.{Refusal}
use Rattle.sort.specs.Sorted.{sorted}
use Rattle.is_wh_rows.specs.Lists.{KEY-SIZE, ROW-SIZE, too_many_in, ragged_in, bad_in}
use Rattle.is_wh_rows.specs.Loads.{loads}
use Rattle.is_wh_rows.specs.Rows.{codes, rows_of, flat}
use Rattle.std.specs.Prelude.{Result}

abbrev pub key_count : List ℕ → ℕ
key_count keys = length keys / KEY-SIZE

-- `codes`, `spare` and `rows` words are lent. 3: one word a key in the first two; three words a key for the rows, of which
-- there are no more than keys (proofs/Refusals.antt: `rows_few`)
unfoldable pub dedup_refusal : ℕ → ℕ → ℕ → List ℕ → Option Refusal
dedup_refusal codes spare rows keys =
    too_many_in KEY-SIZE keys
    (ragged_in KEY-SIZE keys
    (too_short codes (key_count keys)
    (too_short spare (key_count keys)
    (too_short rows (ROW-SIZE * key_count keys)
    (bad_in KEY-SIZE keys
    accepted)))))

-- the answer: how many rows
unfoldable pub dedup_answer : ℕ → ℕ → ℕ → List ℕ → Result ℕ Refusal
dedup_answer room spare rows keys = number_of (length (rows_of (codes keys))) (dedup_refusal room spare rows keys)

-- what is left in `lent`, which is `codes` or `spare`: the loads in ascending order
unfoldable pub loads_after : ℕ → ℕ → ℕ → List ℕ → List ℕ → List ℕ
loads_after room spare rows keys lent = afterwards (dedup_refusal room spare rows keys) (overwrite (sorted (loads keys)) lent) lent

-- what is left in `rows`
unfoldable pub rows_after : ℕ → ℕ → List ℕ → List ℕ → List ℕ
rows_after room spare keys rows =
    afterwards (dedup_refusal room spare (length rows) keys) (overwrite (flat (rows_of (codes keys))) rows) rows
