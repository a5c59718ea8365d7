-- All tuples of a core row at once: how many words they take, and what the call leaves.
use Rattle.std.specs.Prelude.{ℕ, List, length}
use Rattle.std.proofs.Math.Option.{Option}
use Rattle.answer.specs.Refusal.{answer_of, overwrite, afterwards, not_rounds}
use Rattle.answer.specs.declared.Refusal.{Refusal}
use Rattle.tuple.specs.Words.{tuples_words}
use Rattle.tuple.specs.Values.{values_refusal}
use Rattle.keccak.specs.Columns.{NUM-COLUMNS}
use Rattle.keccak.specs.Tuples.{NUM-TUPLES, core_tuple}
use Rattle.std.specs.Prelude.{Result, ⊤}

-- four for each of the 84 tuples, and their 1,121 values
abbrev pub NUM-WORDS : ℕ
NUM-WORDS = 1457

-- What `bus_interactions` refuses: 8 "nr is 0 or above 24, detail nr, before 1"; then the row as by a call for its values.
-- proofs/Refusals.antt: `tuples-accepted`, the checks pass exactly where none of these conditions holds
unfoldable pub core_tuples_refusal : ℕ → List ℕ → ℕ → Option Refusal
core_tuples_refusal nr row room = not_rounds nr (values_refusal NUM-COLUMNS NUM-WORDS row room)

-- what it answers, and what it leaves in the slice that it is lent
abbrev pub core_tuples_answer : ℕ → List ℕ → List ℕ → Result ⊤ Refusal
core_tuples_answer nr row out = answer_of (core_tuples_refusal nr row (length out))

abbrev pub core_tuples_after : ℕ → ℕ → List ℕ → List ℕ → List ℕ
core_tuples_after nr syscall row out =
    afterwards (core_tuples_refusal nr row (length out))
    (overwrite (tuples_words (core_tuple nr syscall row) NUM-TUPLES) out) out
