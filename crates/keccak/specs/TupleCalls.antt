-- `bus_interaction`, a tuple of a core row by its index, for operations of nr rounds: what it refuses and answers, and
-- what it leaves in the slice that it is lent.
use Rattle.std.specs.Prelude.{ℕ, List}
use Rattle.std.proofs.Math.Option.{Option}
use Rattle.answer.specs.Refusal.{overwrite, afterwards, not_rounds}
use Rattle.answer.specs.declared.Refusal.{Refusal}
use Rattle.tuple.specs.Call.{tuple_refusal, tuple_answer}
use Rattle.keccak.specs.Columns.{NUM-COLUMNS}
use Rattle.keccak.specs.Tuples.{NUM-TUPLES, core_tuple}
use Rattle.std.specs.Prelude.{Result}
use Rattle.tuple.specs.declared.BusInteraction.{BusInteraction}

-- 8: "nr is 0 or above 24, detail nr, before 1"; then as every call for a tuple. proofs/TupleCalls.antt:
-- `tuple-accepted`, the checks pass exactly where none of these conditions holds
unfoldable pub core_tuple_refusal : ℕ → ℕ → List ℕ → ℕ → List ℕ → Option Refusal
core_tuple_refusal nr syscall row i out = not_rounds nr (tuple_refusal NUM-COLUMNS NUM-TUPLES (core_tuple nr syscall) row i out)

abbrev pub core_tuple_answer : ℕ → ℕ → List ℕ → ℕ → List ℕ → Result BusInteraction Refusal
core_tuple_answer nr syscall row i out = tuple_answer (core_tuple nr syscall row i) (core_tuple_refusal nr syscall row i out)

abbrev pub core_tuple_after : ℕ → ℕ → List ℕ → ℕ → List ℕ → List ℕ
core_tuple_after nr syscall row i out =
    afterwards (core_tuple_refusal nr syscall row i out) (overwrite (core_tuple nr syscall row i).values out) out
