-- What the call of a month promises (src/month_calls.rt), as Kept.antt says.
use mathlib.Core.Path.{◌≡◌}
use lib.ListN.{length}
use Rattle.answer.specs.Refusal.{answer_of}
use Rattle.month.specs.Month.{month_refusal, month_after}
use Rattle.flat.specs.Flat.{flat_answer}
use Rattle.keccak_tables.proofs.Kept.{Kept}
use Rattle.keccak_tables.proofs.month_calls.keccak_tables_month.Kinds as month-kinds
use Rattle.keccak_tables.proofs.month_calls.keccak_tables_month.Reads as month-reads

pub record MonthCalls : Type 0 where
  -- month(nr, floor, counts, out) → FlatAnswer
  pub month : Kept _ month-kinds.ps month-kinds.r month-reads.Asked month-reads.Learnt (λ _ lent answer ended.
      let nr = lent.0 in
      let floor = lent.1.0 in
      let counts = lent.1.1.0.now in
      let out = lent.1.1.1.0.now in
      let out' = ended.1.1.1.0.now in
      (answer ≡ flat_answer (answer_of (month_refusal nr floor counts (length out))))
      × (out' ≡ month_after nr floor counts out))

pub month-calls : MonthCalls
month-calls =
    record {
      month = record { wants-nothing = λ _ _. tt; tells = λ _ _ _ _ e. e };
    }
