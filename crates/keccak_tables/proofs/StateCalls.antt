-- What the call of the permutation promises (src/state_calls.rt), as Kept.antt says.
use mathlib.Core.Path.{◌≡◌}
use lib.ListN.{length}
use Rattle.answer.specs.Refusal.{answer_of}
use Rattle.keccak_f.specs.KeccakF.{state_refusal, state_after}
use Rattle.flat.specs.Flat.{flat_answer}
use Rattle.keccak_tables.proofs.Kept.{Kept}
use Rattle.keccak_tables.proofs.state_calls.keccak_tables_keccak_f.Kinds as keccak-f-kinds
use Rattle.keccak_tables.proofs.state_calls.keccak_tables_keccak_f.Reads as keccak-f-reads

pub record StateCalls : Type 0 where
  -- keccak_f(nr, state) → FlatAnswer
  pub keccak-f : Kept _ keccak-f-kinds.ps keccak-f-kinds.r keccak-f-reads.Asked keccak-f-reads.Learnt (λ _ lent answer ended.
      let nr = lent.0 in
      let state = lent.1.0.now in
      let state' = ended.1.0.now in
      (answer ≡ flat_answer (answer_of (state_refusal nr (length state))))
      × (state' ≡ state_after nr state))

pub state-calls : StateCalls
state-calls =
    record {
      keccak-f = record { wants-nothing = λ _ _. tt; tells = λ _ _ _ _ e. e };
    }
