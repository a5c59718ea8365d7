-- What the call that holds a file against a core table promises (src/same_calls.rt), as Kept.antt says.
use mathlib.Core.Path.{◌≡◌}
use Rattle.same_operations.specs.Same.{same_for}
use Rattle.flat.specs.FlatJudged.{flat_agreement}
use Rattle.keccak_tables.proofs.Kept.{Kept}
use Rattle.keccak_tables.proofs.same_calls.keccak_tables_same_operations.Kinds as same-operations-kinds
use Rattle.keccak_tables.proofs.same_calls.keccak_tables_same_operations.Reads as same-operations-reads

pub record SameCalls : Type 0 where
  -- same_operations(core, file) → FlatAgreement
  pub same-operations : Kept _ same-operations-kinds.ps same-operations-kinds.r same-operations-reads.Asked same-operations-reads.Learnt (λ _ lent answer ended.
      let core = lent.0.now in
      let file = lent.1.0.now in
      answer ≡ flat_agreement (same_for core file))

pub same-calls : SameCalls
same-calls =
    record {
      same-operations = record { wants-nothing = λ _ _. tt; tells = λ _ _ _ _ e. e };
    }
