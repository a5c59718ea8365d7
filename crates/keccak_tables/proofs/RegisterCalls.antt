-- What the calls that charge a register promise (src/register_calls.rt), as Kept.antt says.
use mathlib.Core.Path.{◌≡◌}
use lib.ListN.{length}
use Rattle.answer.specs.Refusal.{answer_of}
use Rattle.registers.specs.Registers.{register_refusal, register_counters_after, register_ledgers_after, register_look_refusal, register_look_copy_after, register_look_out_after}
use Rattle.flat.specs.Flat.{flat_answer}
use Rattle.keccak_tables.proofs.Kept.{Kept}
use Rattle.keccak_tables.proofs.register_calls.keccak_tables_register_charge.Kinds as register-charge-kinds
use Rattle.keccak_tables.proofs.register_calls.keccak_tables_register_charge.Reads as register-charge-reads
use Rattle.keccak_tables.proofs.register_calls.keccak_tables_register_look.Kinds as register-look-kinds
use Rattle.keccak_tables.proofs.register_calls.keccak_tables_register_look.Reads as register-look-reads

pub record RegisterCalls : Type 0 where
  -- register_charge(nr, floor, shipped, register, ops, counters, ledgers) → FlatAnswer
  pub register-charge : Kept _ register-charge-kinds.ps register-charge-kinds.r register-charge-reads.Asked register-charge-reads.Learnt (λ _ lent answer ended.
      let nr = lent.0 in
      let floor = lent.1.0 in
      let shipped = lent.1.1.0 in
      let register = lent.1.1.1.0 in
      let ops = lent.1.1.1.1.0.now in
      let counters = lent.1.1.1.1.1.0.now in
      let ledgers = lent.1.1.1.1.1.1.0.now in
      let counters' = ended.1.1.1.1.1.0.now in
      let ledgers' = ended.1.1.1.1.1.1.0.now in
      (answer ≡ flat_answer (answer_of (register_refusal nr floor register ops counters ledgers)))
      × ((counters' ≡ register_counters_after nr floor shipped register ops counters ledgers)
      × (ledgers' ≡ register_ledgers_after nr floor shipped register ops counters ledgers)))
  -- register_look(nr, floor, shipped, register, ops, counters, ledgers, copy, out) → FlatAnswer
  pub register-look : Kept _ register-look-kinds.ps register-look-kinds.r register-look-reads.Asked register-look-reads.Learnt (λ _ lent answer ended.
      let nr = lent.0 in
      let floor = lent.1.0 in
      let shipped = lent.1.1.0 in
      let register = lent.1.1.1.0 in
      let ops = lent.1.1.1.1.0.now in
      let counters = lent.1.1.1.1.1.0.now in
      let ledgers = lent.1.1.1.1.1.1.0.now in
      let copy = lent.1.1.1.1.1.1.1.0.now in
      let out = lent.1.1.1.1.1.1.1.1.0.now in
      let copy' = ended.1.1.1.1.1.1.1.0.now in
      let out' = ended.1.1.1.1.1.1.1.1.0.now in
      (answer ≡ flat_answer (answer_of (register_look_refusal nr floor register ops counters ledgers (length copy) (length out))))
      × ((copy' ≡ register_look_copy_after nr floor shipped register ops counters ledgers copy (length out))
      × (out' ≡ register_look_out_after nr floor shipped register ops counters ledgers (length copy) out)))

pub register-calls : RegisterCalls
register-calls =
    record {
      register-charge = record { wants-nothing = λ _ _. tt; tells = λ _ _ _ _ e. e };
      register-look = record { wants-nothing = λ _ _. tt; tells = λ _ _ _ _ e. e };
    }
