-- What an accepted call knows.
--     through-charged, through-used, through-elements   a charge would be accepted without the register, the register is in use, and its ledger
--                                    is field elements
--     register-look-refused          where copy and out are long enough, a look is refused exactly as a charge
--     register-look-accepted         and is accepted exactly then and where the charge is
--     charge-known, look_known       what the functions ask that an accepted call runs
use mathlib.Core.List.{List}
use mathlib.Core.Logic.{◌↔◌}
use mathlib.Core.Option.{none}
use mathlib.Core.Path.{◌≡◌, refl, sym, ◌∙◌}
use Prim.Native.Nat.{ℕ, ◌+◌, ◌*◌, ◌≤◌, ◌<◌}
use lib.ListN.{length}
use Rattle.field.specs.Elements.{ElementRow}
use Rattle.answer.specs.Limits.{MAX-OPS, MAX-ROUNDS}
use Rattle.answer.specs.Refusal.{accepted, too_short}
use Rattle.bitwise.specs.Columns.{NUM-COUNTERS}
use Rattle.keccak.specs.Row.{LAST-ADDRESS}
use Rattle.keccak.specs.Refusals.{op_count, address_at}
use Rattle.segment_counts.specs.Segment.{look_short, charge_refusal}
use Rattle.segment_counts.proofs.Accepted.{look-long, look-rooms}
use Rattle.segment_counts.proofs.Refusals.{charge-later, charge-passed}
use Rattle.registers.specs.Registers.{in_use, ledger_of, REGISTER-LOOK-WORDS, register_refusal, register_look_refusal}
use Rattle.registers.proofs.Ledgers.{in-use-is}
use Rattle.registers.proofs.Refusals.{through-accepted, through-alike}

module _ (nr floor register : ℕ) (ops counters ledgers : List ℕ) where
  module _ (ok : register_refusal nr floor register ops counters ledgers ≡ none) where
    pub through-charged : charge_refusal nr floor ops counters ≡ none
    through-charged =
        let a = (through-accepted (too_short (length counters) NUM-COUNTERS) nr floor register ops counters ledgers).0 ok in
        charge-later nr floor ops counters a.0 ∙ a.2

    pub through-used : register < in_use (length ledgers)
    through-used = ((through-accepted (too_short (length counters) NUM-COUNTERS) nr floor register ops counters ledgers).0 ok).1

    pub through-elements : ElementRow 10 (ledger_of ledgers register)
    through-elements = ((through-accepted (too_short (length counters) NUM-COUNTERS) nr floor register ops counters ledgers).0 ok).3

    pub charge-known : ((nr ≤ MAX-ROUNDS) × (floor ≤ 65536) × (op_count ops ≤ MAX-OPS) × ElementRow NUM-COUNTERS counters × ((i : ℕ) → i < op_count ops → address_at ops i ≤ LAST-ADDRESS))
        × (register * 10 + 10 ≤ length ledgers) × ElementRow 10 (ledger_of ledgers register)
    charge-known = (charge-passed nr floor ops counters through-charged, ((in-use-is (length ledgers) register).0 through-used).0, through-elements)

  -- ---- the look
  module _ (copy out : ℕ) where
    pub register-look-refused : NUM-COUNTERS ≤ copy → REGISTER-LOOK-WORDS ≤ out → register_look_refusal nr floor register ops counters ledgers copy out ≡ register_refusal nr floor register ops counters ledgers
    register-look-refused h g = through-alike _ _ nr floor register ops counters counters ledgers ledgers (look-long REGISTER-LOOK-WORDS ops counters copy out h g) refl refl

    pub register-look-accepted : (register_look_refusal nr floor register ops counters ledgers copy out ≡ accepted)
        ↔ ((NUM-COUNTERS ≤ copy) × (REGISTER-LOOK-WORDS ≤ out) × (register_refusal nr floor register ops counters ledgers ≡ accepted))
    register-look-accepted = (
      (λ e.
          let r = look-rooms REGISTER-LOOK-WORDS ops counters copy out ((through-accepted (look_short REGISTER-LOOK-WORDS (length counters) copy out) nr floor register ops counters ledgers).0 e).2 in
          (r.0, r.1, sym (register-look-refused r.0 r.1) ∙ e)),
      λ h. register-look-refused h.0 h.1 ∙ h.2,
    )

    pub look_known : register_look_refusal nr floor register ops counters ledgers copy out ≡ none
        → (nr ≤ MAX-ROUNDS) × (floor ≤ 65536) × (op_count ops ≤ MAX-OPS) × ElementRow NUM-COUNTERS counters × ((i : ℕ) → i < op_count ops → address_at ops i ≤ LAST-ADDRESS)
        × (NUM-COUNTERS ≤ copy) × (REGISTER-LOOK-WORDS ≤ out) × (register * 10 + 10 ≤ length ledgers) × ElementRow 10 (ledger_of ledgers register)
    look_known e =
        let a = register-look-accepted.0 e in
        let b = charge-known a.2 in
        let c = b.0 in
        (c.0, c.1, c.2, c.3, c.4, a.0, a.1, b.1, b.2)
