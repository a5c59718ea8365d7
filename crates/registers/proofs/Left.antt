-- What a charge through a register is refused and leaves, beside a charge without one.
--     register-accepted    accepted exactly where the register is in use, the charge would be accepted without it, and its ledger is elements
--     register-unused, register-as-charge, register-ledger   else by 10; then as without it; then by its ledger's first word that is p or more
--     register-counters    the counters are those that a charge without it leaves
--     own-grows, others-stay, ledgers-long   the ledgers: ten words grow mod p, every other stays, refused or not
use mathlib.Core.Bool.{Bool}
use mathlib.Core.List.{List}
use mathlib.Core.Logic.{◌↔◌}
use mathlib.Core.Option.{Option, none, some}
use mathlib.Core.Path.{◌≡◌, refl, sym, ap, subst, ◌∙◌}
use Prim.Native.Nat.{ℕ, ◌+◌, ◌*◌, ◌/◌, ◌≤◌, ◌<◌}
use lib.ListN.{length}
use Rattle.lists.specs.Tab.{word}
use Rattle.field.specs.Field.{fadd}
use Rattle.field.specs.Elements.{ElementRow, first_not_element}
use Rattle.answer.specs.Limits.{MAX-ROUNDS}
use Rattle.answer.specs.Refusal.{accepted, too_short, PowerFloor}
use Rattle.answer.specs.declared.Refusal.{Refusal}
use Rattle.answer.specs.declared.Refusal.TheVariants.{NotElement, Register}
use Rattle.answer.proofs.Laws.{kept}
use Rattle.answer.proofs.Overwrite.{left}
use Rattle.bitwise.specs.Columns.{NUM-COUNTERS}
use Rattle.bitwise.specs.Charge.{charged_counters, charged_kind}
use Rattle.segment_counts.specs.Segment.{list_charged, charge_refusal, charge_after}
use Rattle.segment_counts.proofs.Accepted.{charge-accepted}
use Rattle.segment_counts.proofs.Refusals.{charge-later}
use Rattle.registers.specs.Registers.{in_use, ledger_of, charged_ledgers, register_refusal, register_counters_after, register_ledgers_after}
use Rattle.registers.proofs.Ledgers.{in-use-is, ledgers-length, charged-own, charged-other}
use Rattle.registers.proofs.Refusals.{through-register, through-segment, through-ledger, through-accepted}
use Rattle.registers.proofs.Accepted.{through-charged, through-used, through-elements}

module _ (nr floor register : ℕ) (ops counters ledgers : List ℕ) where
  pub register-accepted : (register_refusal nr floor register ops counters ledgers ≡ accepted)
      ↔ ((register < in_use (length ledgers)) × (charge_refusal nr floor ops counters ≡ accepted) × ElementRow 10 (ledger_of ledgers register))
  register-accepted = (
    (λ e. (
      through-used nr floor register ops counters ledgers e,
      through-charged nr floor register ops counters ledgers e,
      through-elements nr floor register ops counters ledgers e,
    )),
    λ h.
        let a = (charge-accepted nr floor ops counters).0 h.1 in
        let r : (1 ≤ nr) × (nr ≤ MAX-ROUNDS) × PowerFloor floor = (a.0, a.1, a.2) in
        (through-accepted (too_short (length counters) NUM-COUNTERS) nr floor register ops counters ledgers).1 (r, h.0, sym (charge-later nr floor ops counters r) ∙ h.1, h.2),
  )

  module _ (right : (1 ≤ nr) × (nr ≤ MAX-ROUNDS) × PowerFloor floor) where
    pub register-unused : in_use (length ledgers) ≤ register → register_refusal nr floor register ops counters ledgers ≡ some (Register register)
    register-unused = through-register (too_short (length counters) NUM-COUNTERS) nr floor register ops counters ledgers right

    module _ (used : register < in_use (length ledgers)) where
      pub register-as-charge : {r : Refusal} → charge_refusal nr floor ops counters ≡ some r → register_refusal nr floor register ops counters ledgers ≡ some r
      register-as-charge e =
          through-segment (too_short (length counters) NUM-COUNTERS) nr floor register ops counters ledgers right used (sym (charge-later nr floor ops counters right) ∙ e)

      pub register-ledger : charge_refusal nr floor ops counters ≡ accepted → (k : ℕ) → first_not_element (ledger_of ledgers register) 10 ≡ some k
          → register_refusal nr floor register ops counters ledgers ≡ some (NotElement (register * 10 + k))
      register-ledger e =
          through-ledger (too_short (length counters) NUM-COUNTERS) nr floor register ops counters ledgers right used (sym (charge-later nr floor ops counters right) ∙ e)

module _ (nr floor : ℕ) (shipped : Bool) (register : ℕ) (ops counters ledgers : List ℕ) where
  abbrev f : ℕ → ℕ
  f = list_charged nr floor shipped ops

  pub register-counters : register_refusal nr floor register ops counters ledgers ≡ accepted
      → register_counters_after nr floor shipped register ops counters ledgers ≡ charge_after nr floor shipped ops counters
  register-counters ok = left (charged_counters counters f) counters ok ∙ sym (left (charged_counters counters f) counters (through-charged nr floor register ops counters ledgers ok))

  pub own-grows : register_refusal nr floor register ops counters ledgers ≡ accepted → (k : ℕ) → k < 10
      → word (register_ledgers_after nr floor shipped register ops counters ledgers) (register * 10 + k) ≡ fadd (word ledgers (register * 10 + k)) (charged_kind f k)
  own-grows ok k l =
      ap (λ (w : List ℕ). word w (register * 10 + k)) (left (charged_ledgers register ledgers f) ledgers ok)
      ∙ charged-own register ledgers f ((in-use-is (length ledgers) register).0 (through-used nr floor register ops counters ledgers ok)).0 k l

  -- refused or not
  by_answer : (P : List ℕ → Type 0) → P (charged_ledgers register ledgers f) → P ledgers → P (register_ledgers_after nr floor shipped register ops counters ledgers)
  by_answer P new old = go (register_refusal nr floor register ops counters ledgers) refl
    where
      go : (o : Option Refusal) → register_refusal nr floor register ops counters ledgers ≡ o → P (register_ledgers_after nr floor shipped register ops counters ledgers)
      go none e = subst P (sym (left (charged_ledgers register ledgers f) ledgers e)) new
      go (some r) e = subst P (kept (charged_ledgers register ledgers f) ledgers e) old

  pub others-stay : (j : ℕ) → (j / 10 ≡ register → ⊥) → word (register_ledgers_after nr floor shipped register ops counters ledgers) j ≡ word ledgers j
  others-stay j d = by_answer (λ w. word w j ≡ word ledgers j) (charged-other register ledgers f j d) refl

  pub ledgers-long : length (register_ledgers_after nr floor shipped register ops counters ledgers) ≡ length ledgers
  ledgers-long = by_answer (λ w. length w ≡ length ledgers) (ledgers-length register ledgers f) refl
