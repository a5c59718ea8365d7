-- Charges one after the other, through registers or not: what they leave and what they answer, by what each call leaves and answers.
--     Call          a charge, through a register (`through`) or through none (`plain`: `charge` of segment_counts)
--     State         the lent counters and ledgers
--     refusal_of, step_after    what a call refuses in a state, and the state that it leaves
--     history_after  the state after calls, the first of them first
--     calls_of, answers_to      the calls of a register among them, and what they are answered
--     lookups_in     the lookups that they charge in all
--     counter_sum, ledger_sum   of a kind, what its counters and what the ledgers in use add up to
--     Zero, OnlyThrough       what is supposed where counters and ledgers are to add up
-- proofs/AddUp.antt, proofs/Alone.antt: what is proved of them.
use Rattle.std.specs.Prelude.{ℕ, ◌+◌, ◌*◌, ◌<◌, Bool, false, List, [], ◌∷◌, ◌≡◌, eqb, length}
use Rattle.std.proofs.Math.Option.{Option, none, some}
use Rattle.lists.specs.Tab.{word}
use Rattle.lists.specs.Sum.{sum_below}
use Rattle.lists.specs.Select.{cons_if, selected}
use Rattle.answer.specs.Refusal.{answer_of}
use Rattle.answer.specs.declared.Refusal.{Refusal}
use Rattle.bitwise.specs.Columns.{NUM-ROWS, NUM-LOOKUP-TYPES, NUM-COUNTERS}
use Rattle.bitwise.specs.Charge.{charged_kind}
use Rattle.segment_counts.specs.Segment.{list_charged, charge_refusal, charge_after}
use Rattle.registers.specs.Registers.{in_use, register_refusal, register_counters_after, register_ledgers_after}
use Rattle.std.specs.Prelude.{Result, ⊤}

-- what a call is handed beside counters, ledgers and register
pub record Charge : Type 0 where
  pub nr : ℕ
  pub floor : ℕ
  pub shipped : Bool
  pub ops : List ℕ

pub data Call : Type 0 where
  plain : Charge → Call
  through : ℕ → Charge → Call

pub record State : Type 0 where
  pub counters : List ℕ
  pub ledgers : List ℕ

-- ---- one call
unfoldable pub refusal_of : State → Call → Option Refusal
refusal_of s (plain x) = charge_refusal x.nr x.floor x.ops s.counters
refusal_of s (through register x) = register_refusal x.nr x.floor register x.ops s.counters s.ledgers

unfoldable pub step_after : State → Call → State
step_after s (plain x) =
    record {
      counters = charge_after x.nr x.floor x.shipped x.ops s.counters;
      ledgers = s.ledgers;
    }
step_after s (through register x) =
    record {
      counters = register_counters_after x.nr x.floor x.shipped register x.ops s.counters s.ledgers;
      ledgers = register_ledgers_after x.nr x.floor x.shipped register x.ops s.counters s.ledgers;
    }

-- ---- calls one after the other
unfoldable pub history_after : State → List Call → State
history_after s [] = s
history_after s (x ∷ xs) = history_after (step_after s x) xs

-- whether a call is made through a register
unfoldable pub is_of : ℕ → Call → Bool
is_of register (plain x) = false
is_of register (through q x) = eqb q register

abbrev pub calls_of : ℕ → List Call → List Call
calls_of register xs = selected (is_of register) xs

unfoldable pub answers_to : ℕ → State → List Call → List (Result ⊤ Refusal)
answers_to register s [] = []
answers_to register s (x ∷ xs) =
    cons_if (is_of register x) (answer_of (refusal_of s x)) (answers_to register (step_after s x) xs)

-- ---- "fewer than p lookups in all": what the calls that are not refused charge, of all kinds
unfoldable pub lookups_of : Charge → ℕ
lookups_of x = sum_below NUM-LOOKUP-TYPES (charged_kind (list_charged x.nr x.floor x.shipped x.ops))

abbrev pub unless_refused : Option Refusal → ℕ → ℕ
unless_refused none n = n
unless_refused (some r) n = 0

abbrev pub charge_of : Call → Charge
charge_of (plain x) = x
charge_of (through register x) = x

unfoldable pub lookups_in : State → List Call → ℕ
lookups_in s [] = 0
lookups_in s (x ∷ xs) = unless_refused (refusal_of s x) (lookups_of (charge_of x)) + lookups_in (step_after s x) xs

-- ---- "each kind's counters add up to that kind's sums over the ledgers": as whole numbers, over all rows and over the registers in use
unfoldable pub counter_sum : State → ℕ → ℕ
counter_sum s k = sum_below NUM-ROWS (λ r. word s.counters (r * NUM-LOOKUP-TYPES + k))

unfoldable pub ledger_sum : State → ℕ → ℕ
ledger_sum s k = sum_below (in_use (length s.ledgers)) (λ q. word s.ledgers (q * NUM-LOOKUP-TYPES + k))

-- "From counters and ledgers all zero": words past them may be any
pub record Zero (s : State) : Type 0 where
  pub no-counts : (c : ℕ) → c < NUM-COUNTERS → word s.counters c ≡ 0
  pub no-sums : (j : ℕ) → j < in_use (length s.ledgers) * NUM-LOOKUP-TYPES → word s.ledgers j ≡ 0

-- "with only charges through registers writing"
abbrev pub OnlyThrough : List Call → Type 0
OnlyThrough [] = Unit {0}
OnlyThrough (plain x ∷ xs) = ⊥
OnlyThrough (through register x ∷ xs) = OnlyThrough xs
