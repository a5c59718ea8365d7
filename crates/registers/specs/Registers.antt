-- Several registers on one counter table: "Registers charge the same bitwise counters, each with a ledger of ten sums; in use are as many as
-- whole ledgers stand in the lent words, 16 at most."
--     in_use               how many registers are in use where so many ledger words are lent
--     ledger_of            a register's ledger
--     charged_ledger       a register's ledger after a charge; charged_ledgers all ledger words after it
--     through_refusal      what every call refuses that charges through a register
--     register_refusal, register_counters_after, register_ledgers_after   what `charge` of a register refuses, and what it leaves in the counters and
--                         in the ledgers
--     register_look_refusal, register_look_copy_after, register_look_out_after   the same of `look`, which leaves both as they are
-- What is charged, and what is refused for the list and the counters, is that of `charge` and `look` without a register
-- (segment_counts/specs/Segment.antt).
use Rattle.std.specs.Prelude.{ℕ, ◌+◌, ◌*◌, ◌/◌, ◌%◌, Bool, List, ◌++◌, leb, ltb, length}
use Rattle.std.proofs.Math.Option.{Option, or_else}
use Rattle.std.proofs.lemmas.List.Edits.{sets}
use Rattle.lists.specs.Tab.{pick, tab, word, row_at}
use Rattle.field.specs.Field.{p}
use Rattle.field.specs.Elements.{first_not_element}
use Rattle.answer.specs.Refusal.{refuse_if, refuse_at, accepted, too_short, not_rounds, not_floor, overwrite, afterwards}
use Rattle.answer.specs.declared.Refusal.{Refusal}
use Rattle.answer.specs.declared.Refusal.TheVariants.{NotElement, Register}
use Rattle.bitwise.specs.Columns.{NUM-LOOKUP-TYPES, NUM-COUNTERS}
use Rattle.bitwise.specs.Charge.{charged_words, charged_counters, charged_kind}
use Rattle.segment_counts.specs.Segment.{list_charged, segment_refusal, look_short, look_words}

-- ---- ledgers
abbrev pub MAX-REGISTERS : ℕ
MAX-REGISTERS = 16

-- "as many as whole ledgers stand in the lent words, 16 at most"
unfoldable pub in_use : ℕ → ℕ
in_use words = pick (ltb (words / NUM-LOOKUP-TYPES) MAX-REGISTERS) (words / NUM-LOOKUP-TYPES) MAX-REGISTERS

-- "a ledger of ten sums": the words from register · 10 on, by kind
abbrev pub ledger_of : List ℕ → ℕ → List ℕ
ledger_of ledgers register = row_at NUM-LOOKUP-TYPES ledgers register

-- "A charge adds its sums mod p": of each kind all that is added to its counters, where `added c` is added to counter c ..
unfoldable pub charged_ledger : ℕ → List ℕ → (ℕ → ℕ) → List ℕ
charged_ledger register ledgers added =
    tab NUM-LOOKUP-TYPES (λ k. (word ledgers (register * NUM-LOOKUP-TYPES + k) + charged_kind added k) % p)

-- .. "to its own ledger only": every other word is as it was
unfoldable pub charged_ledgers : ℕ → List ℕ → (ℕ → ℕ) → List ℕ
charged_ledgers register ledgers added =
    sets ledgers (register * NUM-LOOKUP-TYPES) (charged_ledger register ledgers added)

-- ---- what is refused
-- 10: "a register number not below the number in use, detail the register number"
abbrev pub not_register : ℕ → ℕ → Option Refusal → Option Refusal
not_register register words later = refuse_if (leb (in_use words) register) (Register register) later

-- 5 of the register's own ledger, detail the place in all ledger words
unfoldable pub own_refusal : ℕ → List ℕ → Option Refusal
own_refusal register ledgers =
    refuse_at (first_not_element (ledger_of ledgers register) NUM-LOOKUP-TYPES) (λ k. NotElement (register * NUM-LOOKUP-TYPES + k))
    accepted

-- "Refused: 10 .. after 9 and before 1", then as without a register, where 3 is `short`, and "5 covers the register's own ledger after the
-- counters"
unfoldable pub through_refusal : (Option Refusal → Option Refusal) → ℕ → ℕ → ℕ → List ℕ → List ℕ → List ℕ → Option Refusal
through_refusal short nr floor register ops counters ledgers =
    not_rounds nr
    (not_floor floor
    (not_register register (length ledgers) (or_else (segment_refusal short ops counters) (own_refusal register ledgers))))

-- ---- `charge`
abbrev pub register_refusal : ℕ → ℕ → ℕ → List ℕ → List ℕ → List ℕ → Option Refusal
register_refusal nr floor register ops counters ledgers =
    through_refusal (too_short (length counters) NUM-COUNTERS) nr floor register ops counters ledgers

abbrev pub register_counters_after : ℕ → ℕ → Bool → ℕ → List ℕ → List ℕ → List ℕ → List ℕ
register_counters_after nr floor shipped register ops counters ledgers =
    afterwards (register_refusal nr floor register ops counters ledgers)
    (charged_counters counters (list_charged nr floor shipped ops)) counters

abbrev pub register_ledgers_after : ℕ → ℕ → Bool → ℕ → List ℕ → List ℕ → List ℕ → List ℕ
register_ledgers_after nr floor shipped register ops counters ledgers =
    afterwards (register_refusal nr floor register ops counters ledgers)
    (charged_ledgers register ledgers (list_charged nr floor shipped ops)) ledgers

-- ---- `look`
-- the twenty words of a look without a register, and then "its own ledger as it would then stand"
abbrev pub REGISTER-LOOK-WORDS : ℕ
REGISTER-LOOK-WORDS = 30

unfoldable pub register_look_words : ℕ → List ℕ → List ℕ → (ℕ → ℕ) → List ℕ
register_look_words register counters ledgers added = look_words counters added ++ charged_ledger register ledgers added

abbrev pub register_look_refusal : ℕ → ℕ → ℕ → List ℕ → List ℕ → List ℕ → ℕ → ℕ → Option Refusal
register_look_refusal nr floor register ops counters ledgers copy out =
    through_refusal (look_short REGISTER-LOOK-WORDS (length counters) copy out) nr floor register ops counters ledgers

abbrev pub register_look_copy_after : ℕ → ℕ → Bool → ℕ → List ℕ → List ℕ → List ℕ → List ℕ → ℕ → List ℕ
register_look_copy_after nr floor shipped register ops counters ledgers copy out =
    afterwards (register_look_refusal nr floor register ops counters ledgers (length copy) out)
    (overwrite (charged_words counters (list_charged nr floor shipped ops)) copy) copy

abbrev pub register_look_out_after : ℕ → ℕ → Bool → ℕ → List ℕ → List ℕ → List ℕ → ℕ → List ℕ → List ℕ
register_look_out_after nr floor shipped register ops counters ledgers copy out =
    afterwards (register_look_refusal nr floor register ops counters ledgers copy (length out))
    (overwrite (register_look_words register counters ledgers (list_charged nr floor shipped ops)) out) out
