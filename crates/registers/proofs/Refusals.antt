-- What a call through a register refuses: the checks as code makes them, when none refuses, and each refusal with its detail.
--     through-accepted     exactly where none of the conditions holds
--     through-no-rounds, through-many-rounds, through-floor   8 first of all, then 9
--     through-register     then 10, with the register's number
--     through-segment      then as without a register
--     through-ledger       then 5 of the register's own ledger, with the place in all ledger words
--     through-alike        of the ledgers, how many words there are and the register's own ledger decide
use mathlib.Core.List.{List}
use mathlib.Core.Logic.{◌↔◌}
use mathlib.Core.Option.{Option, none, some, or_else}
use mathlib.Core.Path.{◌≡◌, refl, ap, ◌∙◌}
use mathlib.Mathlib.Data.Option.Basic.{or_else-eq-none}
use Prim.Native.Nat.{ℕ, ◌+◌, ◌*◌, ◌≤◌, ◌<◌}
use native.Mathlib.Omega.{arith}
use borrow.Author.Tests.{leb-false, le-leb, lt-leb}
use lib.ListN.{length}
use Rattle.lists.proofs.Laws.{length-row_at}
use Rattle.field.specs.Elements.{first_not_element, ElementRow}
use Rattle.field.proofs.NotElement.{all-elements, none_found}
use Rattle.answer.specs.Limits.{MAX-ROUNDS}
use Rattle.answer.specs.Refusal.{accepted, refuse_at, answer_of, not_rounds, not_floor, PowerFloor}
use Rattle.answer.specs.declared.Refusal.{Refusal}
use Rattle.answer.specs.declared.Refusal.TheVariants.{NotElement, Rounds, Floor, Register}
use Rattle.answer.proofs.Laws.{refuse-yes, refuse-no, at-yes, at-no, passed-if, passed-at}
use Rattle.answer.proofs.Refusals.{rounds-later, many-rounds-refused, no-rounds-refused, floor-refused, both_later, both-passed, both-stop}
use Rattle.segment_counts.specs.Segment.{segment_refusal}
use Rattle.registers.specs.Registers.{in_use, ledger_of, not_register, own_refusal, through_refusal}
use Rattle.std.specs.Prelude.{Result, Err, ⊤}

-- ---- the register's own ledger
module _ (register : ℕ) (ledgers : List ℕ) where
  pub own-accepted : (own_refusal register ledgers ≡ accepted) ↔ ElementRow 10 (ledger_of ledgers register)
  unfolding own_refusal
  own-accepted = (
    (λ e. record { long = long; below = all-elements (ledger_of ledgers register) 10 (passed-at _ _ _ e).0 }),
    λ h. at-no _ (none_found (ledger_of ledgers register) 10 h.below) refl,
  )
    where
      long : 10 ≤ length (ledger_of ledgers register)
      long = omega (arith, length-row_at 10 ledgers register)

  pub own-refused : (k : ℕ) → first_not_element (ledger_of ledgers register) 10 ≡ some k → own_refusal register ledgers ≡ some (NotElement (register * 10 + k))
  unfolding own_refusal
  own-refused k e = at-yes _ accepted e

  pub own-passed : first_not_element (ledger_of ledgers register) 10 ≡ none → own_refusal register ledgers ≡ none
  unfolding own_refusal
  own-passed e = at-no _ e refl

-- ---- a call
module _ (short : Option Refusal → Option Refusal) (nr floor register : ℕ) (ops counters ledgers : List ℕ) where
  abbrev told : Option Refusal
  told = through_refusal short nr floor register ops counters ledgers

  -- 8 and 9
  pub through-many-rounds : MAX-ROUNDS < nr → told ≡ some (Rounds nr)
  unfolding through_refusal
  through-many-rounds = many-rounds-refused nr _

  pub through-floor : 1 ≤ nr → nr ≤ MAX-ROUNDS → (PowerFloor floor → ⊥) → told ≡ some (Floor floor)
  unfolding through_refusal
  through-floor one most h = rounds-later nr _ one most ∙ floor-refused floor _ h

  pub parameters-stop : {a : Result ⊤ Refusal} {q : Refusal} → a ≡ answer_of (not_rounds nr (not_floor floor accepted)) → a ≡ Err q → told ≡ some q
  unfolding through_refusal
  parameters-stop e h = both-stop nr floor e _ h

  module _ (right : (1 ≤ nr) × (nr ≤ MAX-ROUNDS) × PowerFloor floor) where
    -- 10
    pub through-register : in_use (length ledgers) ≤ register → told ≡ some (Register register)
    unfolding through_refusal
    through-register h = both_later nr floor _ right ∙ refuse-yes _ _ (le-leb (in_use (length ledgers)) register h)

    module _ (used : register < in_use (length ledgers)) where
      through-later : told ≡ or_else (segment_refusal short ops counters) (own_refusal register ledgers)
      unfolding through_refusal
      through-later = both_later nr floor _ right ∙ refuse-no _ (lt-leb (in_use (length ledgers)) register used) refl

      -- the others, and then 5
      pub through-segment : {q : Refusal} → segment_refusal short ops counters ≡ some q → told ≡ some q
      unfolding or_else
      through-segment e = through-later ∙ ap (λ (o : Option Refusal). or_else o (own_refusal register ledgers)) e

      pub through-own : segment_refusal short ops counters ≡ none → told ≡ own_refusal register ledgers
      unfolding or_else
      through-own e = through-later ∙ ap (λ (o : Option Refusal). or_else o (own_refusal register ledgers)) e

      pub through-ledger : segment_refusal short ops counters ≡ none → (k : ℕ) → first_not_element (ledger_of ledgers register) 10 ≡ some k → told ≡ some (NotElement (register * 10 + k))
      through-ledger e k f = through-own e ∙ own-refused register ledgers k f

  pub through-accepted : (told ≡ accepted)
      ↔ (((1 ≤ nr) × (nr ≤ MAX-ROUNDS) × PowerFloor floor) × (register < in_use (length ledgers)) × (segment_refusal short ops counters ≡ accepted) × ElementRow 10 (ledger_of ledgers register))
  unfolding through_refusal
  through-accepted = (
    (λ e.
        let a = both-passed nr floor _ e in
        let b = passed-if _ _ _ a.1 in
        let c = (or_else-eq-none (segment_refusal short ops counters) (own_refusal register ledgers)).0 b.1 in
        (a.0, leb-false (in_use (length ledgers)) register b.0, c.0, (own-accepted register ledgers).0 c.1)),
    λ h. through-own h.0 h.1 h.2 ∙ (own-accepted register ledgers).1 h.3,
  )

pub through-no-rounds : (short : Option Refusal → Option Refusal) (floor register : ℕ) (ops counters ledgers : List ℕ) → through_refusal short 0 floor register ops counters ledgers ≡ some (Rounds 0)
unfolding through_refusal
through-no-rounds short floor register ops counters ledgers = no-rounds-refused _

-- whatever stands in the other ledgers
pub through-alike : (short short' : Option Refusal → Option Refusal) (nr floor register : ℕ) (ops C D L M : List ℕ) → segment_refusal short ops C ≡ segment_refusal short' ops D
    → length L ≡ length M → ledger_of L register ≡ ledger_of M register
    → through_refusal short nr floor register ops C L ≡ through_refusal short' nr floor register ops D M
unfolding through_refusal own_refusal
through-alike short short' nr floor register ops C D L M e room own = λ t.
    not_rounds nr
    (not_floor floor
    (not_register register (room t)
    (or_else (e t)
    (refuse_at (first_not_element (own t) 10) (λ k. NotElement (register * 10 + k)) accepted))))
