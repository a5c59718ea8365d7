-- The refusals of a month: 8, 9, 14, 1, 3, each on its condition only and with its detail.
--     month-accepted        passes exactly where the month is planned and its 39 words are lent
--     month-rounds, month-floor   8 and 9 come first, and else the later checks decide
--     month-files           14
--     month-past            1
--     month-short           3
use mathlib.Core.Path.{◌≡◌, refl, sym, ◌∙◌}
use mathlib.Core.Bool.{Bool, true, false}
use mathlib.Core.List.{List}
use mathlib.Core.Logic.{◌↔◌}
use mathlib.Core.Option.{Option, some}
use Prim.Native.Nat.{ℕ, ◌+◌, ◌≤◌, ◌<◌}
use borrow.Author.Tests.{lt-ltb, le-ltb, ltb-false, ltb-true}
use lib.Dec.{ltb}
use lib.ListN.{length}
use Rattle.lists.specs.Tab.{word}
use Rattle.lists.specs.First.{any_below}
use Rattle.lists.specs.Failure.{Separates}
use Rattle.lists.proofs.Failure.{separates-any}
use Rattle.answer.specs.Limits.{MAX-OPS, MAX-ROUNDS}
use Rattle.answer.specs.Refusal.{accepted, refuse_if, too_short, not_rounds, not_floor, PowerFloor}
use Rattle.answer.specs.declared.Refusal.{Refusal}
use Rattle.answer.specs.declared.Refusal.TheVariants.{PastEnd, TooShort, Files}
use Rattle.answer.proofs.Laws.{refuse-yes, refuse-no, passed-if}
use Rattle.answer.proofs.Refusals.{both_later, both-passed, room-accepted, room-refused}
use Rattle.month.specs.Month.{MAX-FILES, MONTH-WORDS, month_refusal, Planned}

-- the checks after 8 and 9, by the number of files, whether a count is past the most, and the room
abbrev pub later-checks : ℕ → Bool → ℕ → Option Refusal
later-checks files past room =
    refuse_if (ltb MAX-FILES files) (Files files) (refuse_if past (PastEnd (MAX-OPS + 1)) (too_short room MONTH-WORDS accepted))

abbrev pub any_past : List ℕ → Bool
any_past counts = any_below (λ i. ltb MAX-OPS (word counts i)) (length counts)

pub month-checks : (nr floor : ℕ) (counts : List ℕ) (room : ℕ) → month_refusal nr floor counts room ≡ not_rounds nr (not_floor floor (later-checks (length counts) (any_past counts) room))
unfolding month_refusal
month-checks nr floor counts room = refl

module _ (nr floor : ℕ) (counts : List ℕ) (room : ℕ) where
  pub month-later : (1 ≤ nr) × (nr ≤ MAX-ROUNDS) × PowerFloor floor → month_refusal nr floor counts room ≡ later-checks (length counts) (any_past counts) room
  month-later h = month-checks nr floor counts room ∙ both_later nr floor _ h

  -- a count past the most, or none
  past : Separates (any_past counts) ((i : ℕ) × (i < length counts) × (MAX-OPS < word counts i)) ((i : ℕ) → i < length counts → word counts i ≤ MAX-OPS)
  past =
      separates-any (λ i. ltb MAX-OPS (word counts i)) (length counts)
      (λ i l. record { fails = ltb-true _ _; holds = ltb-false _ _; is_true = lt-ltb _ _; is_false = le-ltb _ _ })

  module _ (h : (1 ≤ nr) × (nr ≤ MAX-ROUNDS) × PowerFloor floor) where
    pub month-files : MAX-FILES < length counts → month_refusal nr floor counts room ≡ some (Files (length counts))
    month-files f = month-later h ∙ refuse-yes _ _ (lt-ltb _ _ f)

    -- by the test that the code makes, and by a count
    module _ (f : length counts ≤ MAX-FILES) where
      pub month-any : any_past counts ≡ true → month_refusal nr floor counts room ≡ some (PastEnd 89478486)
      month-any e = month-later h ∙ refuse-no _ (le-ltb _ _ f) (refuse-yes _ _ e)

      pub month-none : any_past counts ≡ false → month_refusal nr floor counts room ≡ too_short room MONTH-WORDS accepted
      month-none e = month-later h ∙ refuse-no _ (le-ltb _ _ f) (refuse-no _ e refl)

      pub month-past : (i : ℕ) → i < length counts → MAX-OPS < word counts i → month_refusal nr floor counts room ≡ some (PastEnd 89478486)
      month-past i l k = month-any (past.is_true (i, l, k))

  pub month-short : month_refusal nr floor counts room ≡ too_short room MONTH-WORDS accepted → room < MONTH-WORDS → month_refusal nr floor counts room ≡ some (TooShort MONTH-WORDS)
  month-short e l = e ∙ room-refused room MONTH-WORDS _ l

  pub month-accepted : (month_refusal nr floor counts room ≡ accepted) ↔ (Planned nr floor counts × (MONTH-WORDS ≤ room))
  month-accepted = (
    (λ e.
        let a = both-passed nr floor _ (sym (month-checks nr floor counts room) ∙ e) in
        let b = passed-if _ _ _ a.1 in
        let d = passed-if _ _ _ b.1 in (
          record {
            rounds = a.0.0;
            most-rounds = a.0.1;
            power = a.0.2;
            few = ltb-false _ _ b.0;
            each = past.holds d.0;
          },
          (room-accepted room MONTH-WORDS).0 d.1,
        )),
    λ p. month-none (p.0.rounds, p.0.most-rounds, p.0.power) p.0.few (past.is_false p.0.each) ∙ (room-accepted room MONTH-WORDS).1 p.1,
  )
