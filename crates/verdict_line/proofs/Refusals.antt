-- The call's refusals: accepted exactly where the verdict is no refusal and the line fits; else 8, 2 or 5, as the verdict is
-- refused, and after them 3 with the line's length. Where LINE-MOST bytes are lent, never by 3.
use Prim.Native.Nat.{ℕ, ◌≤◌, ◌<◌}
use mathlib.Core.Path.{◌≡◌, refl, subst, ◌∙◌}
use mathlib.Core.Logic.{◌↔◌}
use mathlib.Core.Option.{Option, none, some}
use mathlib.Core.List.{List}
use native.Mathlib.Omega.{arith}
use lib.Dec.{T}
use lib.ListN.{length, take, drop}
use Rattle.lists.specs.First.{is_some}
use Rattle.answer.specs.Limits.{MAX-ROUNDS}
use Rattle.answer.specs.Refusal.{accepted}
use Rattle.answer.specs.declared.Refusal.{Refusal}
use Rattle.answer.specs.declared.Refusal.TheVariants.{TooShort, Rounds}
use Rattle.answer.proofs.Laws.{new-words, old-words}
use Rattle.answer.proofs.Refusals.{room-accepted, room-refused}
use Rattle.verdict.specs.CoreAndRound.{verdict_for}
use Rattle.verdict.specs.Failures.{NoRounds}
use Rattle.verdict.specs.declared.Verdict.{Verdict}
use Rattle.verdict.specs.declared.Verdict.TheVariants.{Refused, Value, Lookup, Repeated, Unbalanced, Holds}
use Rattle.verdict.proofs.AnyRounds.{verdict-no-rounds}
use Rattle.verdict_line.specs.Line.{LINE-MOST, Judged, refused_by, line_by, refusal_by, line_at, line_refusal, line_after}
use Rattle.verdict_line.proofs.InRange.{judged-range}
use Rattle.verdict_line.proofs.Tuples.{Small}
use Rattle.verdict_line.proofs.Most.{line-most}

-- ---- refused as a verdict is
pub judged-later : (v : Verdict) (later : Option Refusal) → Judged v → refused_by v later ≡ later
unfolding refused_by
judged-later (Value t r i) later j = refl
judged-later (Lookup t r i) later j = refl
judged-later (Repeated r) later j = refl
judged-later (Unbalanced t r i) later j = refl
judged-later (Holds n) later j = refl
judged-later (Refused r) later j = absurd j

pub refused-first : (v : Verdict) (later : Option Refusal) (r : Refusal) → v ≡ Refused r → refused_by v later ≡ some r
unfolding refused_by
refused-first v later r e = rw e

passed-judged : (v : Verdict) (later : Option Refusal) → refused_by v later ≡ none → Judged v × (later ≡ none)
unfolding refused_by
passed-judged (Value t r i) later e = (tt, e)
passed-judged (Lookup t r i) later e = (tt, e)
passed-judged (Repeated r) later e = (tt, e)
passed-judged (Unbalanced t r i) later e = (tt, e)
passed-judged (Holds n) later e = (tt, e)
passed-judged (Refused r) later e = absurd (subst (λ (o : Option Refusal). T (is_some o)) e tt)

-- ---- a call that has a verdict
module _ (nr : ℕ) (core round : List ℕ) (v : Verdict) (room : ℕ) where
  pub by-accepted : (refusal_by nr core round v room ≡ accepted) ↔ (Judged v × (length (line_by nr core round v) ≤ room))
  unfolding refusal_by
  by-accepted = (
    (λ e. let q = passed-judged v _ e in (q.0, (room-accepted room (length (line_by nr core round v))).0 q.1)),
    λ h. judged-later v _ h.0 ∙ (room-accepted room (length (line_by nr core round v))).1 h.1,
  )

  -- as the verdict, whatever is lent
  pub by-refused : (r : Refusal) → v ≡ Refused r → refusal_by nr core round v room ≡ some r
  unfolding refusal_by
  by-refused r e = refused-first v _ r e

  -- 3 after that, detail the line's length
  pub by-short : Judged v → room < length (line_by nr core round v) → refusal_by nr core round v room ≡ some (TooShort (length (line_by nr core round v)))
  unfolding refusal_by
  by-short j l = judged-later v _ j ∙ room-refused room (length (line_by nr core round v)) accepted l

-- ---- the call
module _ (nr : ℕ) (core round : List ℕ) (room : ℕ) where
  pub line-accepted : (line_refusal nr core round room ≡ accepted) ↔ (Judged (verdict_for nr core round) × (length (line_at nr core round) ≤ room))
  line-accepted = by-accepted nr core round (verdict_for nr core round) room

  -- 8, 2 and 5, whatever is lent
  pub line_refused : (r : Refusal) → verdict_for nr core round ≡ Refused r → line_refusal nr core round room ≡ some r
  line_refused = by-refused nr core round (verdict_for nr core round) room

  -- 8 first of all, detail the number
  pub line-no-rounds : NoRounds nr → line_refusal nr core round room ≡ some (Rounds nr)
  line-no-rounds h = line_refused (Rounds nr) (verdict-no-rounds nr core round h)

  pub line-in-range : line_refusal nr core round room ≡ accepted → (1 ≤ nr) × (nr ≤ MAX-ROUNDS)
  line-in-range e = judged-range nr core round _ (line-accepted.0 e).0 refl

  -- 3 after them, detail the line's length
  pub line-short : Judged (verdict_for nr core round) → room < length (line_at nr core round) →
      line_refusal nr core round room ≡ some (TooShort (length (line_at nr core round)))
  line-short = by-short nr core round (verdict_for nr core round) room

  -- "a caller who lends that many bytes is never refused by 3": of tables that fit in memory
  pub line-fits : Small (length core) → Small (length round) → LINE-MOST ≤ room → Judged (verdict_for nr core round) →
      line_refusal nr core round room ≡ accepted
  line-fits c d l j = line-accepted.1 (j, omega (arith, l, line-most nr core round c d))

-- what an accepted call leaves: the line, and past it the old bytes
module _ (nr : ℕ) (core round bytes : List ℕ) (passed : line_refusal nr core round (length bytes) ≡ accepted) where
  pub line-left : take (length (line_at nr core round)) (line_after nr core round bytes) ≡ line_at nr core round
  line-left = new-words (line_at nr core round) bytes passed

  pub line-past : drop (length (line_at nr core round)) (line_after nr core round bytes) ≡ drop (length (line_at nr core round)) bytes
  line-past = old-words (line_at nr core round) bytes passed
