-- What the call answers, for every number of rounds: refusal 8 where it is 0 or above 24, else the verdict for that many
-- rounds.
--     verdict-in-range     from 1 to 24 it is the verdict
--     verdict-no-rounds    else it is refusal 8, detail the number
--     verdict-24           with 24 it is the verdict for the rounds of Keccak-f[1600]
--     any-rounds           so v is the answer exactly where `SaysFor` has it
--     holds-in-range       where it holds, the number is from 1 to 24
use mathlib.Core.Path.{◌≡◌, sym, ap, subst, ◌∙◌}
use mathlib.Core.Logic.{◌↔◌, ◌⊎◌, inl, inr}
use mathlib.Core.Option.{some}
use mathlib.Core.List.{List}
use Prim.Native.Nat.{ℕ, ◌≤◌, ◌<◌}
use native.Mathlib.Omega.{arith}
use Rattle.lists.specs.Tab.{word}
use Rattle.lists.proofs.Then.{by_le}
use Rattle.answer.specs.Limits.{MAX-ROUNDS}
use Rattle.answer.specs.Refusal.{accepted, not_rounds}
use Rattle.answer.specs.declared.Refusal.TheVariants.{Rounds}
use Rattle.answer.proofs.Refusals.{rounds-later, many-rounds-refused, no-rounds-refused}
use Rattle.verdict.specs.Verdict.{verdict_words}
use Rattle.verdict.specs.CoreAndRound.{verdict_at, verdict_of, verdict_for}
use Rattle.verdict.specs.Failures.{NoRounds, SaysFor}
use Rattle.verdict.specs.declared.Verdict.{Verdict}
use Rattle.verdict.specs.declared.Verdict.TheVariants.{Refused, Holds}
use Rattle.verdict.proofs.Failures.{verdict-says}
use Rattle.verdict.proofs.Stages.{passes, answers}

-- the check refuses such a number
no-rounds : (nr : ℕ) → NoRounds nr → not_rounds nr accepted ≡ some (Rounds nr)
no-rounds nr h = elim h [
  | inl e ↦ subst (λ (m : ℕ). not_rounds m accepted ≡ some (Rounds m)) (sym e) (no-rounds-refused accepted)
  | inr l ↦ many-rounds-refused nr accepted l
]

-- each number is one or the other
either : (nr : ℕ) → NoRounds nr ⊎ ((1 ≤ nr) × (nr ≤ MAX-ROUNDS))
either nr = by_le 1 nr (λ l. by_le nr MAX-ROUNDS (λ h. inr (l, h)) (λ h. inl (inr h))) (λ l. inl (inl (omega (arith, l))))

module _ (nr : ℕ) (core round : List ℕ) where
  pub verdict-in-range : 1 ≤ nr → nr ≤ MAX-ROUNDS → verdict_for nr core round ≡ verdict_at nr core round
  unfolding verdict_for
  verdict-in-range l h = passes _ _ _ (rounds-later nr accepted l h)

  pub verdict-no-rounds : NoRounds nr → verdict_for nr core round ≡ Refused (Rounds nr)
  unfolding verdict_for
  verdict-no-rounds h = answers _ _ _ _ (no-rounds nr h)

  tells : (v : Verdict) → verdict_for nr core round ≡ v → SaysFor nr core round v
  tells v e = elim (either nr) [
    | inl h ↦ inl (h, sym e ∙ verdict-no-rounds h)
    | inr h ↦ inr (h.0, h.1, (verdict-says nr core round v).0 (sym (verdict-in-range h.0 h.1) ∙ e))
  ]

  told : (v : Verdict) → SaysFor nr core round v → verdict_for nr core round ≡ v
  told v s = elim s [
    | inl h ↦ verdict-no-rounds h.0 ∙ sym h.1
    | inr h ↦ verdict-in-range h.0 h.1 ∙ (verdict-says nr core round v).1 h.2
  ]

  pub any-rounds : (v : Verdict) → (verdict_for nr core round ≡ v) ↔ SaysFor nr core round v
  any-rounds v = (tells v, told v)

  pub holds-in-range : (n : ℕ) → verdict_for nr core round ≡ Holds n → (1 ≤ nr) × (nr ≤ MAX-ROUNDS)
  holds-in-range n e = elim (tells (Holds n) e) [
    | inl h ↦ let z : ◌≡◌ {A = ℕ} 0 7 = ap (λ (v : Verdict). word (verdict_words v) 0) h.1 in absurd (omega (arith, z))
    | inr h ↦ (h.0, h.1)
  ]

-- "nr = 24 gives today's bytes"
pub verdict-24 : (core round : List ℕ) → verdict_for 24 core round ≡ verdict_of core round
verdict-24 core round = verdict-in-range 24 core round (omega arith) (omega arith)
