-- What a call of `verdict_within` answers and leaves. Of a call nothing is known but its contract: `Learnt` is what the `ensures` clauses in
-- `src/` tell a caller, so from weaker clauses none of this would follow.
--     AnsweredWithin    a call for nr rounds on a core table and a round table, its answer, and what both lent slices hold when it ends
--     within-answered, scratch-left, spare-left   they are what the definitions say
--     as-answered       where both slices have room the answer is one of `verdict`: all that is said of `Answered` (judge/proofs/Tied.antt)
--                       is said of it
--     holds-room        and where it answers 'holds' they have
--     some-within       nothing else is asked of a call
use mathlib.Core.Path.{◌≡◌, refl, sym, ap, subst, ◌∙◌}
use mathlib.Core.Option.{Option, none, some}
use mathlib.Core.List.{List, []}
use Prim.Native.Nat.{ℕ, ◌≤◌}
use native.Mathlib.Omega.{arith}
use lib.ListN.{length}
use contract.Lifetimes.{Lfts}
use denote.Triple.Clauses.{AtExit}
use borrow.Fn.Kinds.{Dens, ended_of}
use Rattle.lists.specs.Tab.{word}
use Rattle.answer.specs.declared.Refusal.{Refusal}
use Rattle.verdict.specs.Verdict.{stage, verdict_words}
use Rattle.verdict.specs.CoreAndRound.{verdict_at}
use Rattle.verdict.specs.declared.Verdict.{Verdict}
use Rattle.verdict.specs.declared.Verdict.TheVariants.{Refused, Holds}
use Rattle.judge.proofs.Tied.{Answered, some-answered}
use Rattle.sort_places.specs.Places.{place_count}
use Rattle.judge_within.specs.Within.{within_refusal, within_for, within_after}
use Rattle.judge_within.proofs.Within.{all-passed, within_same}
use Rattle.judge_within.proofs.verdict_within.Kinds as kinds
use Rattle.judge_within.proofs.verdict_within.Reads as reads

pub record AnsweredWithin (nr : ℕ) (core round scratch scratch' spare spare' : List ℕ) (v : Verdict) : Type 0 where
  pub lifetimes : Lfts 3
  pub lent : Dens lifetimes kinds.ps
  pub ended : AtExit (ended_of 3 kinds.ps kinds.r) lifetimes
  pub rounds-are : lent.0 ≡ nr
  pub core_is : lent.1.0.now ≡ core
  pub round_is : lent.1.1.0.now ≡ round
  pub scratch-is : lent.1.1.1.0.now ≡ scratch
  pub spare-is : lent.1.1.1.1.0.now ≡ spare
  pub scratch_after : ended.1.1.1.0.now ≡ scratch'
  pub spare-after : ended.1.1.1.1.0.now ≡ spare'
  pub says : reads.Learnt lifetimes lent v ended

-- a refusal is no 'holds'
not-refused : (o : Option Refusal) (v : Verdict) (n : ℕ) → stage o Refused v ≡ Holds n → o ≡ none
unfolding stage
not-refused none v n e = refl
not-refused (some r) v n e = let z : ◌≡◌ {A = ℕ} 7 0 = ap (λ (w : Verdict). word (verdict_words w) 0) e in absurd (omega (arith, z))

module _ {nr : ℕ} {core round scratch scratch' spare spare' : List ℕ} {v : Verdict} (c : AnsweredWithin nr core round scratch scratch' spare spare' v) where
  pub within-answered : v ≡ within_for nr core round (length scratch) (length spare)
  within-answered = c.says.0 ∙ λ t. within_for (c.rounds-are t) (c.core_is t) (c.round_is t) (length (c.scratch-is t)) (length (c.spare-is t))

  pub scratch-left : scratch' ≡ within_after nr core round (length scratch) (length spare) scratch
  scratch-left =
      sym c.scratch_after ∙ c.says.1.0
      ∙ λ t. within_after (c.rounds-are t) (c.core_is t) (c.round_is t) (length (c.scratch-is t)) (length (c.spare-is t)) (c.scratch-is t)

  pub spare-left : spare' ≡ within_after nr core round (length scratch) (length spare) spare
  spare-left =
      sym c.spare-after ∙ c.says.1.1
      ∙ λ t. within_after (c.rounds-are t) (c.core_is t) (c.round_is t) (length (c.scratch-is t)) (length (c.spare-is t)) (c.spare-is t)

  pub as-answered : place_count core round ≤ length scratch → place_count core round ≤ length spare → Answered nr core round v
  as-answered l m =
      subst (Answered nr core round) (sym (within-answered ∙ within_same nr core round (length scratch) (length spare) l m)) (some-answered nr core round)

  pub holds-room : (n : ℕ) → v ≡ Holds n → (place_count core round ≤ length scratch) × (place_count core round ≤ length spare)
  unfolding within_for
  holds-room n e =
      let p = all-passed nr core round (length scratch) (length spare)
      (not-refused (within_refusal nr core round (length scratch) (length spare)) (verdict_at nr core round) n (sym within-answered ∙ e)) in
      (p.room, p.spare-room)

  pub holds-answered : (n : ℕ) → v ≡ Holds n → Answered nr core round v
  holds-answered n e = let r = holds-room n e in as-answered r.0 r.1

-- ---- nothing else is asked of a call
pub some-within : (nr : ℕ) (core round scratch spare : List ℕ) →
    AnsweredWithin nr core round scratch (within_after nr core round (length scratch) (length spare) scratch) spare (within_after nr core round (length scratch) (length spare) spare)
    (within_for nr core round (length scratch) (length spare))
some-within nr core round scratch spare =
    record {
      lifetimes = ([], ([], ([], tt)));
      lent = (nr, (record { ref_ptr = (0, 0); now = core }, (record { ref_ptr = (0, 0); now = round }, (record { ref_ptr = (0, 0); ghost_name = 0; now = scratch }, (record { ref_ptr = (0, 0); ghost_name = 0; now = spare }, tt)))));
      ended = (nr, (record { ref_ptr = (0, 0); now = core }, (record { ref_ptr = (0, 0); now = round }, (record { ref_ptr = (0, 0); ghost_name = 0; now = within_after nr core round (length scratch) (length spare) scratch }, (record { ref_ptr = (0, 0); ghost_name = 0; now = within_after nr core round (length scratch) (length spare) spare }, tt)))));
      rounds-are = refl;
      core_is = refl;
      round_is = refl;
      scratch-is = refl;
      spare-is = refl;
      scratch_after = refl;
      spare-after = refl;
      says = (refl, (refl, refl));
    }
