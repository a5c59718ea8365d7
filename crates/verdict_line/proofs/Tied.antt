-- What two calls leave: their lines are equal exactly where the verdicts and the shown tuples are. Of a call nothing is
-- known but its contract: `Learnt` is what the `ensures` clauses in `src/` tell a caller.
--     Lined    a call of `verdict_line` for nr rounds on a core table, a round table and bytes: its answer, and the bytes
--              when it ends
use Prim.Native.Nat.{ℕ}
use mathlib.Core.Path.{◌≡◌, refl, sym, ap, subst, ◌∙◌}
use mathlib.Core.Logic.{◌↔◌}
use mathlib.Core.List.{List, []}
use lib.ListN.{length, take}
use contract.Lifetimes.{Lfts}
use denote.Triple.Clauses.{AtExit}
use borrow.Fn.Kinds.{Dens, ended_of}
use Rattle.answer.specs.Refusal.{accepted}
use Rattle.answer.proofs.Laws.{number_is}
use Rattle.verdict.specs.CoreAndRound.{verdict_for}
use Rattle.verdict_line.specs.Line.{Judged, shown_at, line_at, line_refusal, line_answer, line_after}
use Rattle.verdict_line.proofs.Tells.{lines-tell}
use Rattle.verdict_line.proofs.Refusals.{line-accepted, line-left}
use Rattle.verdict_line.proofs.Shows.{is_number}
use Rattle.verdict_line.proofs.verdict_line.Kinds as kinds
use Rattle.verdict_line.proofs.verdict_line.Reads as reads
use Rattle.std.specs.Prelude.{Result, Ok}
use Rattle.answer.specs.declared.Refusal.{Refusal}

pub record Lined (nr : ℕ) (core round before after : List ℕ) (a : Result ℕ Refusal) : Type 0 where
  pub lifetimes : Lfts 3
  pub lent : Dens lifetimes kinds.ps
  pub ended : AtExit (ended_of 3 kinds.ps kinds.r) lifetimes
  pub rounds-are : lent.0 ≡ nr
  pub core_is : lent.1.0.now ≡ core
  pub round_is : lent.1.1.0.now ≡ round
  pub before-is : lent.1.1.1.0.now ≡ before
  pub after_is : ended.1.1.1.0.now ≡ after
  pub says : reads.Learnt lifetimes lent a ended

-- and nothing else is asked of a call: on any tables and bytes one that answers `line_answer` and leaves `line_after` meets the contract
pub some-lined : (nr : ℕ) (core round before : List ℕ) → Lined nr core round before (line_after nr core round before) (line_answer nr core round before)
some-lined nr core round before =
    record {
      lifetimes = ([], ([], ([], tt)));
      lent = (nr, (record { ref_ptr = (0, 0); now = core }, (record { ref_ptr = (0, 0); now = round }, (record { ref_ptr = (0, 0); ghost_name = 0; now = before }, tt))));
      ended = (nr, (record { ref_ptr = (0, 0); now = core }, (record { ref_ptr = (0, 0); now = round }, (record { ref_ptr = (0, 0); ghost_name = 0; now = line_after nr core round before }, tt))));
      rounds-are = refl;
      core_is = refl;
      round_is = refl;
      before-is = refl;
      after_is = refl;
      says = (refl, refl);
    }

-- where the call is accepted, its answer is a length
pub some-line : (nr : ℕ) (core round before : List ℕ) → line_refusal nr core round (length before) ≡ accepted →
    Lined nr core round before (line_after nr core round before) (Ok (length (line_at nr core round)))
some-line nr core round before e =
    subst (Lined nr core round before (line_after nr core round before)) (sym (number_is e refl)) (some-lined nr core round before)

module _ {nr : ℕ} {core round before after : List ℕ} {n : ℕ} (c : Lined nr core round before after (Ok n)) where
  passed : (line_refusal nr core round (length before) ≡ accepted) × (n ≡ length (line_at nr core round))
  passed = is_number _ n _ (c.says.0 ∙ λ t. line_answer (c.rounds-are t) (c.core_is t) (c.round_is t) (c.before-is t))

  pub no-refusal : Judged (verdict_for nr core round)
  no-refusal = ((line-accepted nr core round (length before)).0 passed.0).0

  -- the answer is the line's length, and so many bytes are the line
  pub line-written : take n after ≡ line_at nr core round
  line-written =
      ap (λ (k : ℕ). take k after) passed.1
      ∙ ap (take (length (line_at nr core round))) (sym c.after_is ∙ c.says.1 ∙ λ t. line_after (c.rounds-are t) (c.core_is t) (c.round_is t) (c.before-is t))
      ∙ line-left nr core round before passed.0

module _ {nr mr : ℕ} {core round before after core' round' before' after' : List ℕ} {n m : ℕ} where
  pub lines-written : Lined nr core round before after (Ok n) → Lined mr core' round' before' after' (Ok m) →
      (take n after ≡ take m after')
      ↔ ((verdict_for nr core round ≡ verdict_for mr core' round') × (shown_at nr core round ≡ shown_at mr core' round'))
  lines-written c d =
      let t = lines-tell nr mr core round core' round' (no-refusal c) (no-refusal d) in (
        (λ e. t.0 (sym (line-written c) ∙ e ∙ line-written d)),
        λ h. line-written c ∙ t.1 h ∙ sym (line-written d),
      )
