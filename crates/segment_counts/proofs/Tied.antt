-- What a call of `charge` answers and leaves. Of a call nothing is known but its contract: `Learnt` is what the `ensures` clauses in `src/`
-- tell a caller, so from weaker clauses none of this would follow.
--     Charged         a call for nr rounds, a floor, a mode and a list on counters, its answer, and the counters when it ends
--     charge-told     its answer is that of the definitions, and so are the counters: `charge-left`
--     charge-grown    where it is done each counter has grown by what both tables' rows add, mod p, and the words past the counters stay
--     charge-kept     where it is refused every word stays
--     some-charged    nothing else is asked of a call
use mathlib.Core.Path.{◌≡◌, refl, sym, ap, ◌∙◌}
use mathlib.Core.Bool.{Bool}
use mathlib.Core.List.{List, []}
use mathlib.Core.Option.{some}
use Prim.Native.Nat.{ℕ, ◌+◌, ◌%◌, ◌≤◌, ◌<◌}
use contract.Lifetimes.{Lfts}
use denote.Triple.Clauses.{AtExit}
use borrow.Fn.Kinds.{Dens, ended_of}
use Rattle.lists.specs.Tab.{word}
use Rattle.field.specs.Field.{p}
use Rattle.answer.specs.Refusal.{accepted, answer_of}
use Rattle.answer.specs.declared.Refusal.{Refusal}
use Rattle.answer.proofs.Laws.{is-done, kept}
use Rattle.answer.proofs.Overwrite.{left}
use Rattle.bitwise.specs.Columns.{NUM-COUNTERS}
use Rattle.bitwise.specs.Charge.{charged_counters}
use Rattle.bitwise.proofs.Charged.{charged-at, charged-past}
use Rattle.segment_counts.specs.Segment.{list_charged, charge_refusal, charge_after}
use Rattle.segment_counts.proofs.charge.Kinds as kinds
use Rattle.segment_counts.proofs.charge.Reads as reads
use Rattle.std.specs.Prelude.{Result, Ok, ⊤}

pub record Charged (nr floor : ℕ) (shipped : Bool) (ops before after : List ℕ) (answer : Result ⊤ Refusal) : Type 0 where
  pub lifetimes : Lfts 2
  pub lent : Dens lifetimes kinds.ps
  pub ended : AtExit (ended_of 2 kinds.ps kinds.r) lifetimes
  pub rounds-are : lent.0 ≡ nr
  pub floor-is : lent.1.0 ≡ floor
  pub mode-is : lent.1.1.0 ≡ shipped
  pub ops-are : lent.1.1.1.0.now ≡ ops
  pub before-is : lent.1.1.1.1.0.now ≡ before
  pub after_is : ended.1.1.1.1.0.now ≡ after
  pub says : reads.Learnt lifetimes lent answer ended

module _ {nr floor : ℕ} {shipped : Bool} {ops before after : List ℕ} {answer : Result ⊤ Refusal} (c : Charged nr floor shipped ops before after answer) where
  pub charge-told : answer ≡ answer_of (charge_refusal nr floor ops before)
  charge-told = c.says.0 ∙ λ t. answer_of (charge_refusal (c.rounds-are t) (c.floor-is t) (c.ops-are t) (c.before-is t))

  pub charge-left : after ≡ charge_after nr floor shipped ops before
  charge-left = sym c.after_is ∙ c.says.1 ∙ λ t. charge_after (c.rounds-are t) (c.floor-is t) (c.mode-is t) (c.ops-are t) (c.before-is t)

  pub charge-kept : {r : Refusal} → charge_refusal nr floor ops before ≡ some r → after ≡ before
  charge-kept e = charge-left ∙ sym (kept (charged_counters before (list_charged nr floor shipped ops)) before e)

  module _ (done : answer ≡ Ok tt) where
    pub charge-done : charge_refusal nr floor ops before ≡ accepted
    charge-done = is-done _ (sym done ∙ charge-told)

    grown : after ≡ charged_counters before (list_charged nr floor shipped ops)
    grown = charge-left ∙ left (charged_counters before (list_charged nr floor shipped ops)) before charge-done

    pub charge-grown : (k : ℕ) → k < NUM-COUNTERS → word after k ≡ (word before k + list_charged nr floor shipped ops k) % p
    charge-grown k l = ap (λ (x : List ℕ). word x k) grown ∙ charged-at before (list_charged nr floor shipped ops) k l

    pub charge-past : (k : ℕ) → NUM-COUNTERS ≤ k → word after k ≡ word before k
    charge-past k l = ap (λ (x : List ℕ). word x k) grown ∙ charged-past before (list_charged nr floor shipped ops) k l

-- ---- nothing else is asked of a call
pub some-charged : (nr floor : ℕ) (shipped : Bool) (ops before : List ℕ) →
    Charged nr floor shipped ops before (charge_after nr floor shipped ops before) (answer_of (charge_refusal nr floor ops before))
some-charged nr floor shipped ops before =
    record {
      lifetimes = ([], ([], tt));
      lent = (nr, (floor, (shipped, (record { ref_ptr = (0, 0); now = ops }, (record { ref_ptr = (0, 0); ghost_name = 0; now = before }, tt)))));
      ended = (nr, (floor, (shipped, (record { ref_ptr = (0, 0); now = ops }, (record { ref_ptr = (0, 0); ghost_name = 0; now = charge_after nr floor shipped ops before }, tt)))));
      rounds-are = refl;
      floor-is = refl;
      mode-is = refl;
      ops-are = refl;
      before-is = refl;
      after_is = refl;
      says = (refl, refl);
    }
