-- Demand 3 of what the two calls answer and write. Of a call nothing is known but its contract: `Learnt` is what the
-- `ensures` clauses in `src/` tell a caller, as the toolchain reads them, so from weaker clauses `answered` and `wrote`
-- would not follow.
--     Answered    a call of `verdict` for nr rounds on a core table and a round table, and its answer
--     Wrote       a call of `generate_keccak_rnd_trace` for nr rounds and a floor on a list and a slice, and what the slice holds when it ends
-- In both `lent` is the parameters when the call begins and `ended` when it ends, `.0` the first, `.1 .0` the second and
-- `.1 .1 .0` the third; their lifetimes, and where in memory they are, may be any.
use mathlib.Core.Path.{◌≡◌, refl, sym, ap, subst, ◌∙◌}
use mathlib.Core.Logic.{◌↔◌}
use mathlib.Core.List.{List, [], ◌++◌}
use mathlib.Core.Option.{Option}
use Prim.Native.Nat.{ℕ, ◌≤◌}
use lib.ListN.{length, take, drop}
use lib.Seq.{take-append_seam, drop-append_seam}
use contract.Lifetimes.{Lfts}
use denote.Triple.Clauses.{AtExit}
use borrow.Fn.Kinds.{Dens, ended_of}
use Rattle.answer.specs.Refusal.{accepted, overwrite, afterwards, answer_of, PowerFloor}
use Rattle.answer.specs.declared.Refusal.{Refusal}
use Rattle.answer.specs.declared.Refusal.TheVariants.{Rounds}
use Rattle.keccak_rnd.specs.Refusals.{round_trace_refusal}
use Rattle.keccak_rnd.specs.Calls.{round_trace_after}
use Rattle.keccak_rnd.proofs.Refusals.{trace-later}
use Rattle.verdict.specs.Kind.{actives}
use Rattle.verdict.specs.CoreAndRound.{core_layout, round_layout, verdict_at, verdict_for}
use Rattle.verdict.specs.Failures.{NoRounds}
use Rattle.verdict.specs.Claims.{SupposedAt, ClaimsAt, Answers, EachActive, Computed, Addressed, operations, our_rounds}
use Rattle.verdict.specs.Unique.{EquallyOften, Refilled}
use Rattle.verdict.specs.declared.Verdict.{Verdict}
use Rattle.verdict.specs.declared.Verdict.TheVariants.{Refused, Holds}
use Rattle.verdict.proofs.AnyRounds.{verdict-in-range, verdict-no-rounds, holds-in-range}
use Rattle.verdict.proofs.Demand3.{demand3-at, holds-computed}
use Rattle.verdict.proofs.Unique.{refilled-exactly, ours-equally, ours-exactly}
use Rattle.keccak_rnd_trace.proofs.generate_keccak_rnd_trace.Kinds as trace-kinds
use Rattle.keccak_rnd_trace.proofs.generate_keccak_rnd_trace.Reads as trace
use Rattle.judge.proofs.verdict.Kinds as verdict-kinds
use Rattle.judge.proofs.verdict.Reads as verdict
use Rattle.std.specs.Prelude.{Result, ⊤}

pub record Answered (nr : ℕ) (core round : List ℕ) (v : Verdict) : Type 0 where
  pub lifetimes : Lfts 2
  pub lent : Dens lifetimes verdict-kinds.ps
  pub ended : AtExit (ended_of 2 verdict-kinds.ps verdict-kinds.r) lifetimes
  pub rounds-are : lent.0 ≡ nr
  pub core_is : lent.1.0.now ≡ core
  pub round_is : lent.1.1.0.now ≡ round
  pub says : verdict.Learnt lifetimes lent v ended

pub answered : {nr : ℕ} {core round : List ℕ} {v : Verdict} → Answered nr core round v → v ≡ verdict_for nr core round
answered c = c.says ∙ λ t. verdict_for (c.rounds-are t) (c.core_is t) (c.round_is t)

-- refusal 8 first of all; else it is the verdict for so many rounds
module _ {nr : ℕ} {core round : List ℕ} {v : Verdict} (a : Answered nr core round v) where
  pub answered-no-rounds : NoRounds nr → v ≡ Refused (Rounds nr)
  answered-no-rounds h = answered a ∙ verdict-no-rounds nr core round h

  pub answered-at : 1 ≤ nr → nr ≤ 24 → v ≡ verdict_at nr core round
  answered-at some most = answered a ∙ verdict-in-range nr core round some most

  -- with nothing supposed: where it answers 'holds', every active core row is computed by Keccak-p[1600, nr], at its
  -- addresses, and nr is from 1 to 24
  pub answered-computed : (n : ℕ) → v ≡ Holds n → (1 ≤ nr) × (nr ≤ 24) × EachActive (λ x. Computed nr x × Addressed x) core
  answered-computed n e =
      let h = holds-in-range nr core round n (sym (answered a) ∙ e) in
      (h.0, h.1, holds-computed nr h.0 h.1 core round n (sym (answered-at h.0 h.1) ∙ e))

-- and of two calls with one core table, where the first answers 'holds' the second does so exactly where its round table is the
-- first one's refilled
pub answered-refilled : {nr : ℕ} {core round other : List ℕ} {v w : Verdict} → Answered nr core round v → Answered nr core other w →
    (n : ℕ) → v ≡ Holds n → (w ≡ Holds n) ↔ Refilled round other
answered-refilled {nr} {core} {round} {other} a b n e =
    let h = holds-in-range nr core round n (sym (answered a) ∙ e) in
    let i = refilled-exactly nr core round other h.0 h.1 n (sym (answered-at a h.0 h.1) ∙ e) in
    ((λ c. i.0 (sym (answered-at b h.0 h.1) ∙ c)), λ f. answered-at b h.0 h.1 ∙ i.1 f)

pub record Wrote (nr floor : ℕ) (ops before after : List ℕ) : Type 0 where
  pub lifetimes : Lfts 2
  pub lent : Dens lifetimes trace-kinds.ps
  pub answer : Result ⊤ Refusal
  pub ended : AtExit (ended_of 2 trace-kinds.ps trace-kinds.r) lifetimes
  pub rounds-are : lent.0 ≡ nr
  pub floor-is : lent.1.0 ≡ floor
  pub ops-are : lent.1.1.0.now ≡ ops
  pub before-is : lent.1.1.1.0.now ≡ before
  pub after_is : ended.1.1.1.0.now ≡ after
  pub says : trace.Learnt lifetimes lent answer ended

pub wrote : {nr floor : ℕ} {ops before after : List ℕ} → Wrote nr floor ops before after → after ≡ round_trace_after nr floor ops before
wrote c = sym c.after_is ∙ c.says.1 ∙ λ t. round_trace_after (c.rounds-are t) (c.floor-is t) (c.ops-are t) (c.before-is t)

-- and nothing else is asked of a call: on any two tables one that answers `verdict_for`, on any list and slice one that
-- leaves `round_trace_after` in it, meets the contract
pub some-answered : (nr : ℕ) (core round : List ℕ) → Answered nr core round (verdict_for nr core round)
some-answered nr core round =
    record {
      lifetimes = ([], ([], tt));
      lent = (nr, (record { ref_ptr = (0, 0); now = core }, (record { ref_ptr = (0, 0); now = round }, tt)));
      ended = (nr, (record { ref_ptr = (0, 0); now = core }, (record { ref_ptr = (0, 0); now = round }, tt)));
      rounds-are = refl;
      core_is = refl;
      round_is = refl;
      says = refl;
    }

pub some-wrote : (nr floor : ℕ) (ops before : List ℕ) → Wrote nr floor ops before (round_trace_after nr floor ops before)
some-wrote nr floor ops before =
    record {
      lifetimes = ([], ([], tt));
      lent = (nr, (floor, (record { ref_ptr = (0, 0); now = ops }, (record { ref_ptr = (0, 0); ghost_name = 0; now = before }, tt))));
      answer = answer_of (round_trace_refusal nr floor (length before) ops);
      ended = (nr, (floor, (record { ref_ptr = (0, 0); now = ops }, (record { ref_ptr = (0, 0); ghost_name = 0; now = round_trace_after nr floor ops before }, tt))));
      rounds-are = refl;
      floor-is = refl;
      ops-are = refl;
      before-is = refl;
      after_is = refl;
      says = (refl, refl);
    }

-- the demand for each number of rounds from 1 to 24
module _ (nr : ℕ) (some : 1 ≤ nr) (most : nr ≤ 24) (core : List ℕ) (supposed : SupposedAt nr core) where
  abbrev claims : (floor : ℕ) → ClaimsAt nr floor core
  claims floor = demand3-at nr floor some most core supposed

  -- exactly for a round table that passes and balances does the call answer 'holds', with the number of active core rows
  pub holds-answered : (round : List ℕ) (v : Verdict) → Answered nr core round v → (v ≡ Holds (actives core_layout core)) ↔ Answers nr core round
  holds-answered round v a = (
    (λ e. ((claims 4).verdict round).0 (sym (answered-at a some most) ∙ e)),
    λ h. answered-at a some most ∙ ((claims 4).verdict round).1 h,
  )

  pub number-answered : (round : List ℕ) (v : Verdict) (n : ℕ) → Answered nr core round v → v ≡ Holds n → n ≡ actives core_layout core
  number-answered round v n a e = (claims 4).number round n (sym (answered-at a some most) ∙ e)

  -- and for each floor that is accepted
  module _ (floor : ℕ) (power : PowerFloor floor) where
    abbrev ours : List ℕ
    ours = our_rounds nr floor core

    -- the writer, called with the active core rows as operations and a slice that our table fits, writes our table at its
    -- front and keeps the words past it
    pub ours-written : (before after : List ℕ) → length ours ≤ length before → Wrote nr floor (operations core) before after →
        (take (length ours) after ≡ ours) × (drop (length ours) after ≡ drop (length ours) before)
    unfolding afterwards overwrite our_rounds
    ours-written before after e w =
        let p : round_trace_refusal nr floor (length before) (operations core) ≡ accepted =
        trace-later nr floor (length before) (operations core) some most power ∙ (claims floor).none-refused (length before) (length ours) e in
        let q : after ≡ ours ++ drop (length ours) before = wrote w ∙ ap (λ (r : Option Refusal). afterwards r (overwrite ours before) before) p in
        (ap (take (length ours)) q ∙ take-append_seam ours (drop (length ours) before), ap (drop (length ours)) q ∙ drop-append_seam ours (drop (length ours) before))

    -- and where every active core row is computed, that table answers, and on it the verdict holds
    pub written-answers : EachActive (Computed nr) core → (before after : List ℕ) → length ours ≤ length before →
        Wrote nr floor (operations core) before after → (v : Verdict) → Answered nr core (take (length ours) after) v →
        Answers nr core (take (length ours) after) × (v ≡ Holds (actives core_layout core))
    written-answers each before after e w v a =
        let t : List ℕ = take (length ours) after in
        let h : Answers nr core t = subst (Answers nr core) (sym (ours-written before after e w).0) ((claims floor).ours each) in
        (h, (holds-answered t v a).1 h)

    -- only one way to fill it: where `verdict` answers 'holds', the active rows of the round table that it was lent are those that the
    -- writer writes, in some order
    pub answered-equally : (round : List ℕ) (v : Verdict) (n : ℕ) → Answered nr core round v → v ≡ Holds n →
        (before after : List ℕ) → length ours ≤ length before → Wrote nr floor (operations core) before after →
        EquallyOften round_layout round (take (length ours) after)
    answered-equally round v n a e before after l w =
        let h : Answers nr core round = (holds-answered round v a).0 (e ∙ ap Holds (number-answered round v n a e)) in
        subst (EquallyOften round_layout round) (sym (ours-written before after l w).0) (ours-equally nr some most floor core supposed round h)

    -- and where every active core row is computed, it answers 'holds' exactly for what the writer writes, refilled
    pub answered-exactly : EachActive (Computed nr) core → (round : List ℕ) (v : Verdict) → Answered nr core round v →
        (before after : List ℕ) → length ours ≤ length before → Wrote nr floor (operations core) before after →
        (v ≡ Holds (actives core_layout core)) ↔ Refilled (take (length ours) after) round
    answered-exactly each round v a before after l w =
        let i = holds-answered round v a in
        let j = ours-exactly nr some most floor core supposed each round in
        let q = (ours-written before after l w).0 in
        ((λ e. subst (λ (t : List ℕ). Refilled t round) (sym q) (j.0 (i.0 e))), λ f. i.1 (j.1 (subst (λ (t : List ℕ). Refilled t round) q f)))
