-- The verdict in lent memory beside that of `verdict`.
--     by-ready              8 or 2 is met, or neither
--     lent-passed           accepted exactly where all is passed (`Passed`, judge_within/proofs/Within.antt)
--     lent-short, lent-else   3 where the tables are ready and a slice is short, else the answer of `verdict`
--     lent_says             so every answer, both ways
--     judged-same           where it is no refusal, it is the verdict of `verdict`
--     lent-left             what an accepted call leaves in a slice
--     by-refusal            accepted, and then no refusal, or refused
use mathlib.Core.Path.{◌≡◌, refl, sym, ap, subst, ◌∙◌}
use mathlib.Core.Logic.{◌↔◌, inl, inr}
use mathlib.Core.Option.{Option, none, some}
use mathlib.Core.List.{List}
use Prim.Native.Nat.{ℕ, ◌≤◌}
use native.Mathlib.Omega.{arith}
use lib.ListN.{take, drop}
use Rattle.lists.specs.Tab.{tab}
use Rattle.lists.proofs.Laws.{length-tab}
use Rattle.lists.proofs.Then.{by_le}
use Rattle.answer.specs.Refusal.{accepted, not_rounds, too_short}
use Rattle.answer.specs.declared.Refusal.{Refusal}
use Rattle.answer.specs.declared.Refusal.TheVariants.{TooShort, Rounds}
use Rattle.answer.proofs.Laws.{none_told_lem, new-words, old-words}
use Rattle.answer.proofs.Refusals.{rounds-later, room-refused, by-rounds}
use Rattle.verdict.specs.Kind.{Kind}
use Rattle.verdict.specs.Verdict.{stage, from_core_value, from_core_lookup, from_repeat, from_round_value, from_round_lookup, from_core_balance, from_round_balance}
use Rattle.verdict.specs.CoreAndRound.{core_kind, round_kind, verdict_for}
use Rattle.verdict.specs.declared.Verdict.{Verdict}
use Rattle.verdict.specs.declared.Verdict.TheVariants.{Refused}
use Rattle.verdict.proofs.AnyRounds.{any-rounds}
use Rattle.verdict.proofs.Stages.{passes, answers}
use Rattle.judge.specs.Checks.{not_rows, not_words}
use Rattle.judge.proofs.Passed.{rows-passed, rows-later, rows-still, words-later, verdict-checked}
use Rattle.sort_places.specs.Places.{place_count}
use Rattle.judge_within.specs.Within.{within_refusal, within_for, within_after}
use Rattle.judge_within.proofs.Within.{Passed, room-later, all-passed, rows_next, within-refused, within-passed, within_same}
use Rattle.verdict_line.specs.Line.{Judged}
use Rattle.verdict_line.specs.Lent.{Ready, Short, SaysLent}

-- ---- no failure is a refusal
judged-stage : {A : Type 0} (o : Option A) (f : A → Verdict) (v : Verdict) → ((a : A) → Judged (f a)) → Judged v → Judged (stage o f v)
unfolding stage
judged-stage none f v g h = h
judged-stage (some a) f v g h = g a

judged-stages : (K L : Kind) (t u : List ℕ) → Judged (from_core_value K L t u)
unfolding from_core_value from_core_lookup from_repeat from_round_value from_round_lookup from_core_balance from_round_balance
judged-stages K L t u =
    judged-stage _ _ _ (λ a. tt)
    (judged-stage _ _ _ (λ a. tt)
    (judged-stage _ _ _ (λ a. tt)
    (judged-stage _ _ _ (λ a. tt)
    (judged-stage _ _ _ (λ a. tt)
    (judged-stage _ _ _ (λ a. tt)
    (judged-stage _ _ _ (λ a. tt) tt))))))

-- ---- 8 and 2
pub ready-later : (nr : ℕ) (core round : List ℕ) (later : Option Refusal) → Ready nr core round → not_rounds nr (not_rows core round later) ≡ later
ready-later nr core round later h = rounds-later nr _ h.0 h.1 ∙ rows-later core round later h.2 h.3

-- one or the other: neither is met, or the call is refused whatever the later checks say
pub by-ready : {P : Type 0} (nr : ℕ) (core round : List ℕ) → (Ready nr core round → P) →
    ((r : Refusal) → ((later : Option Refusal) → not_rounds nr (not_rows core round later) ≡ some r) → P) → P
by-ready {P} nr core round f g = by-rounds nr (λ a b. go a b (not_rows core round accepted) refl) (λ h. g (Rounds nr) (λ later. h _))
  where
    go : 1 ≤ nr → nr ≤ 24 → (o : Option Refusal) → not_rows core round accepted ≡ o → P
    go a b none e = let w = rows-passed core round accepted e in f (a, b, w.0, w.1)
    go a b (some x) e = g x (λ later. rounds-later nr _ a b ∙ rows-still core round later e)

-- ---- the verdict in lent memory
module _ (nr : ℕ) (core round : List ℕ) (scratch spare : ℕ) where
  from-room : Ready nr core round →
      within_refusal nr core round scratch spare
      ≡ too_short scratch (place_count core round) (too_short spare (place_count core round) (not_words core round accepted))
  unfolding within_refusal
  from-room = ready-later nr core round _

  pub lent-passed : (within_refusal nr core round scratch spare ≡ accepted) ↔ Passed nr core round scratch spare
  lent-passed = (
    all-passed nr core round scratch spare,
    λ h.
        from-room (h.some-rounds, h.most-rounds, h.core-whole, h.round_whole)
        ∙ room-later scratch (place_count core round) _ h.room
        ∙ room-later spare (place_count core round) _ h.spare-room
        ∙ words-later core round accepted h.core-elements h.round-elements,
  )

  short-refused : Ready nr core round → Short core round scratch spare → within_refusal nr core round scratch spare ≡ some (TooShort (place_count core round))
  short-refused h (inl l) = from-room h ∙ room-refused scratch (place_count core round) _ l
  short-refused h (inr l) =
      from-room h
      ∙ by_le (place_count core round) scratch
      (λ m. room-later scratch (place_count core round) _ m ∙ room-refused spare (place_count core round) _ l)
      (λ m. room-refused scratch (place_count core round) _ m)

  -- one or the other
  pub by-room : {P : Type 0} → (Ready nr core round → Short core round scratch spare → P) →
      ((Ready nr core round → Short core round scratch spare → ⊥) → P) → P
  by-room {P} f g =
      by-ready nr core round
      (λ h.
      by_le (place_count core round) scratch
      (λ l.
      by_le (place_count core round) spare
      (λ m. g (λ r s. elim s [ inl x ↦ omega (arith, l, x) | inr x ↦ omega (arith, m, x) ]))
      (λ m. f h (inr m)))
      (λ l. f h (inl l)))
      (λ x out. g (λ r s. none_told_lem (sym (ready-later nr core round accepted r) ∙ out accepted)))

  -- 3, before 5 and after 8 and 2, detail the words needed in each slice
  lent-short : Ready nr core round → Short core round scratch spare → within_for nr core round scratch spare ≡ Refused (TooShort (place_count core round))
  lent-short h s = sym (within-refused nr core round scratch spare (short-refused h s))

  lent-else : (Ready nr core round → Short core round scratch spare → ⊥) → within_for nr core round scratch spare ≡ verdict_for nr core round
  unfolding verdict_for within_refusal
  lent-else none-short =
      by-rounds nr
      (λ a b. go a b (not_rows core round accepted) refl)
      (λ h. sym (within-refused nr core round scratch spare (h _)) ∙ sym (answers _ _ _ _ (h accepted)))
    where
      go : 1 ≤ nr → nr ≤ 24 → (o : Option Refusal) → not_rows core round accepted ≡ o → within_for nr core round scratch spare ≡ verdict_for nr core round
      go a b none e =
          let w = rows-passed core round accepted e in
          by_le (place_count core round) scratch
          (λ l.
          by_le (place_count core round) spare
          (λ m. within_same nr core round scratch spare l m)
          (λ m. absurd (none-short (a, b, w.0, w.1) (inr m))))
          (λ l. absurd (none-short (a, b, w.0, w.1) (inl l)))
      go a b (some x) e =
          let t = rounds-later nr accepted a b in
          sym (within-refused nr core round scratch spare (rows_next nr core round scratch spare t e))
          ∙ sym (passes _ _ _ t ∙ verdict-checked nr core round ∙ answers _ _ _ x (rows-still core round _ e))

  pub lent_says : (v : Verdict) → (within_for nr core round scratch spare ≡ v) ↔ SaysLent nr core round scratch spare v
  lent_says v = (
    (λ e.
        by-room
        (λ h s. inl (h, s, sym e ∙ lent-short h s))
        (λ none-short. inr (none-short, (any-rounds nr core round v).0 (sym (lent-else none-short) ∙ e)))),
    λ q. elim q [
      | inl h ↦ lent-short h.0 h.1 ∙ sym h.2
      | inr h ↦ lent-else h.0 ∙ (any-rounds nr core round v).1 h.1
    ],
  )

  pub judged-same : Judged (within_for nr core round scratch spare) → within_for nr core round scratch spare ≡ verdict_for nr core round
  judged-same j = by-room (λ h s. absurd (subst Judged (lent-short h s) j)) lent-else

  -- ---- what is left in a slice
  pub lent-left : Passed nr core round scratch spare → (old : List ℕ) →
      (take (place_count core round) (within_after nr core round scratch spare old) ≡ tab (place_count core round) (λ k. 0))
      × (drop (place_count core round) (within_after nr core round scratch spare old) ≡ drop (place_count core round) old)
  unfolding within_after
  lent-left h old =
      let e = lent-passed.1 h in
      let n = length-tab {A = ℕ} (place_count core round) (λ (k : ℕ). 0) in (
        ap (λ (m : ℕ). take m (within_after nr core round scratch spare old)) (sym n) ∙ new-words (tab (place_count core round) (λ k. 0)) old e,
        ap (λ (m : ℕ). drop m (within_after nr core round scratch spare old)) (sym n) ∙ old-words (tab (place_count core round) (λ k. 0)) old e ∙ ap (λ (m : ℕ). drop m old) n,
      )

  -- ---- accepted, or refused
  pub lent-judged : Passed nr core round scratch spare → Judged (within_for nr core round scratch spare)
  lent-judged h = subst Judged (within-passed nr core round scratch spare (lent-passed.1 h)) (judged-stages (core_kind nr) round_kind core round)

  pub by-refusal : {P : Type 0} → (Passed nr core round scratch spare → P) →
      ((r : Refusal) → within_refusal nr core round scratch spare ≡ some r → P) → P
  by-refusal {P} f g = go (within_refusal nr core round scratch spare) refl
    where
      go : (o : Option Refusal) → within_refusal nr core round scratch spare ≡ o → P
      go none e = f (lent-passed.0 e)
      go (some r) e = g r e
