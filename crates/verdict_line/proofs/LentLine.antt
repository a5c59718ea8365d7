-- The line in lent memory: its checks, what it leaves, and the line of `verdict_line` beside it.
--     line-stops, line-goes-on   the checks before the tables are judged, made by a function of their own
--     line-answered, slice-left  the call, from what the verdict in lent memory and `put_line` say
--     lines_same            where the line and both slices have room, it is that of `verdict_line`
--     line-lent-accepted, line-lent-says   its refusals, both ways
--     line-lent-left, slice_kept, bytes-kept   what an accepted call leaves in a slice, and that a refused one leaves all as it was
use mathlib.Core.Path.{◌≡◌, sym, ap, subst, ◌∙◌}
use mathlib.Core.Logic.{◌⊎◌, ◌↔◌, inl, inr}
use mathlib.Core.Option.{Option, none, some}
use mathlib.Core.List.{List, []}
use Prim.Native.Nat.{ℕ, ◌≤◌, ◌<◌}
use native.Mathlib.Omega.{arith}
use borrow.Author.Tests.{ltb-false}
use lib.ListN.{length}
use lib.Seq.{sets}
use Rattle.lists.specs.Tab.{tab}
use Rattle.lists.proofs.Then.{by_le}
use Rattle.answer.specs.Refusal.{accepted, not_rounds, too_short, number_of, overwrite, afterwards}
use Rattle.answer.specs.declared.Refusal.{Refusal}
use Rattle.answer.specs.declared.Refusal.TheVariants.{TooShort}
use Rattle.answer.proofs.Laws.{still-if, passed-if, none_told_lem, kept, written, number-refused, sets-overwrite}
use Rattle.answer.proofs.Refusals.{rounds-passed, room-refused}
use Rattle.verdict.specs.CoreAndRound.{verdict_for}
use Rattle.verdict.specs.declared.Verdict.{Verdict}
use Rattle.verdict.specs.declared.Verdict.TheVariants.{Refused}
use Rattle.judge.specs.Checks.{not_rows}
use Rattle.judge.proofs.Passed.{rows-passed}
use Rattle.sort_places.specs.Places.{place_count}
use Rattle.judge_within.specs.Within.{within_refusal, within_for, within_after}
use Rattle.judge_within.proofs.Within.{Passed, room-later, within-refused, within_same}
use Rattle.verdict_line.specs.Line.{LINE-MOST, Judged, line_by, refused_by, line_at, line_refusal, line_answer, line_after}
use Rattle.verdict_line.specs.Line.{within_line_refusal, within_line_answer, within_line_after, within_line_left}
use Rattle.verdict_line.specs.Lent.{Ready}
use Rattle.verdict_line.proofs.Tuples.{Small}
use Rattle.verdict_line.proofs.Refusals.{judged-later, refused-first, line_refused, line-fits}
use Rattle.verdict_line.proofs.Shows.{Put, no_line}
use Rattle.verdict_line.proofs.Lent.{ready-later, by-ready, lent-passed, judged-same, lent-judged, by-refusal}
use Rattle.std.specs.Prelude.{Result, Err}

told : {x y : Refusal} → some x ≡ some y → x ≡ y
told e = cc

same-refusal : {x y : Refusal} → Refused x ≡ Refused y → x ≡ y
same-refusal e = cc

-- one or the other
by-short : {P : Type 0} (nr : ℕ) (core round : List ℕ) (room : ℕ) → (Ready nr core round → room < LINE-MOST → P) →
    ((Ready nr core round → room < LINE-MOST → ⊥) → P) → P
by-short nr core round room f g =
    by-ready nr core round
    (λ h. by_le LINE-MOST room (λ l. g (λ r m. omega (arith, l, m))) (λ l. f h l))
    (λ x out. g (λ r m. none_told_lem (sym (ready-later nr core round accepted r) ∙ out accepted)))

module _ (nr : ℕ) (core round : List ℕ) (room scratch spare : ℕ) where
  -- ---- the checks
  pub line-stops : {r : Refusal} → not_rounds nr (not_rows core round (too_short room LINE-MOST accepted)) ≡ some r →
      within_line_refusal nr core round room scratch spare ≡ some r
  unfolding within_line_refusal
  line-stops = still-if _ _ (still-if _ _ (still-if _ _ (still-if _ _ (still-if _ _ (λ e. absurd (none_told_lem e))))))

  -- 3, after 8 and 2, detail the bytes that are always enough
  line-lent-short : Ready nr core round → room < LINE-MOST → within_line_refusal nr core round room scratch spare ≡ some (TooShort LINE-MOST)
  unfolding within_line_refusal
  line-lent-short h l = ready-later nr core round _ h ∙ room-refused room LINE-MOST _ l

  -- else as the verdict in lent memory
  line-lent-else : (Ready nr core round → room < LINE-MOST → ⊥) → within_line_refusal nr core round room scratch spare ≡ within_refusal nr core round scratch spare
  unfolding within_line_refusal within_refusal
  line-lent-else none-short =
      by-ready nr core round
      (λ h.
      by_le LINE-MOST room
      (λ l. ready-later nr core round _ h ∙ room-later room LINE-MOST _ l ∙ sym (ready-later nr core round _ h))
      (λ l. absurd (none-short h l)))
      (λ r out. out _ ∙ sym (out _))

  line-lent-room : LINE-MOST ≤ room → within_line_refusal nr core round room scratch spare ≡ within_refusal nr core round scratch spare
  line-lent-room l = line-lent-else (λ h m. omega (arith, l, m))

  pub line-goes-on : (later : Option Refusal) → not_rounds nr (not_rows core round (too_short room LINE-MOST later)) ≡ none → LINE-MOST ≤ room
  line-goes-on later e =
      let a = rounds-passed nr _ e in
      let b = rows-passed core round _ a.2 in
      ltb-false room LINE-MOST (passed-if _ _ _ b.2).0

  -- ---- both ways
  line-room : within_line_refusal nr core round room scratch spare ≡ accepted → LINE-MOST ≤ room
  unfolding within_line_refusal
  line-room e = line-goes-on _ e

  pub line-lent-accepted : (within_line_refusal nr core round room scratch spare ≡ accepted) ↔ (Passed nr core round scratch spare × (LINE-MOST ≤ room))
  line-lent-accepted = (
    (λ e. ((lent-passed nr core round scratch spare).0 (sym (line-lent-room (line-room e)) ∙ e), line-room e)),
    λ h. line-lent-room h.1 ∙ (lent-passed nr core round scratch spare).1 h.0,
  )

  -- refused exactly as the verdict in lent memory is
  within-told : (r : Refusal) → (within_refusal nr core round scratch spare ≡ some r) ↔ (within_for nr core round scratch spare ≡ Refused r)
  within-told r = (
    (λ e. sym (within-refused nr core round scratch spare e)),
    λ e.
        by-refusal nr core round scratch spare
        (λ h. absurd (subst Judged e (lent-judged nr core round scratch spare h)))
        (λ x q. q ∙ ap some (same-refusal (within-refused nr core round scratch spare q ∙ e))),
  )

  pub line-lent-says : (r : Refusal) → (within_line_refusal nr core round room scratch spare ≡ some r)
      ↔ ((Ready nr core round × (room < LINE-MOST) × (r ≡ TooShort LINE-MOST))
      ⊎ ((Ready nr core round → room < LINE-MOST → ⊥) × (within_for nr core round scratch spare ≡ Refused r)))
  line-lent-says r = (
    (λ e.
        by-short nr core round room
        (λ h l. inl (h, l, told (sym e ∙ line-lent-short h l)))
        (λ none-short. inr (none-short, (within-told r).0 (sym (line-lent-else none-short) ∙ e)))),
    λ q. elim q [
      | inl h ↦ line-lent-short h.0 h.1 ∙ ap some (sym h.2)
      | inr h ↦ line-lent-else h.0 ∙ (within-told r).1 h.1
    ],
  )

  -- ---- what is left in a slice
  pub slice-left : LINE-MOST ≤ room → (old : List ℕ) → within_after nr core round scratch spare old ≡ within_line_left nr core round room scratch spare old
  unfolding within_after within_line_left
  slice-left l old = let e = sym (line-lent-room l) in λ t. afterwards (e t) (overwrite (tab (place_count core round) (λ k. 0)) old) old

  pub slice_kept : {r : Refusal} → within_line_refusal nr core round room scratch spare ≡ some r → (old : List ℕ) → old ≡ within_line_left nr core round room scratch spare old
  unfolding within_line_left
  slice_kept e old = kept (overwrite (tab (place_count core round) (λ k. 0)) old) old e

  pub line-lent-left : within_line_refusal nr core round room scratch spare ≡ accepted → (old : List ℕ) →
      within_line_left nr core round room scratch spare old ≡ within_after nr core round scratch spare old
  line-lent-left e old = sym (slice-left (line-room e) old)

  pub answer-refused : {r : Refusal} → within_line_refusal nr core round room scratch spare ≡ some r → Err r ≡ within_line_answer nr core round room scratch spare
  unfolding within_line_answer
  answer-refused e = number-refused (length (line_at nr core round)) e

-- ---- the bytes
module _ (nr : ℕ) (core round : List ℕ) (scratch spare : ℕ) (bytes : List ℕ) where
  pub bytes-kept : {r : Refusal} → within_line_refusal nr core round (length bytes) scratch spare ≡ some r → bytes ≡ within_line_after nr core round scratch spare bytes
  unfolding within_line_after
  bytes-kept e = kept (overwrite (line_at nr core round) bytes) bytes e

  -- what `put_line` says of the verdict in lent memory is what the call says
  module _ {v : Verdict} (is : v ≡ within_for nr core round scratch spare) {a : Result ℕ Refusal} {after : List ℕ} (put : Put nr core round v a bytes after)
      (room : LINE-MOST ≤ length bytes) where
    pub line-answered : (a ≡ within_line_answer nr core round (length bytes) scratch spare) × (after ≡ within_line_after nr core round scratch spare bytes)
    unfolding within_line_answer within_line_after
    line-answered =
        let same = line-lent-room nr core round (length bytes) scratch spare room in
        by-refusal nr core round scratch spare
        (λ h.
        let j = lent-judged nr core round scratch spare h in
        let o : within_line_refusal nr core round (length bytes) scratch spare ≡ none = same ∙ (lent-passed nr core round scratch spare).1 h in
        let w : v ≡ verdict_for nr core round = is ∙ judged-same nr core round scratch spare j in
        let u : refused_by v accepted ≡ accepted = judged-later v accepted (subst Judged (sym is) j) in
        let e : line_by nr core round v ≡ line_at nr core round = ap (line_by nr core round) w in (
          put.0 ∙ (λ t. number_of (length (e t)) ((u ∙ sym o) t)),
          written bytes o (put.1.0 ∙ sets-overwrite bytes (line_by nr core round v) (omega (arith, put.1.1, room)) ∙ (λ t. overwrite (e t) bytes)),
        ))
        (λ r q.
        let w : v ≡ Refused r = is ∙ sym (within-refused nr core round scratch spare q) in
        let e : line_by nr core round v ≡ [] = ap (line_by nr core round) w ∙ no_line nr core round r in (
          put.0 ∙ sym (number-refused (length (line_by nr core round v)) (refused-first v accepted r w)) ∙ number-refused (length (line_at nr core round)) (same ∙ q),
          put.1.0 ∙ ap (sets bytes 0) e ∙ kept (overwrite (line_at nr core round) bytes) bytes (same ∙ q),
        ))

  -- ---- the line of `verdict_line`, for tables that fit in memory
  pub lines_same : Small (length core) → Small (length round) → LINE-MOST ≤ length bytes → place_count core round ≤ scratch → place_count core round ≤ spare →
      (within_line_answer nr core round (length bytes) scratch spare ≡ line_answer nr core round bytes)
      × (within_line_after nr core round scratch spare bytes ≡ line_after nr core round bytes)
  unfolding within_line_answer within_line_after
  lines_same c d room l m =
      let q : within_line_refusal nr core round (length bytes) scratch spare ≡ line_refusal nr core round (length bytes) =
      line-lent-room nr core round (length bytes) scratch spare room ∙ refusals-same c d room l m in (
        (λ t. number_of (length (line_at nr core round)) (q t)),
        (λ t. afterwards (q t) (overwrite (line_at nr core round) bytes) bytes),
      )
    where
      refusals-same : Small (length core) → Small (length round) → LINE-MOST ≤ length bytes → place_count core round ≤ scratch → place_count core round ≤ spare →
          within_refusal nr core round scratch spare ≡ line_refusal nr core round (length bytes)
      refusals-same c d room l m =
          let e = within_same nr core round scratch spare l m in
          by-refusal nr core round scratch spare
          (λ h.
          (lent-passed nr core round scratch spare).1 h
          ∙ sym (line-fits nr core round (length bytes) c d room (subst Judged e (lent-judged nr core round scratch spare h))))
          (λ r q. q ∙ sym (line_refused nr core round (length bytes) r (sym e ∙ sym (within-refused nr core round scratch spare q))))
