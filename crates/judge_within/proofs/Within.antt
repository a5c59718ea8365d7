-- The verdict in lent memory: its checks, what it is, and what it leaves in the slices.
--     Passed                what is known where nothing is refused
--     rounds-first, rows_next, room_next, words_last   the checks, one after the other
--     within-passed         where nothing is refused, it is the verdict from the core values on
--     within_same           where both slices have room, it is the verdict of `verdict`
--     after-zeros, after-refused   what a slice holds whose front was used and then set to zeros
use mathlib.Core.Path.{◌≡◌, refl, sym, ap, subst, ◌∙◌}
use mathlib.Core.Option.{Option, none, some}
use mathlib.Core.List.{List, ◌++◌}
use Prim.Native.Nat.{ℕ, ◌+◌, ◌≤◌}
use native.Mathlib.Omega.{arith}
use borrow.Author.Tests.{ltb-false, le-ltb}
use lib.ListN.{length, take, drop, length-append}
use lib.Seq.{sets, drop_at, length-take-le}
use Rattle.lists.specs.Tab.{tab}
use Rattle.lists.proofs.Laws.{sets-front, length-tab}
use Rattle.answer.specs.Refusal.{accepted, not_rounds, too_short, overwrite}
use Rattle.answer.specs.declared.Refusal.{Refusal}
use Rattle.answer.specs.Limits.{MAX-ROUNDS}
use Rattle.answer.proofs.Laws.{still-if, passed-if, none_told_lem, refuse-no, kept, written}
use Rattle.answer.proofs.Refusals.{rounds-passed, rounds-later, rounds-still, by-rounds}
use Rattle.verdict.specs.Kind.{Whole, Elements}
use Rattle.verdict.specs.Verdict.{stage, from_core_value}
use Rattle.verdict.specs.CoreAndRound.{core_layout, round_layout, core_kind, round_kind, verdict_at, verdict_for}
use Rattle.verdict.specs.declared.Verdict.{Verdict}
use Rattle.verdict.specs.declared.Verdict.TheVariants.{Refused}
use Rattle.verdict.proofs.Stages.{passes, answers}
use Rattle.judge.specs.Checks.{not_rows, not_words}
use Rattle.judge.proofs.Passed.{rows-still, rows-passed, rows-later, words-passed, verdict-checked, verdict-passed}
use Rattle.sort_places.specs.Places.{place_count}
use Rattle.judge_within.specs.Within.{within_refusal, within_for, within_after}

room-passed : (room needed : ℕ) (later : Option Refusal) → too_short room needed later ≡ none → (needed ≤ room) × (later ≡ none)
room-passed room needed later e = let a = passed-if _ _ _ e in (ltb-false room needed a.0, a.1)

pub room-later : (room needed : ℕ) (later : Option Refusal) → needed ≤ room → too_short room needed later ≡ later
room-later room needed later l = refuse-no _ (le-ltb room needed l) refl

twice : (o : Option Refusal) (v : Verdict) → stage o Refused (stage o Refused v) ≡ stage o Refused v
unfolding stage
twice none v = refl
twice (some r) v = refl

module _ (nr : ℕ) (core round : List ℕ) (scratch spare : ℕ) where
  pub record Passed : Type 0 where
    pub some-rounds : 1 ≤ nr
    pub most-rounds : nr ≤ MAX-ROUNDS
    pub core-whole : Whole core_layout core
    pub round_whole : Whole round_layout round
    pub room : place_count core round ≤ scratch
    pub spare-room : place_count core round ≤ spare
    pub core-elements : Elements core
    pub round-elements : Elements round

  pub all-passed : within_refusal nr core round scratch spare ≡ none → Passed
  unfolding within_refusal
  all-passed e =
      let a = rounds-passed nr _ e in
      let b = rows-passed core round _ a.2 in
      let c = room-passed scratch (place_count core round) _ b.2 in
      let d = room-passed spare (place_count core round) _ c.1 in
      let f = words-passed core round accepted d.1 in
      record {
        some-rounds = a.0;
        most-rounds = a.1;
        core-whole = b.0;
        round_whole = b.1;
        room = c.0;
        spare-room = d.0;
        core-elements = f.0;
        round-elements = f.1;
      }

  -- ---- one check after the other
  pub rounds-first : {r : Refusal} → not_rounds nr accepted ≡ some r → within_refusal nr core round scratch spare ≡ some r
  unfolding within_refusal
  rounds-first e = rounds-still nr _ e

  module _ (a : not_rounds nr accepted ≡ none) where
    after-rounds : (later : Option Refusal) → not_rounds nr later ≡ later
    after-rounds later = let h = rounds-passed nr accepted a in rounds-later nr later h.0 h.1

    pub rows_next : {r : Refusal} → not_rows core round accepted ≡ some r → within_refusal nr core round scratch spare ≡ some r
    unfolding within_refusal
    rows_next e = after-rounds _ ∙ rows-still core round _ e

    module _ (b : not_rows core round accepted ≡ none) where
      after-rows : (later : Option Refusal) → not_rows core round later ≡ later
      after-rows later = let h = rows-passed core round accepted b in rows-later core round later h.0 h.1

      pub room_next : {r : Refusal} (n : ℕ) → n ≡ place_count core round → too_short scratch n (too_short spare n accepted) ≡ some r → within_refusal nr core round scratch spare ≡ some r
      unfolding within_refusal
      room_next {r} n q e =
          let z : too_short scratch (place_count core round) (too_short spare (place_count core round) accepted) ≡ some r = subst (λ (m : ℕ). too_short scratch m (too_short spare m accepted) ≡ some r) q e in
          after-rounds _ ∙ after-rows _ ∙ still-if _ _ (still-if _ _ (λ x. absurd (none_told_lem x))) z

      pub words_last : (n : ℕ) → n ≡ place_count core round → too_short scratch n (too_short spare n accepted) ≡ none →
          not_words core round accepted ≡ within_refusal nr core round scratch spare
      unfolding within_refusal
      words_last n q e =
          let c = room-passed scratch n _ e in
          let d = room-passed spare n _ c.1 in
          let f = c.0 in
          let g = d.0 in
          sym (after-rounds _ ∙ after-rows _ ∙ room-later scratch (place_count core round) _ (omega arith) ∙ room-later spare (place_count core round) _ (omega arith))

  -- ---- the verdict
  pub within-refused : {r : Refusal} → within_refusal nr core round scratch spare ≡ some r → Refused r ≡ within_for nr core round scratch spare
  unfolding within_for
  within-refused {r} e = sym (answers _ _ _ r e)

  pub within-passed : within_refusal nr core round scratch spare ≡ none → from_core_value (core_kind nr) round_kind core round ≡ within_for nr core round scratch spare
  unfolding within_for
  within-passed e =
      let h = all-passed e in
      sym (passes _ _ _ e ∙ verdict-passed nr core round h.core-whole h.round_whole h.core-elements h.round-elements)

  pub within_same : place_count core round ≤ scratch → place_count core round ≤ spare → within_for nr core round scratch spare ≡ verdict_for nr core round
  unfolding within_for within_refusal verdict_for
  within_same l m =
      ap (λ (o : Option Refusal). stage (not_rounds nr (not_rows core round o)) Refused (verdict_at nr core round)) (room-later scratch (place_count core round) _ l ∙ room-later spare (place_count core round) _ m)
      ∙ by-rounds nr
      (λ a b.
      ap (λ (o : Option Refusal). stage o Refused (verdict_at nr core round)) (rounds-later nr _ a b)
      ∙ ap (stage (not_rows core round (not_words core round accepted)) Refused) (verdict-checked nr core round)
      ∙ twice (not_rows core round (not_words core round accepted)) (from_core_value (core_kind nr) round_kind core round)
      ∙ sym (verdict-checked nr core round)
      ∙ sym (passes _ _ _ (rounds-later nr accepted a b)))
      (λ h. answers _ _ _ _ (h _) ∙ sym (answers _ _ _ _ (h accepted)))

-- ---- what is left
abbrev pub zeros : ℕ → List ℕ
zeros n = tab n (λ k. 0)

pub zeros-left : (old x new : List ℕ) (n : ℕ) → n ≤ length old → length x ≡ length (take n old) → new ≡ sets (x ++ drop n old) 0 (zeros n) → new ≡ overwrite (zeros n) old
unfolding overwrite
zeros-left old x new n l h e =
    let lx : length x ≡ n = h ∙ length-take-le n old l in
    let lz : length (zeros n) ≡ n = length-tab n (λ (k : ℕ). 0) in
    e
    ∙ sets-front (x ++ drop n old) (zeros n) n lz (omega (arith, length-append x (drop n old)))
    ∙ ap (λ (r : List ℕ). zeros n ++ r) (drop_at x (drop n old) n lx ∙ ap (λ (m : ℕ). drop m old) (sym lz))

pub front-room : (old x : List ℕ) (n : ℕ) → n ≤ length old → length x ≡ length (take n old) → 0 + n ≤ length (x ++ drop n old)
front-room old x n l h = omega (arith, h ∙ length-take-le n old l, length-append x (drop n old))

-- the slice after the call, where n words of it were used
pub after-zeros : (nr : ℕ) (core round old x new : List ℕ) (scratch spare n : ℕ) → within_refusal nr core round scratch spare ≡ none → n ≡ place_count core round → n ≤ length old →
    length x ≡ length (take n old) → new ≡ sets (x ++ drop n old) 0 (zeros n) → new ≡ within_after nr core round scratch spare old
unfolding within_after
after-zeros nr core round old x new scratch spare n e q l h z =
    written old e (zeros-left old x new n l h z ∙ ap (λ (m : ℕ). overwrite (zeros m) old) q)

-- and as it was where the call was refused
pub after-refused : (nr : ℕ) (core round old : List ℕ) (scratch spare : ℕ) {r : Refusal} → within_refusal nr core round scratch spare ≡ some r → old ≡ within_after nr core round scratch spare old
unfolding within_after
after-refused nr core round old scratch spare e = kept (overwrite (zeros (place_count core round)) old) old e
