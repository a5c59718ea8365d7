-- What `dedup_is_wh_rows` answers and leaves, from what its checks found. C, S and R are the slices lent for the codes, the
-- sort and the rows.
use mathlib.Core.Path.{◌≡◌, sym, ap, subst, ◌∙◌}
use mathlib.Core.Option.{none, some}
use mathlib.Core.List.{List}
use Prim.Native.Nat.{ℕ, ◌*◌, ◌/◌, ◌≤◌, ◌<◌, ◌^◌}
use native.Mathlib.Omega.{arith}
use lib.Dec.{ltb}
use lib.ListN.{length, take, drop}
use lib.Seq.{sets, take_at}
use Rattle.lists.proofs.Laws.{sets-front}
use Rattle.answer.specs.declared.Refusal.{Refusal}
use Rattle.answer.proofs.Laws.{kept, written, number-refused, number_is, sets-overwrite, new-words, old-words}
use Rattle.sort.specs.Sorted.{sorted, Ascends}
use Rattle.sort.proofs.Laws.{length-sorted}
use Rattle.sort.proofs.Words.{sorted-ascends}
use Rattle.is_wh_rows.specs.Rows.{Row, key_code, codes, rows_of, flat}
use Rattle.is_wh_rows.specs.Loads.{loads, total, rows_in}
use Rattle.is_wh_rows.specs.Calls.{dedup_refusal, dedup_answer, loads_after, rows_after}
use Rattle.is_wh_rows.proofs.Weights.{total-sorted, loads-total}
use Rattle.is_wh_rows.proofs.Flat.{length-flat}
use Rattle.is_wh_rows.proofs.Refusals.{loads-few, sorted-rows, rows_few, dedup-passed}
use Rattle.std.specs.Prelude.{Result, Ok, Err}

module _ (keys C S R : List ℕ) where
  abbrev Left : Result ℕ Refusal → List ℕ → List ℕ → List ℕ → Type 0
  Left answer C₁ S₁ R₁ =
      (answer ≡ dedup_answer (length C) (length S) (length R) keys)
      × ((C₁ ≡ loads_after (length C) (length S) (length R) keys C)
      × ((S₁ ≡ loads_after (length C) (length S) (length R) keys S) × (R₁ ≡ rows_after (length C) (length S) keys R)))

  pub keys-refused : {q : Refusal} → dedup_refusal (length C) (length S) (length R) keys ≡ some q → Left (Err q) C S R
  unfolding dedup_answer loads_after rows_after
  keys-refused e = (number-refused _ e, (kept _ C e, (kept _ S e, kept _ R e)))

  module _ (ok : dedup_refusal (length C) (length S) (length R) keys ≡ none) (C₁ S₁ : List ℕ) (m : ℕ)
      (em : m ≡ length (loads keys)) (ec : C₁ ≡ sets C 0 (sorted (loads keys))) (es : S₁ ≡ sets S 0 (sorted (loads keys))) where
    long : length (sorted (loads keys)) ≡ m
    long = length-sorted ltb (loads keys) ∙ sym em

    pub front_fits : m ≤ length C
    front_fits = omega (arith, long, loads-few keys, (dedup-passed (length C) (length S) (length R) keys ok).0.codes-long)

    front : take m C₁ ≡ sorted (loads keys)
    front = ap (take m) (ec ∙ sets-front C (sorted (loads keys)) m long front_fits) ∙ take_at (sorted (loads keys)) (drop m C) m long

    pub front_long : m ≡ length (take m C₁)
    front_long = sym (ap length front ∙ long)

    front-rows : rows_in (take m C₁) ≡ rows_of (codes keys)
    front-rows = ap rows_in front ∙ sorted-rows keys

    -- what the writer of the rows asks for
    pub front-asked : Ascends (take m C₁) × (total (take m C₁) < 2 ^ 63) × (3 * length (rows_in (take m C₁)) ≤ length R)
    unfolding loads
    front-asked =
        let a = (dedup-passed (length C) (length S) (length R) keys ok).0 in
        let t : total (take m C₁) ≡ length keys / 2 = ap total front ∙ total-sorted (loads keys) ∙ loads-total (key_code keys) (length keys / 2) in (
          subst Ascends (sym front) (sorted-ascends (loads keys)),
          omega (arith, a.good.few),
          omega (arith, ap length front-rows, rows_few keys, a.rows_long),
        )

    pub rows-done : {count : ℕ} {R₁ : List ℕ} → count ≡ length (rows_in (take m C₁)) → R₁ ≡ sets R 0 (flat (rows_in (take m C₁))) → Left (Ok count) C₁ S₁ R₁
    unfolding dedup_answer loads_after rows_after
    rows-done e er =
        let a = (dedup-passed (length C) (length S) (length R) keys ok).0 in
        let new = flat (rows_of (codes keys)) in (
          number_is ok (e ∙ ap length front-rows),
          (
            written C ok (ec ∙ sets-overwrite C (sorted (loads keys)) (omega (arith, loads-few keys, a.codes-long))),
            (
              written S ok (es ∙ sets-overwrite S (sorted (loads keys)) (omega (arith, loads-few keys, a.spare-long))),
              written R ok (er ∙ ap (λ (r : List Row). sets R 0 (flat r)) front-rows ∙ sets-overwrite R new (omega (arith, length-flat (rows_of (codes keys)), rows_few keys, a.rows_long))),
            ),
          ),
        )

  -- of what an accepted call leaves: the rows first, and past them what was there
  module _ (ok : dedup_refusal (length C) (length S) (length R) keys ≡ none) where
    pub rows_start : take (3 * length (rows_of (codes keys))) (rows_after (length C) (length S) keys R) ≡ flat (rows_of (codes keys))
    unfolding rows_after
    rows_start =
        ap (λ (n : ℕ). take n (rows_after (length C) (length S) keys R)) (sym (length-flat (rows_of (codes keys)))) ∙ new-words (flat (rows_of (codes keys))) R ok

    pub rows-past : drop (3 * length (rows_of (codes keys))) (rows_after (length C) (length S) keys R) ≡ drop (3 * length (rows_of (codes keys))) R
    unfolding rows_after
    rows-past =
        ap (λ (n : ℕ). drop n (rows_after (length C) (length S) keys R)) (sym (length-flat (rows_of (codes keys))))
        ∙ old-words (flat (rows_of (codes keys))) R ok
        ∙ ap (λ (n : ℕ). drop n R) (length-flat (rows_of (codes keys)))
