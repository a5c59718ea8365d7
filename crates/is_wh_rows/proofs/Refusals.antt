-- When `dedup_is_wh_rows` is refused: exactly where one of its checks fails, and each with its detail. What it needs for the
-- rows is enough: there are no more rows than keys.
use mathlib.Core.Path.{◌≡◌, refl, ap, ◌∙◌}
use mathlib.Core.Logic.{◌↔◌}
use mathlib.Core.Option.{none, some}
use mathlib.Core.List.{List}
use Prim.Native.Nat.{ℕ, ◌*◌, ◌/◌, ◌%◌, ◌≤◌, ◌<◌}
use native.Mathlib.Omega.{arith}
use borrow.Author.Tests.{lt-ltb, le-ltb, ltb-false}
use lib.Dec.{ltb}
use lib.ListN.{length}
use Rattle.lists.specs.First.{first_at}
use Rattle.answer.specs.Refusal.{accepted, too_short}
use Rattle.answer.specs.declared.Refusal.{Refusal}
use Rattle.answer.specs.declared.Refusal.TheVariants.{PastEnd, NotWhole, TooShort, NotElement}
use Rattle.answer.proofs.Laws.{refuse-yes, refuse-no, at-yes, at-no, passed-if, passed-at, still-if}
use Rattle.sort.specs.Sorted.{sorted}
use Rattle.sort.proofs.Laws.{length-sorted}
use Rattle.sort.proofs.Words.{sorted-ascends}
use Rattle.is_wh_rows.specs.Rows.{key_code, codes, rows_of}
use Rattle.is_wh_rows.specs.Loads.{loads, rows_in}
use Rattle.is_wh_rows.specs.Lists.{MAX-KEYS, bad_at, too_many_in, ragged_in, GoodList}
use Rattle.is_wh_rows.specs.Calls.{dedup_refusal}
use Rattle.is_wh_rows.proofs.Lists.{few-pass, whole-pass, many-refused, ragged-refused, entries-refused, entries-passed, all-below, none-bad}
use Rattle.is_wh_rows.proofs.Weights.{rows-sorted, loads-long, loads-rows}
use Rattle.is_wh_rows.proofs.Scan.{few-rows}

-- ---- no more rows than keys
pub loads-few : (keys : List ℕ) → length (sorted (loads keys)) ≤ length keys / 2
unfolding loads
loads-few keys = omega (arith, length-sorted ltb (loads keys), loads-long (key_code keys) (length keys / 2))

pub sorted-rows : (keys : List ℕ) → rows_in (sorted (loads keys)) ≡ rows_of (codes keys)
unfolding loads codes
sorted-rows keys = rows-sorted (loads keys) ∙ loads-rows (key_code keys) (length keys / 2)

pub rows_few : (keys : List ℕ) → length (rows_of (codes keys)) ≤ length keys / 2
rows_few keys = omega (arith, ap length (sorted-rows keys), few-rows (sorted (loads keys)) (sorted-ascends (loads keys)), loads-few keys)

-- ---- the checks
module _ (room spare rows : ℕ) (keys : List ℕ) where
  pub dedup-many : MAX-KEYS < length keys / 2 → dedup_refusal room spare rows keys ≡ some (PastEnd 2236962126)
  unfolding dedup_refusal
  dedup-many h = many-refused 2 keys _ h

  pub dedup-entries : {q : Refusal} → too_many_in 2 keys (ragged_in 2 keys accepted) ≡ some q → dedup_refusal room spare rows keys ≡ some q
  unfolding dedup_refusal
  dedup-entries e = entries-refused 2 keys _ e

  module _ (few : length keys / 2 ≤ MAX-KEYS) where
    pub dedup-ragged : (length keys % 2 ≡ 0 → ⊥) → dedup_refusal room spare rows keys ≡ some (NotWhole 2)
    unfolding dedup_refusal
    dedup-ragged h = few-pass 2 keys few (ragged-refused 2 keys _ h)

    module _ (whole : length keys % 2 ≡ 0) where
      -- the three slices, where another function looked at them
      pub dedup-room : {q : Refusal} → too_short room (length keys / 2) (too_short spare (length keys / 2) (too_short rows (3 * (length keys / 2)) accepted)) ≡ some q
          → dedup_refusal room spare rows keys ≡ some q
      unfolding dedup_refusal
      dedup-room e = few-pass 2 keys few (whole-pass 2 keys whole (still-if _ _ (still-if _ _ (still-if _ _ (λ q. cc))) e))

      pub codes-short : room < length keys / 2 → dedup_refusal room spare rows keys ≡ some (TooShort (length keys / 2))
      codes-short h = dedup-room (refuse-yes _ _ (lt-ltb room (length keys / 2) h))

      pub spare-short : length keys / 2 ≤ room → spare < length keys / 2 → dedup_refusal room spare rows keys ≡ some (TooShort (length keys / 2))
      spare-short c h = dedup-room (refuse-no _ (le-ltb room (length keys / 2) c) (refuse-yes _ _ (lt-ltb spare (length keys / 2) h)))

      pub rows_short : length keys / 2 ≤ room → length keys / 2 ≤ spare → rows < 3 * (length keys / 2) → dedup_refusal room spare rows keys ≡ some (TooShort (3 * (length keys / 2)))
      rows_short c s h = dedup-room (refuse-no _ (le-ltb room (length keys / 2) c) (refuse-no _ (le-ltb spare (length keys / 2) s) (refuse-yes _ _ (lt-ltb rows (3 * (length keys / 2)) h))))

      module _ (long : too_short room (length keys / 2) (too_short spare (length keys / 2) (too_short rows (3 * (length keys / 2)) accepted)) ≡ accepted) where
        pub key-bad : (k : ℕ) → first_at (bad_at 2 keys) (length keys) ≡ some k → dedup_refusal room spare rows keys ≡ some (NotElement k)
        unfolding dedup_refusal
        key-bad k h =
            let a = passed-if _ _ _ long in
            let b = passed-if _ _ _ a.1 in
            let d = passed-if _ _ _ b.1 in
            few-pass 2 keys few (whole-pass 2 keys whole (refuse-no _ a.0 (refuse-no _ b.0 (refuse-no _ d.0 (at-yes NotElement none h)))))

        pub keys-pass : first_at (bad_at 2 keys) (length keys) ≡ none → dedup_refusal room spare rows keys ≡ accepted
        unfolding dedup_refusal
        keys-pass h =
            let a = passed-if _ _ _ long in
            let b = passed-if _ _ _ a.1 in
            let d = passed-if _ _ _ b.1 in
            few-pass 2 keys few (whole-pass 2 keys whole (refuse-no _ a.0 (refuse-no _ b.0 (refuse-no _ d.0 (at-no NotElement h refl)))))

  -- none of the conditions holds
  pub record Acceptable : Type 0 where
    pub good : GoodList 2 keys
    pub codes-long : length keys / 2 ≤ room
    pub spare-long : length keys / 2 ≤ spare
    pub rows_long : 3 * (length keys / 2) ≤ rows

  pub dedup-passed : dedup_refusal room spare rows keys ≡ accepted → Acceptable × (first_at (bad_at 2 keys) (length keys) ≡ none)
  unfolding dedup_refusal
  dedup-passed e =
      let q = entries-passed 2 keys _ e in
      let r = passed-if _ _ _ q.2 in
      let s = passed-if _ _ _ r.1 in
      let t = passed-if _ _ _ s.1 in
      let u = passed-at _ _ _ t.1 in
      (record { good = record { few = q.0; whole = q.1; below = all-below 2 keys u.0 }; codes-long = ltb-false _ _ r.0; spare-long = ltb-false _ _ s.0; rows_long = ltb-false _ _ t.0 }, u.0)

  -- accepted exactly then
  pub dedup-accepted : (dedup_refusal room spare rows keys ≡ accepted) ↔ Acceptable
  dedup-accepted = (
    (λ e. (dedup-passed e).0),
    λ g.
        keys-pass g.good.few g.good.whole
        (refuse-no _ (le-ltb room (length keys / 2) g.codes-long) (refuse-no _ (le-ltb spare (length keys / 2) g.spare-long) (refuse-no _ (le-ltb rows (3 * (length keys / 2)) g.rows_long) refl)))
        (none-bad 2 keys g.good.below),
  )
