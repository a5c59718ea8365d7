-- Which places are sorted: what the code finds, one test after the other; and these places in front of a slice.
--     Put    the places below p that are wanted, in front of a slice
use mathlib.Core.Path.{◌≡◌, refl, sym, ap, ap₂, ◌∙◌}
use mathlib.Core.Bool.{Bool, true, false}
use mathlib.Core.List.{List, [], ◌∷◌, ◌++◌, append-nil}
use Prim.Native.Nat.{ℕ, zero, suc, ◌+◌, ◌-◌, ◌/◌, ◌%◌, ◌≤◌, ◌<◌}
use native.Mathlib.Omega.{arith}
use native.Mathlib.Numerals.{add-one}
use borrow.Author.Tests.{eq-eqb, ne_eqb, lt-ltb, le-ltb}
use lib.Dec.{eqb}
use lib.ListN.{length, take, drop, set, length-set, length-append}
use lib.Seq.{sets, take_at, drop_at, length-sets}
use Rattle.lists.specs.Select.{cons_if}
use Rattle.lists.proofs.Laws.{sets-append, sets-front}
use Rattle.verdict.specs.Kind.{active}
use Rattle.verdict.specs.declared.Table.TheVariants.{Core, Round}
use Rattle.judge_scan.specs.Tables.{layout_of}
use Rattle.sort.specs.Sorted.{sorted_by}
use Rattle.sort_places.specs.Order.{key_width, before}
use Rattle.sort_places.specs.Places.{core_places, place_count}
use Rattle.sort.proofs.Laws.{length-sorted}
use Rattle.judge_within.specs.Chosen.{chosen}
use Rattle.judge_within.specs.Places.{active_place, sends_at, sends, stamp_place, wanted, arranged}
use Rattle.judge_within.proofs.Balance.{core-place, round-place}

module _ (core round : List ℕ) (p : ℕ) where
  pub core-active : p < core_places core → active (layout_of Core) core (p / 2) ≡ active_place core round p
  core-active l = sym (core-place 0 core round p l).on

  round-at : core_places core ≤ p → core_places core + (p - core_places core) ≡ p
  round-at l = omega arith

  pub round-active : core_places core ≤ p → active (layout_of Round) round ((p - core_places core) / 2) ≡ active_place core round p
  round-active l = sym (round-place 0 core round (p - core_places core)).on ∙ ap (active_place core round) (round-at l)

  pub core-sent : p < core_places core → eqb (p % 2) 0 ≡ sends core p
  unfolding sends_at
  core-sent l = sym (core-place 0 core round p l).send

  pub round-sent : core_places core ≤ p → eqb ((p - core_places core) % 2) 1 ≡ sends core p
  unfolding sends_at
  round-sent l = sym (round-place 0 core round (p - core_places core)).send ∙ ap (sends core) (round-at l)

  pub all_wanted : (whole : Bool) → whole ≡ true → active_place core round p ≡ wanted whole core round p
  unfolding wanted
  all_wanted whole e = sym (rw e)

  pub late-unwanted : (whole : Bool) → whole ≡ false → core_places core ≤ p → false ≡ wanted whole core round p
  unfolding wanted stamp_place
  late-unwanted whole e l = sym (rw (e, le-ltb p (core_places core) l))

  pub second-unwanted : (whole : Bool) → whole ≡ false → p < core_places core → (p % 2 ≡ 0 → ⊥) → false ≡ wanted whole core round p
  unfolding wanted stamp_place
  second-unwanted whole e l n = sym (rw (e, lt-ltb p (core_places core) l, ne_eqb (p % 2) 0 n))

  pub first-wanted : (whole : Bool) → whole ≡ false → p < core_places core → p % 2 ≡ 0 → active_place core round p ≡ wanted whole core round p
  unfolding wanted stamp_place
  first-wanted whole e l z = sym (rw (e, lt-ltb p (core_places core) l, eq-eqb (p % 2) 0 z))

-- ---- in front of a slice
-- no more than n are chosen
pub chosen-few : (t : ℕ → Bool) (n : ℕ) → length (chosen t n) ≤ n
unfolding chosen
chosen-few t zero = omega arith
chosen-few t (suc n) = go (t n) (chosen-few t n)
  where
    go : (b : Bool) → length (chosen t n) ≤ n → length (chosen t n ++ cons_if b n []) ≤ suc n
    go true h = omega (arith, length-append (chosen t n) (n ∷ []))
    go false h = omega (arith, ap length (append-nil (chosen t n)))

pub record Put (t : ℕ → Bool) (o out : List ℕ) (n p m : ℕ) : Type 0 where
  pub bound : p ≤ n
  pub few : m ≤ p
  pub number : m ≡ length (chosen t p)
  pub long : length out ≡ length o
  pub is : out ≡ sets o 0 (chosen t p)

module _ (t : ℕ → Bool) (o : List ℕ) (n : ℕ) where
  pub put-none : Put t o o n 0 0
  unfolding chosen
  put-none = record { bound = omega arith; few = omega arith; number = refl; long = refl; is = refl }

  module _ (out new : List ℕ) (p m k : ℕ) (h : Put t o out n p m) (l : p < n) where
    next-chosen : (b : Bool) → t p ≡ b → chosen t p ++ cons_if b p [] ≡ chosen t (p + 1)
    unfolding chosen
    next-chosen b e = ap (λ (c : Bool). chosen t p ++ cons_if c p []) (sym e) ∙ ap (chosen t) (sym (add-one p))

    pub put-more : new ≡ set out m p → k ≡ m + 1 → t p ≡ true → Put t o new n (p + 1) k
    put-more en ek e =
        let f = h.few in
        let at : m ≡ 0 + length (chosen t p) = omega (arith, h.number) in
        record {
          bound = omega arith;
          few = omega arith;
          number = ek ∙ ap (λ (j : ℕ). j + 1) h.number ∙ sym (length-append (chosen t p) (p ∷ [])) ∙ ap length (next-chosen true e);
          long = ap length en ∙ length-set out m p ∙ h.long;
          is = en ∙ ap₂ (λ (l : List ℕ) (j : ℕ). set l j p) h.is at ∙ sets-append o 0 (chosen t p) (p ∷ []) ∙ ap (sets o 0) (next-chosen true e);
        }

    pub put-past : new ≡ out → k ≡ m → t p ≡ false → Put t o new n (p + 1) k
    put-past en ek e =
        let f = h.few in
        let same : chosen t p ≡ chosen t (p + 1) = sym (append-nil (chosen t p)) ∙ next-chosen false e in
        record {
          bound = omega arith;
          few = omega arith;
          number = ek ∙ h.number ∙ ap length same;
          long = ap length en ∙ h.long;
          is = en ∙ h.is ∙ ap (sets o 0) same;
        }

  pub put_all : (out : List ℕ) (p m k : ℕ) → Put t o out n p m → n ≤ p → n ≡ k → (m ≡ length (chosen t k)) × (out ≡ sets o 0 (chosen t k))
  put_all out p m k h l q =
      let b = h.bound in
      let e : p ≡ k = omega arith in
      (h.number ∙ ap (λ (j : ℕ). length (chosen t j)) e, h.is ∙ ap (λ (j : ℕ). sets o 0 (chosen t j)) e)

-- words that were stored in front of a slice
module _ (o out xs : List ℕ) (m : ℕ) (fits : length xs ≤ length o) (e : m ≡ length xs) (q : out ≡ sets o 0 xs) where
  stored : out ≡ xs ++ drop m o
  stored = q ∙ sets-front o xs m (sym e) (omega arith)

  pub front-is : take m out ≡ xs
  front-is = ap (take m) stored ∙ take_at xs (drop m o) m (sym e)

  pub front_long : m ≡ length (take m out)
  front_long = e ∙ ap length (sym front-is)

  pub front-in : m ≤ length out
  front-in = omega (arith, ap length q, length-sets o 0 xs)

  rest-is : drop m out ≡ drop m o
  rest-is = ap (drop m) stored ∙ drop_at xs (drop m o) m (sym e)

  -- others in their place
  pub replaced : (s ys : List ℕ) → s ≡ ys → length ys ≡ length xs → s ++ drop m out ≡ sets o 0 ys
  replaced s ys es l = ap₂ (λ (a b : List ℕ). a ++ b) es rest-is ∙ sym (sets-front o ys m (l ∙ sym e) (omega arith))

-- ---- and then sorted
module _ (whole : Bool) (nr : ℕ) (core round : List ℕ) where
  abbrev places : List ℕ
  places = chosen (wanted whole core round) (place_count core round)

  arranged-long : length (arranged whole nr core round) ≡ length places
  unfolding arranged
  arranged-long = length-sorted (before (key_width whole) nr core round) places

  pub arranged-few : length (arranged whole nr core round) ≤ place_count core round
  arranged-few = omega (arith, arranged-long, chosen-few (wanted whole core round) (place_count core round))

  -- s is the front of `out`, sorted, and spare the same
  pub arranged-stored : (o out spare₀ s spare : List ℕ) (m : ℕ) → place_count core round ≤ length o → m ≡ length places → out ≡ sets o 0 places →
      s ≡ sorted_by (before (key_width whole) nr core round) (take m out) → spare ≡ sets spare₀ 0 (sorted_by (before (key_width whole) nr core round) (take m out)) →
      (m ≡ length (arranged whole nr core round)) × (s ++ drop m out ≡ sets o 0 (arranged whole nr core round)) × (spare ≡ sets spare₀ 0 (arranged whole nr core round))
  unfolding arranged
  arranged-stored o out spare₀ s spare m l e q es ep =
      let fits : length places ≤ length o = omega (arith, chosen-few (wanted whole core round) (place_count core round)) in
      let same : sorted_by (before (key_width whole) nr core round) (take m out) ≡ arranged whole nr core round = ap (sorted_by (before (key_width whole) nr core round)) (front-is o out places m fits e q) in
      (e ∙ sym arranged-long, replaced o out places m fits e q s (arranged whole nr core round) (es ∙ same) arranged-long, ep ∙ ap (sets spare₀ 0) same)
