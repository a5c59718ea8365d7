-- What the scan for a repeated timestamp cites: two rows compared, a row with the same timestamp, a row above all before it.
use mathlib.Core.Path.{◌≡◌, refl, sym, ap, ap₂, subst, ◌∙◌}
use mathlib.Core.Bool.{Bool, true, false}
use mathlib.Core.List.{List}
use mathlib.Core.Option.{none}
use Prim.Native.Nat.{ℕ, ◌+◌, ◌*◌, ◌^◌, ◌≤◌, ◌<◌}
use native.Mathlib.Omega.{arith}
use borrow.Author.Tests.{ne_eqb, eq-eqb, le-leb, lt-leb, leb-true, leb-false, ltb-true, ltb-false}
use lib.Dec.{eqb, leb, ltb}
use Rattle.lists.specs.Tab.{word}
use Rattle.lists.specs.First.{first, at_index, any_below}
use Rattle.lists.proofs.First.{first-start, at_more}
use Rattle.lists.proofs.Laws.{word-row_at}
use Rattle.verdict.specs.Kind.{row, active, same_stamp}
use Rattle.verdict.specs.Verdict.{same_stamp_at, repeats}
use Rattle.verdict.specs.CoreAndRound.{core_layout}
use Rattle.judge_scan.proofs.Rising.{key, BelowTo, rising-start, rising-skip, rising-keep, rising_step, rising-new, inactive-new}
use Rattle.judge_scan.specs.Highest.{bound_of, exceeds}
use Rattle.judge_scan.specs.declared.Highest.{Highest}

-- ---- two rows: the low words decide, then the high ones
pub low-apart : (x y : List ℕ) → (word x 0 ≡ word y 0 → ⊥) → false ≡ same_stamp x y
unfolding same_stamp
low-apart x y n = sym (rw (ne_eqb (word x 0) (word y 0) n))

pub by_high : (x y : List ℕ) → word x 0 ≡ word y 0 → eqb (word x 1) (word y 1) ≡ same_stamp x y
unfolding same_stamp
by_high x y e = sym (rw (eq-eqb (word x 0) (word y 0) e))

module _ (core : List ℕ) where
  -- ---- a row with the same timestamp
  pub same-stamp-off : (r q : ℕ) → active core_layout core q ≡ false → same_stamp_at core_layout core r q ≡ false
  unfolding same_stamp_at
  same-stamp-off r q e = rw e

  pub same-stamp-on : (r q : ℕ) (x y : List ℕ) (b : Bool) → active core_layout core q ≡ true → x ≡ row core_layout core q →
      y ≡ row core_layout core r → same_stamp x y ≡ b → same_stamp_at core_layout core r q ≡ b
  unfolding same_stamp_at
  same-stamp-on r q x y b e ex ey h = rw (e, sym ((λ i. same_stamp (ex i) (ey i))) ∙ h)

  pub repeats-on : (r : ℕ) (b : Bool) → active core_layout core r ≡ true → any_below (same_stamp_at core_layout core r) r ≡ b →
      repeats core_layout core r ≡ b
  unfolding repeats
  repeats-on r b e h = rw (e, h)

  -- ---- the highest timestamp so far
  key-is : (r low high : ℕ) → low ≡ word core (r * 486) → high ≡ word core (r * 486 + 1) →
      high * 2 ^ 64 + low ≡ key (row core_layout core r)
  key-is r low high e f =
      let z : r * 486 ≡ r * 486 + 0 = omega arith in
      ap₂ (λ (h l : ℕ). h * 2 ^ 64 + l)
      (f ∙ sym (word-row_at 486 core r 1 (omega arith)))
      (e ∙ ap (word core) z ∙ sym (word-row_at 486 core r 0 (omega arith)))

-- a test that is true where a ≤ c and false where c < a
by-leb : (b : Bool) (a c : ℕ) → (b ≡ true → a ≤ c) → (b ≡ false → c < a) → b ≡ leb a c
by-leb true a c f g = sym (le-leb a c (f refl))
by-leb false a c f g = sym (lt-leb a c (g refl))

module _ (t : Highest) (high low : ℕ) where
  pub above-none : t.some ≡ false → true ≡ exceeds t high low
  unfolding exceeds bound_of
  above-none e = rw e (sym (le-leb 0 (high * 2 ^ 64 + low) (omega arith)))

  pub above-high : t.some ≡ true → low < 2 ^ 64 → t.low < 2 ^ 64 → (high ≡ t.high → ⊥) → ltb t.high high ≡ exceeds t high low
  unfolding exceeds bound_of
  above-high e l m n = rw e (by-leb (ltb t.high high) (t.high * 2 ^ 64 + t.low + 1) (high * 2 ^ 64 + low)
      (λ z. let g = ltb-true t.high high z in omega arith)
      (λ z. let g = ltb-false t.high high z in omega (arith, n)))

  pub above_low : t.some ≡ true → high ≡ t.high → ltb t.low low ≡ exceeds t high low
  unfolding exceeds bound_of
  above_low e q = rw e (by-leb (ltb t.low low) (t.high * 2 ^ 64 + t.low + 1) (high * 2 ^ 64 + low)
      (λ z. let g = ltb-true t.low low z in omega arith)
      (λ z. let g = ltb-false t.low low z in omega arith))

-- what the scan keeps: no row before `a` repeats, and the active ones have timestamps of at most the highest
pub record New (core : List ℕ) (a : ℕ) (t : Highest) : Type 0 where
  pub fresh : first (at_index (repeats core_layout core)) a ≡ none
  pub below : BelowTo core_layout core a (bound_of t)

module _ (core : List ℕ) where
  pub new-start : (t : Highest) → New core 0 t
  new-start t = record { fresh = first-start _; below = rising-start core_layout core _ }

  module _ (a : ℕ) (s t : Highest) (n : New core a s) where
    pub new-off : t ≡ s → active core_layout core a ≡ false → New core (a + 1) t
    new-off q e =
        subst (New core (a + 1)) (sym q)
        (record {
          fresh = at_more _ a n.fresh (inactive-new core_layout core a e);
          below = rising-skip core_layout core a _ e n.below;
        })

    -- a timestamp above all before it
    pub new-above : (low high : ℕ) → low ≡ word core (a * 486) → high ≡ word core (a * 486 + 1) → exceeds s high low ≡ true →
        t ≡ record { some = true; high = high; low = low } → New core (a + 1) t
    unfolding exceeds bound_of
    new-above low high el eh x q =
        let k = key-is core a low high el eh in
        let g : bound_of s ≤ key (row core_layout core a) = subst (λ (m : ℕ). bound_of s ≤ m) k (leb-true _ _ x) in
        let b : key (row core_layout core a) + 1 ≡ bound_of t = ap (λ (m : ℕ). m + 1) (sym k) ∙ sym (ap bound_of q) in
        record {
          fresh = at_more _ a n.fresh (rising-new core_layout core a _ g n.below);
          below = subst (BelowTo core_layout core (a + 1)) b (rising_step core_layout core a _ g n.below);
        }

    -- one that is not above them, and is looked for among them
    pub new-below : (low high : ℕ) → low ≡ word core (a * 486) → high ≡ word core (a * 486 + 1) → exceeds s high low ≡ false →
        t ≡ s → active core_layout core a ≡ true → any_below (same_stamp_at core_layout core a) a ≡ false → New core (a + 1) t
    unfolding exceeds
    new-below low high el eh x q e v =
        let k = key-is core a low high el eh in
        let g : key (row core_layout core a) < bound_of s = subst (λ (m : ℕ). m < bound_of s) k (leb-false _ _ x) in
        subst (New core (a + 1)) (sym q)
        (record {
          fresh = at_more _ a n.fresh (repeats-on core a false e v);
          below = rising-keep core_layout core a _ g n.below;
        })
