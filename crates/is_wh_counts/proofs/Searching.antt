-- The search for the first counter charged which is p or more: row by row, then the padding's.
use mathlib.Core.Bool.{Bool, true, false}
use mathlib.Core.List.{List}
use mathlib.Core.Path.{◌≡◌, refl, sym, ap, subst, ◌∙◌}
use Prim.Native.Nat.{ℕ, zero, suc, ◌+◌, ◌-◌, ◌*◌, ◌/◌, ◌%◌, ◌≤◌, ◌<◌}
use native.Mathlib.Numerals.{add-one}
use native.Mathlib.Omega.{arith}
use borrow.Author.Tests.{eq-eqb, ne_eqb}
use lib.Dec.{eqb}
use lib.ListN.{length}
use Rattle.lists.specs.Tab.{pick, word}
use Rattle.lists.specs.Sum.{sum_below}
use Rattle.lists.specs.First.{first_at, place_of}
use Rattle.lists.proofs.Kept.{by-eq}
use Rattle.bitwise.specs.Columns.{NUM-COUNTERS}
use Rattle.bitwise.specs.Counters.{large_charged, lower_large}
use Rattle.bitwise.specs.Charge.{charged_row, charged}
use Rattle.bitwise.proofs.Large.{Least, least_start, least-same, least_more, least-found, least-none, large-none}
use Rattle.is_wh_rows.specs.Lists.{GoodList}
use Rattle.is_wh_trace.specs.Trace.{row_count, is_wh_height}
use Rattle.is_wh_counts.specs.Counts.{is_wh_charged}
use Rattle.is_wh_counts.specs.Steps.{lower_some, lower_by_row, lower_by_rows}
use Rattle.is_wh_counts.proofs.Charging.{list_adds, good-row, next-adds, charged-is, none-charged}
use Rattle.std.specs.Prelude.{Some, None}

module _ (C : List ℕ) (at n least : ℕ) where
  pub lower-none : n ≡ 0 → least ≡ lower_some C at n least
  unfolding lower_some
  lower-none e = ap (λ (t : Bool). pick t least (lower_large (word C at) at least)) (sym (eq-eqb n 0 e))

  pub lower-some : (n ≡ 0 → ⊥) → lower_large (word C at) at least ≡ lower_some C at n least
  unfolding lower_some
  lower-some d = ap (λ (t : Bool). pick t least (lower_large (word C at) at least)) (sym (ne_eqb n 0 d))

-- n more on counter `at`, or none
least-some : (C : List ℕ) {f : ℕ → ℕ} {least : ℕ} → Least f (word C) NUM-COUNTERS least → (at n : ℕ) → at < NUM-COUNTERS
    → Least (λ c. f c + pick (eqb c at) n 0) (word C) NUM-COUNTERS (lower_some C at n least)
least-some C {f} {least} s at n l =
    by-eq n 0
    (λ e. subst (Least (λ c. f c + pick (eqb c at) n 0) (word C) NUM-COUNTERS) (lower-none C at n least e)
    (least-same s (λ c. f c + pick (eqb c at) n 0) (λ c _. nothing (eqb c at) (f c) n e)))
    (λ d. subst (Least (λ c. f c + pick (eqb c at) n 0) (word C) NUM-COUNTERS) (lower-some C at n least d)
    (least_more s at n l (omega (arith, d))))
  where
    nothing : (t : Bool) (m n : ℕ) → n ≡ 0 → m ≡ m + pick t n 0
    nothing true m n e = omega (arith, e)
    nothing false m n e = omega arith

module _ (rows C : List ℕ) (g : GoodList 3 rows) where
  rows-searched : (i : ℕ) → i ≤ length rows / 3 → Least (list_adds rows i) (word C) NUM-COUNTERS (lower_by_rows rows C i)
  unfolding lower_by_rows lower_by_row charged_row charged sum_below
  rows-searched zero l = least_start (list_adds rows 0) (word C) NUM-COUNTERS (λ c. refl)
  rows-searched (suc i) l =
      let w = word rows (3 * i) in
      let h = word rows (3 * i + 1) in
      let mu = word rows (3 * i + 2) in
      let b = good-row rows g i (omega (arith, l)) in
      let s₁ = least-some C (rows-searched i (omega (arith, l))) (mu * 10 + 5) 1 (omega (arith, b.2)) in
      let s₂ = least-some C s₁ (h * 10 + 4) mu (omega (arith, b.1)) in
      let s₃ = least-some C s₂ (w % 65536 * 10 + 4) mu (omega arith) in
      let s₄ = least-some C s₃ (w / 65536 * 10 + 4) mu (omega (arith, b.0)) in
      least-same s₄ (list_adds rows (suc i)) (λ c _. sym (ap (λ (k : ℕ). list_adds rows k c) (sym (add-one i)) ∙ next-adds rows i c b))

  -- all of them, and the padding
  module _ (has : row_count rows ≡ 0 → ⊥) {h first : ℕ} (tall : h ≡ is_wh_height rows) (e : first ≡ lower_some C 5 (h - row_count rows) (lower_by_rows rows C (row_count rows))) where
    searched : Least (is_wh_charged rows) (word C) NUM-COUNTERS first
    searched =
        subst (Least (is_wh_charged rows) (word C) NUM-COUNTERS) (sym (e ∙ ap (λ (k : ℕ). lower_some C 5 (k - row_count rows) (lower_by_rows rows C (row_count rows))) tall))
        (least-same (least-some C (rows-searched (row_count rows) (omega arith)) 5 (is_wh_height rows - row_count rows) (omega arith)) (is_wh_charged rows) (λ c _. sym (charged-is rows has c)))

    pub search-at : first < NUM-COUNTERS → Some first ≡ place_of (first_at (large_charged (is_wh_charged rows) (word C)) NUM-COUNTERS)
    search-at l = sym (ap place_of (least-found searched l))

    pub search-nowhere : NUM-COUNTERS ≤ first → None ≡ place_of (first_at (large_charged (is_wh_charged rows) (word C)) NUM-COUNTERS)
    search-nowhere l = sym (ap place_of (least-none searched l))

-- no rows charge nothing
pub nothing-charged : (rows C : List ℕ) → row_count rows ≡ 0 → None ≡ place_of (first_at (large_charged (is_wh_charged rows) (word C)) NUM-COUNTERS)
nothing-charged rows C e = sym (ap place_of (large-none (is_wh_charged rows) (word C) NUM-COUNTERS (λ c _ h. absurd (omega (arith, none-charged rows e c, h)))))
