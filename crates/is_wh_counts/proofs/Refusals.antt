-- When `collect_bitwise_from_is_wh` is refused, and what it answers and leaves, from what its checks found.
use mathlib.Core.List.{List}
use mathlib.Core.Logic.{◌↔◌}
use mathlib.Core.Option.{Option, none, some}
use mathlib.Core.Path.{◌≡◌, refl, sym, ap, subst, ◌∙◌}
use Prim.Native.Nat.{ℕ, ◌+◌, ◌-◌, ◌≤◌, ◌<◌}
use native.Mathlib.Omega.{arith}
use lib.Dec.{eqb}
use lib.ListN.{length}
use Rattle.lists.specs.Tab.{pick, word}
use Rattle.lists.specs.First.{first_at}
use Rattle.field.specs.Field.{p}
use Rattle.answer.specs.Refusal.{accepted, answer_of}
use Rattle.answer.specs.declared.Refusal.{Refusal}
use Rattle.answer.specs.declared.Refusal.TheVariants.{NotElement}
use Rattle.answer.proofs.Laws.{at-yes, at-no, passed-at, refused, done, still-if, still-at}
use Rattle.bitwise.specs.Columns.{NUM-COUNTERS}
use Rattle.bitwise.specs.Counters.{large_charged}
use Rattle.bitwise.proofs.Large.{large-none, large-clear, large-first}
use Rattle.is_wh_rows.specs.Lists.{GoodList, rows_refusal}
use Rattle.is_wh_rows.proofs.Lists.{rows_pass, rows-passed, none-bad}
use Rattle.is_wh_trace.specs.Trace.{row_count, is_wh_height}
use Rattle.is_wh_counts.specs.Counts.{is_wh_charged, grown_counters, collect_refusal, collect_after}
use Rattle.is_wh_counts.specs.Steps.{charge_some}
use Rattle.is_wh_counts.proofs.Grown.{Grown, grown-none, grown-same, grown-below, grown-charge, grown-all, grown-counters}
use Rattle.is_wh_counts.proofs.Charging.{list_adds, charged-is, none-charged}
use Rattle.std.specs.Prelude.{Ok, Err}

-- the first counter charged which is p or more
abbrev pub first_charged : List ℕ → List ℕ → Option ℕ
first_charged rows counters = first_at (large_charged (is_wh_charged rows) (word counters)) NUM-COUNTERS

-- the counters to which something is added are below p
pub record Chargeable (rows counters : List ℕ) : Type 0 where
  pub long : NUM-COUNTERS ≤ length counters
  pub below : (c : ℕ) → c < NUM-COUNTERS → 0 < is_wh_charged rows c → word counters c < p

module _ (rows counters : List ℕ) where
  -- the checks of the list refuse, whatever the counters are
  pub rows-refused : {q : Refusal} → rows_refusal (length counters) NUM-COUNTERS rows accepted ≡ some q → collect_refusal rows counters ≡ some q
  unfolding collect_refusal rows_refusal
  rows-refused = still-if _ _ (still-if _ _ (still-if _ _ (still-at _ _ (λ e. cc))))

  module _ (g : GoodList 3 rows) (long : NUM-COUNTERS ≤ length counters) where
    pub counter-refused : (c : ℕ) → first_charged rows counters ≡ some c → collect_refusal rows counters ≡ some (NotElement c)
    unfolding collect_refusal
    counter-refused c h = rows_pass (length counters) NUM-COUNTERS rows g.few g.whole long (none-bad 3 rows g.below) (at-yes NotElement accepted h)

    -- by the counter itself
    pub counter-large : (c : ℕ) → c < NUM-COUNTERS → 0 < is_wh_charged rows c → p ≤ word counters c → ((k : ℕ) → k < c → 0 < is_wh_charged rows k → word counters k < p)
        → collect_refusal rows counters ≡ some (NotElement c)
    counter-large c l h b lower = counter-refused c (large-first (is_wh_charged rows) (word counters) NUM-COUNTERS c l h b lower)

    pub counters-pass : first_charged rows counters ≡ none → collect_refusal rows counters ≡ accepted
    unfolding collect_refusal
    counters-pass h = rows_pass (length counters) NUM-COUNTERS rows g.few g.whole long (none-bad 3 rows g.below) (at-no NotElement h refl)

  pub collect-passed : collect_refusal rows counters ≡ accepted → GoodList 3 rows × Chargeable rows counters
  unfolding collect_refusal
  collect-passed e =
      let a = rows-passed (length counters) NUM-COUNTERS rows _ e in
      let b = passed-at _ _ _ a.2 in
      (a.0, record { long = a.1; below = large-clear (is_wh_charged rows) (word counters) NUM-COUNTERS b.0 })

  -- accepted exactly where none of the conditions holds
  pub collect-accepted : (collect_refusal rows counters ≡ accepted) ↔ (GoodList 3 rows × Chargeable rows counters)
  collect-accepted = (collect-passed, λ a. counters-pass a.0 a.1.long (large-none (is_wh_charged rows) (word counters) NUM-COUNTERS a.1.below))

-- ---- what is charged
module _ (rows counters : List ℕ) where
  pub collect-refused : {q : Refusal} → collect_refusal rows counters ≡ some q → (Err q ≡ answer_of (collect_refusal rows counters)) × (counters ≡ collect_after rows counters)
  unfolding collect_after
  collect-refused e = refused _ counters e

  module _ (ok : collect_refusal rows counters ≡ none) where
    long : NUM-COUNTERS ≤ length counters
    long = (collect-passed rows counters ok).1.long

    pub none_done : row_count rows ≡ 0 → (Ok tt ≡ answer_of (collect_refusal rows counters)) × (counters ≡ collect_after rows counters)
    unfolding collect_after
    none_done e = done counters ok (grown-all (grown-none counters (is_wh_charged rows) (none-charged rows e)) long)

    module _ (has : row_count rows ≡ 0 → ⊥) where
      -- the counters of the rows, and of the padding, are below p
      pub rows-below : (c : ℕ) → c < NUM-COUNTERS → 0 < list_adds rows (row_count rows) c → word counters c < p
      rows-below c l h = (collect-passed rows counters ok).1.below c l (omega (arith, charged-is rows has c, h))

      padding-below : 0 < is_wh_height rows - row_count rows → word counters 5 < p
      padding-below h = (collect-passed rows counters ok).1.below 5 (omega arith) (omega (arith, charged-is rows has 5, h))

      module _ {C : List ℕ} {h : ℕ} (tall : h ≡ is_wh_height rows) (e : C ≡ grown_counters counters (list_adds rows (row_count rows))) where
        grown-rows : Grown counters (list_adds rows (row_count rows)) C
        grown-rows = subst (Grown counters (list_adds rows (row_count rows))) (sym e) (grown-counters counters (list_adds rows (row_count rows)) long)

        pub padding-charge : (5 < length C) × (0 < h - row_count rows → word C 5 < p)
        padding-charge = (omega (arith, grown-rows.long, long), λ q. grown-below grown-rows 5 (omega arith) (padding-below (omega (arith, tall, q))))

        pub rows-done : {C' : List ℕ} → C' ≡ charge_some C 5 (h - row_count rows) → (Ok tt ≡ answer_of (collect_refusal rows counters)) × (C' ≡ collect_after rows counters)
        unfolding collect_after
        rows-done {C'} q =
            let a = grown-charge grown-rows 5 (h - row_count rows) long (omega arith) (λ k. padding-below (omega (arith, tall, k))) in
            let b : Grown counters (is_wh_charged rows) C' =
            subst (Grown counters (is_wh_charged rows)) (sym q)
            (grown-same a (is_wh_charged rows) (λ c _. ap (λ (k : ℕ). list_adds rows (row_count rows) c + pick (eqb c 5) (k - row_count rows) 0) tall ∙ sym (charged-is rows has c))) in
            done counters ok (grown-all b long)
