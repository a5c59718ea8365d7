-- Unbalanced tuples by the arranged places of active rows: groups of equal tuples.
--     Grouped         what the walk over a group keeps
--     grouped-end     a group that has ended: its counts are those of both tables
--     lowest-after    the least unbalanced place, one group further
use mathlib.Core.Path.{◌≡◌, refl, sym, ap, subst, ◌∙◌}
use mathlib.Core.Bool.{Bool, true, false, not, ◌&&◌}
use mathlib.Core.List.{List}
use Prim.Native.Nat.{ℕ, ◌+◌, ◌≤◌, ◌<◌}
use native.Mathlib.Omega.{arith}
use borrow.Author.Tests.{ltb-true, ltb-false}
use lib.Dec.{eqb, ltb}
use lib.ListN.{length, take}
use Rattle.lists.specs.Tab.{pick, word}
use Rattle.lists.specs.First.{count_below}
use Rattle.lists.specs.Select.{words_test}
use Rattle.lists.proofs.Tests.{true-not-false, and-true, true-and}
use Rattle.lists.proofs.Then.{by_le}
use Rattle.verdict.specs.Verdict.{uneven}
use Rattle.verdict.specs.CoreAndRound.{core_kind, round_kind}
use Rattle.judge_links.specs.Counting.{with_row}
use Rattle.judge_links.specs.declared.Counts.{Counts}
use Rattle.judge_links.proofs.Counting.{Counted, counts_start, counts-row, counts-le}
use Rattle.sort_places.specs.Places.{place_count, place_tuple}
use Rattle.sort_places.specs.Order.{before, key_width}
use Rattle.judge_within.specs.Places.{active_place, sends, bad_place, wanted, arranged}
use Rattle.judge_within.specs.Groups.{Apart, GroupTo, GroupAt}
use Rattle.judge_within.proofs.Arranged.{Arranged, arranged-sorted, same, same_key, key-same}
use Rattle.judge_within.proofs.Groups.{group-none, group-more, group-least, next-starts, group-count, group_empty, Lowest, lowest-keep, lowest-new}
use Rattle.judge_within.proofs.Counts.{tuple-203, on_side, uneven-places}

module _ (nr : ℕ) (core round xs : List ℕ) where
  abbrev key : ℕ → List ℕ
  key = place_tuple nr core round

  abbrev N : ℕ
  N = place_count core round

  -- ---- the places of a group, counted
  abbrev sent_at : ℕ → ℕ → Bool
  sent_at s k = sends core (word xs k) && same key (word xs s) (word xs k)

  abbrev received_at : ℕ → ℕ → Bool
  received_at s k = not (sends core (word xs k)) && same key (word xs s) (word xs k)

  pub record Grouped (s e : ℕ) (t : Counts) : Type 0 where
    pub from : s ≤ e
    pub inside : e ≤ length xs
    pub alike : GroupTo key xs s e
    pub counted : Counted (sent_at s) (received_at s) s e t

  -- ---- the least unbalanced place
  abbrev pub LowestTo : ℕ → ℕ → Type 0
  LowestTo k least = Lowest (bad_place nr core round) N (word xs) k least

module _ (nr : ℕ) (core round xs : List ℕ) (is : xs ≡ arranged true nr core round) where
  abbrev key_of : ℕ → List ℕ
  key_of = place_tuple nr core round

  abbrev M : ℕ
  M = place_count core round

  sorted-tuples : Arranged (active_place core round) M key_of xs
  unfolding arranged before wanted
  sorted-tuples =
      let e : ◌≡◌ {A = ℕ → List ℕ} (λ p. take (key_width true) (key_of p)) key_of = λ i p. tuple-203 nr core round p i in
      subst (λ (k : ℕ → List ℕ). Arranged (active_place core round) M k xs) e
      (subst (Arranged (active_place core round) M (λ p. take (key_width true) (key_of p))) (sym is) (arranged-sorted (active_place core round) M (λ p. take (key_width true) (key_of p))))

  pub grouped-start : (s : ℕ) → s < length xs → Grouped nr core round xs s s (record { sent = 0; received = 0 })
  grouped-start s l =
      record { from = omega arith; inside = omega arith; alike = group-none (active_place core round) M key_of xs sorted-tuples s; counted = counts_start (sent_at nr core round xs s) (received_at nr core round xs s) s }

  with-true : (a b : Bool) → b ≡ true → a ≡ (a && b)
  with-true true b e = sym e
  with-true false b e = refl

  pub grouped-more : (s e : ℕ) (t u : Counts) → Grouped nr core round xs s e t → e < length xs → words_test (key_of (word xs s)) (key_of (word xs e)) ≡ true →
      u ≡ with_row t (sends core (word xs e)) (not (sends core (word xs e))) → Grouped nr core round xs s (e + 1) u
  grouped-more s e t u h l a q =
      let b = h.from in
      record {
        from = omega arith;
        inside = omega arith;
        alike = group-more (active_place core round) M key_of xs sorted-tuples s e h.alike a;
        counted = counts-row (sent_at nr core round xs s) (received_at nr core round xs s) s e t h.counted u
            (q ∙ (λ i. with_row t (with-true (sends core (word xs e)) (same key_of (word xs s) (word xs e)) a i) (with-true (not (sends core (word xs e))) (same key_of (word xs s) (word xs e)) a i)));
      }

  pub grouped-small : (s e : ℕ) (t : Counts) → Grouped nr core round xs s e t → (t.sent ≤ e) × (t.received ≤ e)
  grouped-small s e t h = counts-le (sent_at nr core round xs s) (received_at nr core round xs s) s e t h.counted

  module _ (s e : ℕ) (t : Counts) (h : Grouped nr core round xs s e t) (l : s < length xs) (S : Apart key_of xs s) (E : e < length xs → words_test (key_of (word xs s)) (key_of (word xs e)) ≡ false) where
    not-empty : s < e
    not-empty =
        by_le e s
        (λ g.
        let f = h.from in
        let q : s ≡ e = omega arith in
        absurd (true-not-false (sym (key-same key_of (word xs s) (word xs e) (ap (λ (j : ℕ). key_of (word xs j)) q)) ∙ E (omega arith))))
        (λ g. g)

    -- all with the tuple of the group
    whole : (g : Bool → Bool) → count_below (λ k. g (sends core (word xs k)) && same key_of (word xs s) (word xs k)) e ≡ count_below (on_side nr core round (key_of (word xs s)) g) M
    whole g = group-count (active_place core round) M key_of xs sorted-tuples s e S h.alike not-empty h.inside E (λ p. g (sends core p))

    nothing : (g : Bool → Bool) → count_below (λ k. g (sends core (word xs k)) && same key_of (word xs s) (word xs k)) s ≡ 0
    nothing g = group_empty (active_place core round) M key_of xs sorted-tuples s (λ p. g (sends core p)) S

    pub grouped-end : (b : Bool) → b ≡ not (eqb t.sent t.received) → GroupAt nr core round xs s e b
    grouped-end b q =
        record {
          later = not-empty;
          inside = h.inside;
          counted = q ∙ uneven-places nr core round (key_of (word xs s)) t.sent t.received
              (omega (arith, h.counted.sends, nothing (λ a. a), whole (λ a. a)))
              (omega (arith, h.counted.receives, nothing not, whole not));
          alike = h.alike;
          next = next-starts (active_place core round) M key_of xs sorted-tuples s e S h.alike not-empty h.inside E;
        }

  -- ---- the least unbalanced place
  module _ (s e least new : ℕ) (b : Bool) (L : LowestTo nr core round xs s least) (G : GroupAt nr core round xs s e b) (l : s < length xs) where
    odd-at : (i : ℕ) → s ≤ i → i < e → bad_place nr core round (word xs i) ≡ true → b ≡ true
    unfolding bad_place GroupTo
    odd-at i f g h =
        let a = and-true (active_place core round (word xs i)) (uneven (core_kind nr) round_kind core round (key_of (word xs i))) h in
        G.counted ∙ ap (uneven (core_kind nr) round_kind core round) (same_key key_of (word xs s) (word xs i) (G.alike i f g)) ∙ a.1

    bad-here : b ≡ true → bad_place nr core round (word xs s) ≡ true
    unfolding bad_place
    bad-here h =
        true-and (active_place core round (word xs s)) (uneven (core_kind nr) round_kind core round (key_of (word xs s))) (sorted-tuples.inside s l).1 (sym G.counted ∙ h)

    least-here : (i : ℕ) → s ≤ i → i < e → word xs s ≤ word xs i
    least-here = group-least (active_place core round) M key_of xs sorted-tuples s e G.alike G.inside

    pub lowest-after : new ≡ pick (b && ltb (word xs s) least) (word xs s) least → LowestTo nr core round xs e new
    lowest-after q = go b (ltb (word xs s) least) refl refl q
      where
        go : (c d : Bool) → b ≡ c → ltb (word xs s) least ≡ d → new ≡ pick (c && d) (word xs s) least → LowestTo nr core round xs e new
        go true true eb el en =
            let z = ltb-true (word xs s) least el in
            subst (LowestTo nr core round xs e) (sym en) (lowest-new (bad_place nr core round) M (word xs) s e least L (word xs s) (omega arith) (bad-here eb) least-here)
        go true false eb el en =
            let z = ltb-false (word xs s) least el in
            subst (LowestTo nr core round xs e) (sym en) (lowest-keep (bad_place nr core round) M (word xs) s e least L (λ i f g h. let y = least-here i f g in omega arith))
        go false d eb el en =
            subst (LowestTo nr core round xs e) (sym en) (lowest-keep (bad_place nr core round) M (word xs) s e least L (λ i f g h. absurd (true-not-false (sym (odd-at i f g h) ∙ eb))))

  -- each unbalanced place is in the list
  pub bad-place : (k : ℕ) → length xs ≤ k → (p : ℕ) → p < M → bad_place nr core round p ≡ true → (i : ℕ) × (i < k) × (word xs i ≡ p)
  unfolding bad_place
  bad-place k m p l e =
      let a = and-true (active_place core round p) (uneven (core_kind nr) round_kind core round (key_of p)) e in
      let f = sorted-tuples.found p l a.0 in
      (sorted-tuples.index p, omega (arith, f.0), f.1)

  pub place_in : (k : ℕ) → k < length xs → word xs k < M
  place_in k l = (sorted-tuples.inside k l).0
