-- What the walks cite.
--     lower-off, lower-new, lower-old   the lower of two numbers, the second only where it counts
--     with-sent, with-received          one place more in the counts
--     tuples-same                       what the code compares of two places
--     repeated-start, repeated-turn     the least row with a repeated timestamp, one place further
--     unbalanced-start, unbalanced-at, unbalanced-none, repeated-at, repeated-none   what the walks found
use mathlib.Core.Path.{◌≡◌, refl, sym, ap, subst, ◌∙◌}
use mathlib.Core.Bool.{Bool, true, false, not, ◌&&◌}
use mathlib.Core.List.{List, [], ◌∷◌}
use Prim.Native.Nat.{ℕ, ◌+◌, ◌-◌, ◌/◌, ◌≤◌, ◌<◌}
use native.Mathlib.Omega.{arith}
use borrow.Author.Tests.{lt-ltb, le-ltb, ltb-true, ltb-false}
use lib.Dec.{ltb}
use lib.ListN.{length}
use Rattle.lists.specs.Tab.{pick, word}
use Rattle.lists.specs.First.{first_at, place_of, any_below, first}
use Rattle.lists.specs.Select.{words_test}
use Rattle.lists.proofs.Tests.{true-not-false, false-and}
use Rattle.verdict.specs.Kind.{rows, row, active, same_stamp}
use Rattle.verdict.specs.Verdict.{repeats, first_repeat}
use Rattle.verdict.specs.CoreAndRound.{core_layout}
use Rattle.judge_links.specs.Counting.{with_row}
use Rattle.judge_links.specs.declared.Counts.{Counts}
use Rattle.judge_tuples.specs.Port.{tuple_of}
use Rattle.judge_tuples.specs.declared.Port.{Port}
use Rattle.sort_places.specs.Places.{place_count, place_port, place_row_words, place_tuple}
use Rattle.judge_within.specs.Places.{bad_place, arranged}
use Rattle.judge_within.proofs.Groups.{Lowest, lowest_start, lowest-keep, lowest-new, lowest-some, lowest-none}
use Rattle.judge_within.proofs.Repeats.{repeat-turn, repeat-first, repeat-place}
use Rattle.judge_within.proofs.Unbalanced.{LowestTo, bad-place}
use Rattle.std.specs.Prelude.{Some, None}

module _ (least p : ℕ) (counts : Bool) where
  pub lower-off : counts ≡ false → least ≡ pick (counts && ltb p least) p least
  lower-off e = sym (rw e)

  pub lower-new : counts ≡ true → p < least → p ≡ pick (counts && ltb p least) p least
  lower-new e l = sym (rw (e, lt-ltb p least l))

  pub lower-old : counts ≡ true → least ≤ p → least ≡ pick (counts && ltb p least) p least
  lower-old e l = sym (rw (e, le-ltb p least l))

module _ (t : Counts) (a b : Bool) (h : b ≡ a) where
  pub with-sent : b ≡ true → ◌≡◌ {A = Counts} (record { sent = t.sent + 1; received = t.received }) (with_row t a (not a))
  unfolding with_row
  with-sent e = sym (ap (λ (c : Bool). with_row t c (not c)) (sym h ∙ e))

  pub with-received : b ≡ false → ◌≡◌ {A = Counts} (record { sent = t.sent; received = t.received + 1 }) (with_row t a (not a))
  unfolding with_row
  with-received e = sym (ap (λ (c : Bool). with_row t c (not c)) (sym h ∙ e))

pub tuples-same : (nr : ℕ) (core round : List ℕ) (p q : ℕ) (s : Port) (x : List ℕ) (t : Port) (y : List ℕ) → s ≡ place_port nr core p → x ≡ place_row_words core round p →
    t ≡ place_port nr core q → y ≡ place_row_words core round q → words_test (tuple_of s x) (tuple_of t y) ≡ words_test (place_tuple nr core round p) (place_tuple nr core round q)
unfolding place_tuple
tuples-same nr core round p q s x t y es ex et ey = λ i. words_test (tuple_of (es i) (ex i)) (tuple_of (et i) (ey i))

-- ---- the first unbalanced place
pub unbalanced-start : (nr : ℕ) (core round xs : List ℕ) (n : ℕ) → n ≡ place_count core round → LowestTo nr core round xs 0 n
unbalanced-start nr core round xs n e = subst (LowestTo nr core round xs 0) (sym e) (lowest_start (bad_place nr core round) (place_count core round) (word xs))

module _ (nr : ℕ) (core round xs : List ℕ) (is : xs ≡ arranged true nr core round) (n k least : ℕ) (e : n ≡ place_count core round) (L : LowestTo nr core round xs k least) (end : length xs ≤ k) where
  pub unbalanced-at : least < n → Some least ≡ place_of (first_at (bad_place nr core round) (place_count core round))
  unbalanced-at l = sym (ap place_of (lowest-some (bad_place nr core round) (place_count core round) (word xs) k least L (bad-place nr core round xs is k end) (omega arith)))

  pub unbalanced-none : n ≤ least → None ≡ place_of (first_at (bad_place nr core round) (place_count core round))
  unbalanced-none l = sym (ap place_of (lowest-none (bad_place nr core round) (place_count core round) (word xs) k least L (bad-place nr core round xs is k end) (omega arith)))

-- ---- the first row with a repeated timestamp
abbrev pub RepeatedTo : List ℕ → List ℕ → ℕ → ℕ → Type 0
RepeatedTo core xs k least = Lowest (repeats core_layout core) (rows core_layout core) (λ i. word xs i / 2) k least

module _ (nr : ℕ) (core round xs : List ℕ) (is : xs ≡ arranged false nr core round) where
  first-none : (l : List ℕ) → xs ≡ l → repeats core_layout core (word xs 0 / 2) ≡ false
  unfolding repeats any_below first
  first-none [] e = ap (λ (ys : List ℕ). repeats core_layout core (word ys 0 / 2)) e ∙ false-and (active core_layout core 0) false (λ z. refl)
  first-none (x ∷ l) e = repeat-first nr core round xs is (omega (arith, ap length e))

  pub repeated-start : RepeatedTo core xs 1 (rows core_layout core)
  repeated-start =
      lowest-keep (repeats core_layout core) (rows core_layout core) (λ i. word xs i / 2) 0 1 (rows core_layout core) (lowest_start (repeats core_layout core) (rows core_layout core) (λ i. word xs i / 2))
      (λ i l m e.
      let z : i ≡ 0 = omega arith in
      absurd (true-not-false (sym e ∙ ap (λ (j : ℕ). repeats core_layout core (word xs j / 2)) z ∙ first-none xs refl)))

  pub repeated-turn : (k least new : ℕ) (b : Bool) → RepeatedTo core xs k least → 1 ≤ k → k < length xs →
      b ≡ same_stamp (row core_layout core (word xs (k - 1) / 2)) (row core_layout core (word xs k / 2)) → new ≡ pick (b && ltb (word xs k / 2) least) (word xs k / 2) least → RepeatedTo core xs (k + 1) new
  repeated-turn k least new b L g l eb en = go b (ltb (word xs k / 2) least) refl refl en
    where
      bad : b ≡ repeats core_layout core (word xs k / 2)
      bad = eb ∙ repeat-turn nr core round xs is k g l

      here : (i : ℕ) → k ≤ i → i < k + 1 → i ≡ k
      here i a c = omega arith

      go : (c d : Bool) → b ≡ c → ltb (word xs k / 2) least ≡ d → new ≡ pick (c && d) (word xs k / 2) least → RepeatedTo core xs (k + 1) new
      go true true q m z =
          let y = ltb-true (word xs k / 2) least m in
          subst (RepeatedTo core xs (k + 1)) (sym z)
          (lowest-new (repeats core_layout core) (rows core_layout core) (λ i. word xs i / 2) k (k + 1) least L (word xs k / 2) (omega arith) (sym bad ∙ q)
          (λ i a c. let u : word xs i ≡ word xs k = ap (word xs) (here i a c) in omega arith))
      go true false q m z =
          let y = ltb-false (word xs k / 2) least m in
          subst (RepeatedTo core xs (k + 1)) (sym z)
          (lowest-keep (repeats core_layout core) (rows core_layout core) (λ i. word xs i / 2) k (k + 1) least L
          (λ i a c h. let u : word xs i ≡ word xs k = ap (word xs) (here i a c) in omega arith))
      go false d q m z =
          subst (RepeatedTo core xs (k + 1)) (sym z)
          (lowest-keep (repeats core_layout core) (rows core_layout core) (λ i. word xs i / 2) k (k + 1) least L
          (λ i a c h. absurd (true-not-false (sym h ∙ ap (λ (j : ℕ). repeats core_layout core (word xs j / 2)) (here i a c) ∙ sym bad ∙ q))))

  module _ (k least : ℕ) (L : RepeatedTo core xs k least) (end : length xs ≤ k) where
    all_in : (r : ℕ) → r < rows core_layout core → repeats core_layout core r ≡ true → (i : ℕ) × (i < k) × (word xs i / 2 ≡ r)
    all_in r l e = let f = repeat-place nr core round xs is r l e in (f.0, omega (arith, f.1), f.2)

    pub repeated-at : least < rows core_layout core → Some least ≡ place_of (first_repeat core_layout core)
    repeated-at l = sym (ap place_of (lowest-some (repeats core_layout core) (rows core_layout core) (λ i. word xs i / 2) k least L all_in l))

    pub repeated-none : rows core_layout core ≤ least → None ≡ place_of (first_repeat core_layout core)
    repeated-none l = sym (ap place_of (lowest-none (repeats core_layout core) (rows core_layout core) (λ i. word xs i / 2) k least L all_in l))
