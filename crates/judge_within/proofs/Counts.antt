-- How often a tuple is sent and received by active rows, counted over places.
--     tuple-203       a place's tuple has 203 values, so it is its own key
--     stamp-key       two places of core rows have one timestamp exactly where the first two values are equal
--     sent-places, received-places   the two counts
--     uneven-places   so the values of a tuple are uneven exactly where the two counts differ
use mathlib.Core.Path.{◌≡◌, refl, sym, ap, ap₂, ◌∙◌}
use mathlib.Core.Bool.{Bool, true, false, not, ◌&&◌}
use mathlib.Core.List.{List}
use Prim.Native.Nat.{ℕ, zero, suc, ◌+◌, ◌*◌, ◌/◌, ◌%◌, ◌<◌}
use native.Mathlib.Omega.{arith}
use borrow.Author.Tests.{eq-eqb, ne_eqb}
use lib.Dec.{eqb}
use lib.ListN.{take}
use lib.Seq.{take_all}
use Rattle.lists.specs.Tab.{pick}
use Rattle.lists.specs.First.{count_below}
use Rattle.lists.specs.Select.{words_test}
use Rattle.lists.proofs.Count.{count_add, count_same}
use Rattle.lists.proofs.First.{count-start}
use Rattle.lists.proofs.Tests.{false-and}
use Rattle.tuple.specs.declared.Side.TheVariants.{Sender, Receiver}
use Rattle.verdict.specs.Kind.{rows, row, active, sent, received}
use Rattle.verdict.specs.Verdict.{uneven}
use Rattle.verdict.specs.CoreAndRound.{core_layout, round_layout, core_kind, round_kind}
use Rattle.verdict.specs.declared.Table.{Table}
use Rattle.verdict.specs.declared.Table.TheVariants.{Core, Round}
use Rattle.verdict.proofs.Tuples.{active-tuples-count, core-bus, round-bus}
use Rattle.judge_scan.specs.Tables.{layout_of}
use Rattle.judge_tuples.specs.Port.{tuple_of}
use Rattle.judge_tuples.specs.declared.Port.{Port}
use Rattle.judge_tuples.specs.declared.Port.TheVariants.{CoreSend, CoreReceive, RoundReceive, RoundSend}
use Rattle.judge_links.specs.Even.{has_tuple}
use Rattle.judge_links.proofs.Even.{core-sends, core-receives, round-sends, round-receives, counts}
use Rattle.judge_bus.specs.Order.{first_port, second_port}
use Rattle.sort_places.specs.Places.{core_places, place_count, port_at, place_port, place_row_words, place_tuple}
use Rattle.sort_places.proofs.Tuples.{tuple-long}
use Rattle.judge_within.specs.Places.{active_place, sends_at, sends}
use Rattle.judge_within.proofs.Groups.{count-stop}
use Rattle.judge_within.proofs.Balance.{PlaceIs, core-place, round-place, half, half-odd, port-even, port-odd}

pub tuple-203 : (nr : ℕ) (core round : List ℕ) (p : ℕ) → take 203 (place_tuple nr core round p) ≡ place_tuple nr core round p
unfolding place_tuple
tuple-203 nr core round p =
    take_all 203 (place_tuple nr core round p) (omega (arith, tuple-long (place_port nr core p) (place_row_words core round p)))

-- ---- counts over pairs
one-pair : (a b : Bool) (c x y : ℕ) → c ≡ x + y → pick b (pick a (c + 1) c + 1) (pick a (c + 1) c) ≡ pick a (x + 1) x + pick b (y + 1) y
one-pair true true c x y e = omega arith
one-pair true false c x y e = omega arith
one-pair false true c x y e = omega arith
one-pair false false c x y e = e

count-pairs : (f : ℕ → Bool) (n : ℕ) → count_below f (2 * n) ≡ count_below (λ r. f (2 * r)) n + count_below (λ r. f (2 * r + 1)) n
unfolding count_below
count-pairs f zero = refl
count-pairs f (suc n) =
    let e : 2 * suc n ≡ suc (suc (2 * n)) = omega arith in
    let o : suc (2 * n) ≡ 2 * n + 1 = omega arith in
    ap (count_below f) e
    ∙ ap (λ (b : Bool). pick b (pick (f (2 * n)) (count_below f (2 * n) + 1) (count_below f (2 * n)) + 1) (pick (f (2 * n)) (count_below f (2 * n) + 1) (count_below f (2 * n)))) (ap f o)
    ∙ one-pair (f (2 * n)) (f (2 * n + 1)) (count_below f (2 * n)) (count_below (λ r. f (2 * r)) n) (count_below (λ r. f (2 * r + 1)) n) (count-pairs f n)

count_none : (f : ℕ → Bool) (n : ℕ) → ((k : ℕ) → k < n → f k ≡ false) → count_below f n ≡ 0
count_none f n h = sym (count-stop f 0 n (omega arith) (λ k l m. h k m)) ∙ count-start f

-- ---- the two tuples of a row, each on a side
module _ (nr : ℕ) (core round v : List ℕ) (g : Bool → Bool) where
  -- whether an active row has the tuple v at place p, on the side that g chooses
  abbrev pub on_side : ℕ → Bool
  on_side p = active_place core round p && (g (sends core p) && words_test v (place_tuple nr core round p))

  side-at : (t : Table) (ws : List ℕ) (p k r : ℕ) (s : Port) (b : Bool) → PlaceIs nr core round t ws p k → k / 2 ≡ r → port_at nr t k ≡ s → g (sends_at t k) ≡ b →
      on_side p ≡ (active (layout_of t) ws r && (b && words_test v (tuple_of s (row (layout_of t) ws r))))
  side-at t ws p k r s b h er es eb =
      (λ i. h.on i && (g (h.send i) && words_test v (h.tuple i)))
      ∙ (λ i. active (layout_of t) ws (er i) && (eb i && words_test v (tuple_of (es i) (row (layout_of t) ws (er i)))))

  abbrev on_row : Table → List ℕ → Port → Bool → ℕ → Bool
  on_row t ws s b r = active (layout_of t) ws r && (b && words_test v (tuple_of s (row (layout_of t) ws r)))

  count-table : (t : Table) (ws : List ℕ) (f : ℕ → Bool) (a b : Bool) → ((r : ℕ) → g (sends_at t (2 * r)) ≡ a) → ((r : ℕ) → g (sends_at t (2 * r + 1)) ≡ b) →
      ((k : ℕ) → k < 2 * rows (layout_of t) ws → (p : ℕ) × PlaceIs nr core round t ws p k × (f k ≡ on_side p)) →
      count_below f (2 * rows (layout_of t) ws) ≡ count_below (on_row t ws (first_port nr t) a) (rows (layout_of t) ws) + count_below (on_row t ws (second_port t) b) (rows (layout_of t) ws)
  count-table t ws f a b ea eb h =
      count-pairs f (rows (layout_of t) ws)
      ∙ ap₂ ◌+◌
      (count_same (λ r. f (2 * r)) (on_row t ws (first_port nr t) a) (rows (layout_of t) ws)
      (λ r l. let q = h (2 * r) (omega arith) in q.2 ∙ side-at t ws q.0 (2 * r) r (first_port nr t) a q.1 (half r) (port-even nr t r) (ea r)))
      (count_same (λ r. f (2 * r + 1)) (on_row t ws (second_port t) b) (rows (layout_of t) ws)
      (λ r l. let q = h (2 * r + 1) (omega arith) in q.2 ∙ side-at t ws q.0 (2 * r + 1) r (second_port t) b q.1 (half-odd r) (port-odd nr t r) (eb r)))

  -- the rows of a table that have v as a tuple, and none where that tuple is on the other side
  pub on-true : (t : Table) (ws : List ℕ) (s : Port) → count_below (on_row t ws s true) (rows (layout_of t) ws) ≡ count_below (has_tuple (layout_of t) s ws v) (rows (layout_of t) ws)
  unfolding has_tuple
  on-true t ws s = refl

  pub on-false : (t : Table) (ws : List ℕ) (s : Port) → count_below (on_row t ws s false) (rows (layout_of t) ws) ≡ 0
  on-false t ws s = count_none (on_row t ws s false) (rows (layout_of t) ws) (λ r l. false-and (active (layout_of t) ws r) false (λ z. refl))

  pub count-sides : (a b c d : Bool) → ((r : ℕ) → g (sends_at Core (2 * r)) ≡ a) → ((r : ℕ) → g (sends_at Core (2 * r + 1)) ≡ b) →
      ((r : ℕ) → g (sends_at Round (2 * r)) ≡ c) → ((r : ℕ) → g (sends_at Round (2 * r + 1)) ≡ d) →
      count_below on_side (place_count core round) ≡
      (count_below (on_row Core core (first_port nr Core) a) (rows core_layout core) + count_below (on_row Core core (second_port Core) b) (rows core_layout core))
      + (count_below (on_row Round round (first_port nr Round) c) (rows round_layout round) + count_below (on_row Round round (second_port Round) d) (rows round_layout round))
  unfolding place_count core_places layout_of
  count-sides a b c d ea eb ec ed =
      let n : place_count core round ≡ core_places core + 2 * rows round_layout round = omega arith in
      ap (count_below on_side) n
      ∙ count_add on_side (core_places core) (2 * rows round_layout round)
      ∙ ap₂ ◌+◌
      (count-table Core core on_side a b ea eb (λ k l. (k, core-place nr core round k l, refl)))
      (count-table Round round (λ k. on_side (core_places core + k)) c d ec ed (λ k l. (core_places core + k, round-place nr core round k, refl)))

-- ---- a core row sends the first of its two tuples, a round row the second
core-even : (r : ℕ) → sends_at Core (2 * r) ≡ true
unfolding sends_at
core-even r = let e : 2 * r % 2 ≡ 0 = omega arith in eq-eqb (2 * r % 2) 0 e

core-odd : (r : ℕ) → sends_at Core (2 * r + 1) ≡ false
unfolding sends_at
core-odd r = let e : (2 * r + 1) % 2 ≡ 1 = omega arith in ne_eqb ((2 * r + 1) % 2) 0 (λ z. omega arith)

round-even : (r : ℕ) → sends_at Round (2 * r) ≡ false
unfolding sends_at
round-even r = let e : 2 * r % 2 ≡ 0 = omega arith in ne_eqb (2 * r % 2) 1 (λ z. omega arith)

round-odd : (r : ℕ) → sends_at Round (2 * r + 1) ≡ true
unfolding sends_at
round-odd r = let e : (2 * r + 1) % 2 ≡ 1 = omega arith in eq-eqb ((2 * r + 1) % 2) 1 e

module _ (nr : ℕ) (core round v : List ℕ) where
  pub sent-places : count_below (on_side nr core round v (λ b. b)) (place_count core round) ≡ sent (core_kind nr) core v + sent round_kind round v
  unfolding first_port second_port layout_of
  sent-places =
      let s = count-sides nr core round v (λ b. b) true false false true core-even core-odd round-even round-odd in
      let c = active-tuples-count (core-bus nr) Sender core v ∙ sym (counts (core-sends nr core v) (rows core_layout core)) in
      let d = active-tuples-count round-bus Sender round v ∙ sym (counts (round-sends round v) (rows round_layout round)) in
      omega (
        arith,
        s,
        c,
        d,
        on-true nr core round v (λ b. b) Core core (CoreSend nr),
        on-false nr core round v (λ b. b) Core core CoreReceive,
        on-false nr core round v (λ b. b) Round round RoundReceive,
        on-true nr core round v (λ b. b) Round round RoundSend,
      )

  pub received-places : count_below (on_side nr core round v not) (place_count core round) ≡ received (core_kind nr) core v + received round_kind round v
  unfolding first_port second_port layout_of
  received-places =
      let s = count-sides nr core round v not false true true false (λ r. ap not (core-even r)) (λ r. ap not (core-odd r)) (λ r. ap not (round-even r)) (λ r. ap not (round-odd r)) in
      let c = active-tuples-count (core-bus nr) Receiver core v ∙ sym (counts (core-receives nr core v) (rows core_layout core)) in
      let d = active-tuples-count round-bus Receiver round v ∙ sym (counts (round-receives round v) (rows round_layout round)) in
      omega (
        arith,
        s,
        c,
        d,
        on-false nr core round v not Core core (CoreSend nr),
        on-true nr core round v not Core core CoreReceive,
        on-true nr core round v not Round round RoundReceive,
        on-false nr core round v not Round round RoundSend,
      )

  pub uneven-places : (a b : ℕ) → a ≡ count_below (on_side nr core round v (λ b. b)) (place_count core round) → b ≡ count_below (on_side nr core round v not) (place_count core round) →
      not (eqb a b) ≡ uneven (core_kind nr) round_kind core round v
  unfolding uneven
  uneven-places a b ea eb = λ i. not (eqb ((ea ∙ sent-places) i) ((eb ∙ received-places) i))
