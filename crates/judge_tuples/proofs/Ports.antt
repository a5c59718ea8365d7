-- A Keccak tuple is known by its timestamp, its round and the columns of its state, so two are the same exactly where
-- these are.
use mathlib.Core.Path.{◌≡◌, refl, sym, ap, ap₂, subst, ◌∙◌}
use mathlib.Core.Bool.{Bool, true, false, not, ◌&&◌}
use mathlib.Core.List.{List}
use Prim.Native.Nat.{ℕ, zero, suc, ◌+◌, ◌*◌, ◌-◌, ◌/◌, ◌%◌, ◌≤◌, ◌<◌}
use native.Mathlib.Omega.{arith}
use borrow.Author.Tests.{eqb-true, eq-eqb, lt-ltb, le-ltb, not-true, not-false, ne_eqb}
use lib.Dec.{T, eqb, ltb}
use lib.ListN.{get_or}
use Rattle.lists.specs.Tab.{word, pick, tab}
use Rattle.lists.specs.First.{any_below}
use Rattle.lists.specs.Select.{words_test, words_differ}
use Rattle.lists.proofs.First.{any-clear, any-nothing}
use Rattle.lists.proofs.Tests.{T_of, and-true, true-and}
use Rattle.lists.proofs.Then.{by_le, T_true}
use Rattle.lists.proofs.Laws.{get_d-tab, tab-same}
use Rattle.lists.proofs.Select.{words_same_lem, words-sound}
use Rattle.keccak.specs.Columns.{by_xyb}
use Rattle.keccak.specs.Tuples.{keccak_values, core_sent, core_received}
use Rattle.keccak_rnd.specs.Tuples.{out, round_received, round_sent}
use Rattle.keccak_rnd.proofs.Active.{of-200}
use Rattle.keccak_rnd.proofs.Step.{keccak-same}
use Rattle.verdict.specs.Kind.{same_stamp}
use Rattle.judge_scan.specs.Tables.{layout_of}
use Rattle.judge_tuples.specs.Port.{tuple_of, table_of, width_of, round_of, lane_at, rest_at, same_state}
use Rattle.judge_tuples.specs.declared.Port.{Port}
use Rattle.judge_tuples.specs.declared.Port.TheVariants.{CoreSend, CoreReceive, RoundReceive, RoundSend}

-- word k of the state of a tuple, by columns
unfoldable pub state_word : Port → List ℕ → ℕ → ℕ
state_word s x k = pick (ltb k 8) (word x (lane_at s + k)) (word x (rest_at s + k))

-- the same at lane (i, j) and byte b
abbrev cell : Port → List ℕ → ℕ → ℕ → ℕ → ℕ
cell s x i j b = state_word s x ((i + 5 * j) * 8 + b)

early : (s : Port) (x : List ℕ) (k : ℕ) → k < 8 → state_word s x k ≡ word x (lane_at s + k)
unfolding state_word
early s x k l = rw (lt-ltb k 8 l)

late : (s : Port) (x : List ℕ) (k : ℕ) → 8 ≤ k → state_word s x k ≡ word x (rest_at s + k)
unfolding state_word
late s x k l = rw (le-ltb k 8 l)

-- where lane (0, 0) stands with the others
pick_same : (b : Bool) (n : ℕ) → pick b n n ≡ n
pick_same true n = refl
pick_same false n = refl

plain : (s : Port) (base : ℕ) (x : List ℕ) → lane_at s ≡ base → rest_at s ≡ base → (i j b : ℕ) → word x (base + (i + 5 * j) * 8 + b) ≡ cell s x i j b
unfolding state_word
plain s base x e f i j b =
    let z : base + (i + 5 * j) * 8 + b ≡ base + ((i + 5 * j) * 8 + b) = omega arith in
    ap (word x) z ∙ sym (rw (e, f) (pick_same (ltb ((i + 5 * j) * 8 + b) 8) (word x (base + ((i + 5 * j) * 8 + b)))))

-- what a match has found
pub told-round : (x : List ℕ) {s q : Port} → s ≡ q → round_of q x ≡ round_of s x
told-round x e = ap (λ (s : Port). round_of s x) (sym e)

-- the columns of a tuple are in its row
lane_in : (s : Port) → lane_at s + 8 ≤ width_of s
unfolding lane_at width_of table_of layout_of
lane_in (CoreSend nr) = omega arith
lane_in CoreReceive = omega arith
lane_in RoundReceive = omega arith
lane_in RoundSend = omega arith

rest_in : (s : Port) → (rest_at s + 200 ≤ width_of s) × (3 ≤ width_of s) × (width_of s ≤ 1480)
unfolding rest_at width_of table_of layout_of
rest_in (CoreSend nr) = (omega arith, omega arith, omega arith)
rest_in CoreReceive = (omega arith, omega arith, omega arith)
rest_in RoundReceive = (omega arith, omega arith, omega arith)
rest_in RoundSend = (omega arith, omega arith, omega arith)

pub lane-fits : (s : Port) (i n : ℕ) → i ≡ lane_at s → width_of s ≤ n → i + 8 ≤ n
lane-fits s i n e l = omega (arith, lane_in s)

pub rest-fits : (s : Port) (i n : ℕ) → i ≡ rest_at s → width_of s ≤ n → i + 8 + 192 ≤ n
rest-fits s i n e l = let h = rest_in s in omega arith

pub rest-small : (s : Port) (i : ℕ) → i ≡ rest_at s → i ≤ 1480
rest-small s i e = let h = rest_in s in omega arith

pub front_fits : (s : Port) (n : ℕ) → width_of s ≤ n → 3 ≤ n
front_fits s n l = let h = rest_in s in omega arith

-- a tuple is its timestamp, its round and its state by columns
handed-on : (x : List ℕ) (i j b : ℕ) → i < 5 → j < 5 → b < 8 → word x (out i j b) ≡ cell RoundSend x i j b
unfolding state_word lane_at rest_at
handed-on x zero zero b hi hj hb =
    let z : 1471 + b ≡ 1471 + ((0 + 5 * 0) * 8 + b) = omega arith in
    ap (word x) z ∙ sym (rw (lt-ltb ((0 + 5 * 0) * 8 + b) 8 (omega arith)))
handed-on x (suc i) j b hi hj hb =
    let z : 1263 + (suc i + 5 * j) * 8 + b ≡ 1263 + ((suc i + 5 * j) * 8 + b) = omega arith in
    let o : out (suc i) j b ≡ 1263 + (suc i + 5 * j) * 8 + b = rw (ne_eqb (suc i) 0 (λ e. omega arith)) in
    ap (word x) (o ∙ z) ∙ sym (rw (le-ltb ((suc i + 5 * j) * 8 + b) 8 (omega arith)))
handed-on x zero (suc j) b hi hj hb =
    let z : 1263 + (0 + 5 * suc j) * 8 + b ≡ 1263 + ((0 + 5 * suc j) * 8 + b) = omega arith in
    let o : out 0 (suc j) b ≡ 1263 + (0 + 5 * suc j) * 8 + b = rw (ne_eqb (suc j) 0 (λ e. omega arith)) in
    ap (word x) (o ∙ z) ∙ sym (rw (le-ltb ((0 + 5 * suc j) * 8 + b) 8 (omega arith)))

pub tuple_is : (s : Port) (x : List ℕ) → tuple_of s x ≡ keccak_values (word x 0) (word x 1) (round_of s x) (cell s x)
unfolding tuple_of round_of core_sent core_received round_received round_sent lane_at rest_at
tuple_is (CoreSend nr) x = keccak-same _ _ _ _ _ (λ i j b hi hj hb. plain (CoreSend nr) 10 x refl refl i j b)
tuple_is CoreReceive x = keccak-same _ _ _ _ _ (λ i j b hi hj hb. plain CoreReceive 210 x refl refl i j b)
tuple_is RoundReceive x = keccak-same _ _ _ _ _ (λ i j b hi hj hb. plain RoundReceive 3 x refl refl i j b)
tuple_is RoundSend x = keccak-same _ _ _ _ _ (handed-on x)

-- ---- two tuples
either : (a b : Bool) → (a ≡ true → b ≡ true) → (b ≡ true → a ≡ true) → a ≡ b
either true b f g = sym (f refl)
either false true f g = g refl
either false false f g = refl

and-and : (a b c : Bool) → (a && (b && c)) ≡ ((a && b) && c)
and-and true b c = refl
and-and false b c = refl

-- the states of two tuples in the order of the bus
abbrev spread : Port → List ℕ → List ℕ
spread s x = tab 200 (by_xyb (cell s x))

module _ (s : Port) (x : List ℕ) (q : Port) (y : List ℕ) where
  abbrev SameWords : Type 0
  SameWords = (k : ℕ) → k < 200 → state_word s x k ≡ state_word q y k

  at-column : (s : Port) (x : List ℕ) (k : ℕ) → k < 200 → get_or (spread s x) (k / 8 % 5 * 40 + k / 40 * 8 + k % 8) 0 ≡ state_word s x k
  at-column s x k l =
      let z : (k / 8 % 5 + 5 * (k / 40)) * 8 + k % 8 ≡ k = omega arith in
      get_d-tab 200 (by_xyb (cell s x)) (k / 8 % 5 * 40 + k / 40 * 8 + k % 8) 0 (omega arith)
      ∙ of-200 (cell s x) (k / 8 % 5) (k / 40) (k % 8) (omega arith) (omega arith)
      ∙ ap (state_word s x) z

  spread-words : spread s x ≡ spread q y → SameWords
  spread-words e k l = sym (at-column s x k l) ∙ ap (λ (v : List ℕ). get_or v (k / 8 % 5 * 40 + k / 40 * 8 + k % 8) 0) e ∙ at-column q y k l

  words_spread : SameWords → spread s x ≡ spread q y
  words_spread h = tab-same 200 (by_xyb (cell s x)) (by_xyb (cell q y)) (λ i l. h ((i / 40 + 5 * (i / 8 % 5)) * 8 + i % 8) (omega arith))

  columns-words : same_state s x q y ≡ true → SameWords
  unfolding same_state words_differ
  columns-words e k l =
      let b = and-true (not (any_below (words_differ x (lane_at s) y (lane_at q)) 8)) (not (any_below (words_differ x (rest_at s + 8) y (rest_at q + 8)) 192)) e in
      by_le 8 k
      (λ g.
      let z : rest_at s + k ≡ rest_at s + 8 + (k - 8) = omega arith in
      let w : rest_at q + k ≡ rest_at q + 8 + (k - 8) = omega arith in
      late s x k g ∙ ap (word x) z
      ∙ eqb-true _ _ (not-false _ (any-clear (words_differ x (rest_at s + 8) y (rest_at q + 8)) 192 (k - 8) (not-true _ b.1) (omega arith)))
      ∙ sym (ap (word y) w) ∙ sym (late q y k g))
      (λ g. early s x k g ∙ eqb-true _ _ (not-false _ (any-clear (words_differ x (lane_at s) y (lane_at q)) 8 k (not-true _ b.0) g)) ∙ sym (early q y k g))

  words-columns : SameWords → same_state s x q y ≡ true
  unfolding same_state words_differ
  words-columns h =
      true-and _ _
      (ap not (any-nothing _ 8 (λ k l. ap not (eq-eqb _ _ (sym (early s x k l) ∙ h k (omega arith) ∙ early q y k l)))))
      (ap not (any-nothing _ 192 (λ k l.
      let z : rest_at s + 8 + k ≡ rest_at s + (8 + k) = omega arith in
      let w : rest_at q + (8 + k) ≡ rest_at q + 8 + k = omega arith in
      ap not (eq-eqb _ _ (ap (word x) z ∙ sym (late s x (8 + k) (omega arith)) ∙ h (8 + k) (omega arith) ∙ late q y (8 + k) (omega arith) ∙ ap (word y) w)))))

  state-test : words_test (spread s x) (spread q y) ≡ same_state s x q y
  state-test =
      either _ _
      (λ e. words-columns (spread-words (words-sound _ _ (T_of _ e))))
      (λ e. T_true _ (subst (λ (v : List ℕ). T (words_test (spread s x) v)) (words_spread (columns-words e)) (words_same_lem (spread s x))))

  pub tuple-test : words_test (tuple_of s x) (tuple_of q y) ≡ (same_stamp x y && (eqb (round_of s x) (round_of q y) && same_state s x q y))
  unfolding keccak_values words_test same_stamp
  tuple-test =
      ap₂ words_test (tuple_is s x) (tuple_is q y)
      ∙ ap (λ (b : Bool). eqb (word x 0) (word y 0) && (eqb (word x 1) (word y 1) && (eqb (round_of s x) (round_of q y) && b))) state-test
      ∙ and-and (eqb (word x 0) (word y 0)) (eqb (word x 1) (word y 1)) (eqb (round_of s x) (round_of q y) && same_state s x q y)

  -- what the code finds, one test after the other
  pub stamp-apart : same_stamp x y ≡ false → words_test (tuple_of s x) (tuple_of q y) ≡ false
  stamp-apart e = tuple-test ∙ rw e

  module _ (e : same_stamp x y ≡ true) (a b : ℕ) (ea : a ≡ round_of s x) (eb : b ≡ round_of q y) where
    pub round-apart : (a ≡ b → ⊥) → false ≡ words_test (tuple_of s x) (tuple_of q y)
    round-apart n = sym (tuple-test ∙ rw (e, ne_eqb (round_of s x) (round_of q y) (λ z. n (ea ∙ z ∙ sym eb))))

    pub by_state : a ≡ b → same_state s x q y ≡ words_test (tuple_of s x) (tuple_of q y)
    by_state z = sym (tuple-test ∙ rw (e, eq-eqb (round_of s x) (round_of q y) (sym ea ∙ z ∙ eb)))

  -- the states, likewise: the first lane, then the others
  module _ (i j : ℕ) (ei : i ≡ lane_at s) (ej : j ≡ lane_at q) (b : Bool) (eb : b ≡ not (any_below (words_differ x i y j) 8)) where
    first_lane : b ≡ not (any_below (words_differ x (lane_at s) y (lane_at q)) 8)
    first_lane = eb ∙ ap₂ (λ (i j : ℕ). not (any_below (words_differ x i y j) 8)) ei ej

    pub lane-apart : b ≡ false → false ≡ same_state s x q y
    unfolding same_state
    lane-apart z = sym (rw (sym first_lane ∙ z))

    pub by-rest : b ≡ true → (m n : ℕ) (c : Bool) → m ≡ rest_at s + 8 → n ≡ rest_at q + 8 → c ≡ not (any_below (words_differ x m y n) 192) →
        c ≡ same_state s x q y
    unfolding same_state
    by-rest z m n c em en ec =
        ec ∙ ap₂ (λ (i j : ℕ). not (any_below (words_differ x i y j) 192)) em en ∙ sym (rw (sym first_lane ∙ z))
