-- Why MU must be a bit, and why there must be fewer than p rows: core rows that differ in MU alone cancel on every bus where
-- their MUs add up to 0 mod p, whatever the rows hold. Here it is a row at address 1, which is no multiple of 8.
--     cancels       what such rows add to a side of a bus is 0 mod p
--     mu-needed     two rows, their MUs 1 and p - 1: every value is 0 but the second row's 51
--     few-needed    p rows whose MU is 1: every value is 0
use mathlib.Core.Bool.{Bool, true, false, ◌&&◌}
use mathlib.Core.List.{List, [], ◌∷◌}
use mathlib.Core.Path.{◌≡◌, refl, sym, ap, subst, ◌∙◌}
use Prim.Native.Nat.{ℕ, zero, suc, ◌+◌, ◌-◌, ◌*◌, ◌/◌, ◌%◌, ◌<◌}
use native.Mathlib.Nat.{add-zero, mul-zero, mul-one, zero-mul, add-mul, mul-add}
use native.Mathlib.Omega.{arith}
use lib.Dec.{T, eqb, ltb, eqb→eq}
use lib.ListN.{length, get_or-append}
use Rattle.lists.specs.Tab.{word, pick, tab, tab_from, followed_by, table_of, cells_of}
use Rattle.lists.specs.Sum.{sum_below, all_below}
use Rattle.lists.specs.Select.{words_test}
use Rattle.lists.proofs.Laws.{get_d-tab, length-tab, length-table, row_at-table}
use Rattle.lists.proofs.Sum.{sum_same, sum-const, all-at, and_left, and_right}
use Rattle.lists.proofs.Select.{words-sound}
use Rattle.lists.proofs.Then.{then-all, by_le, T_true}
use Rattle.field.specs.Field.{p}
use Rattle.field.proofs.Field.{mul-c}
use Rattle.tuple.specs.Tuple.{Tuple, same_side, same_bus}
use Rattle.tuple.specs.declared.Bus.{Bus}
use Rattle.tuple.specs.declared.Side.{Side}
use Rattle.tuple.specs.declared.Side.TheVariants.{Sender, Receiver}
use Rattle.tuple.proofs.Buses.{bus-decides}
use Rattle.bits.specs.Bits.{pack}
use Rattle.templates.specs.Templates.{emit-add-pair, carry0, add-pair-carry-hi, add-terms-expr}
use Rattle.keccak.specs.Row.{core_address}
use Rattle.keccak.specs.Values.{core_value, pointer_value, top_value}
use Rattle.keccak.specs.Tuples.{core_tuple, ecall_tuple, addr_memw, lane_memw, pointer_tuple, align_tuple, addr_bytes_tuple, core_sent, core_received, keccak_values}
use Rattle.verdict.specs.Kind.{rows, row, ZeroAt, Values}
use Rattle.verdict.specs.CoreAndRound.{core_layout, core_kind, round_kind}
use Rattle.verdict.specs.Claims.{Addressed}
use Rattle.verdict.proofs.Tables.{table-rows, table-whole}
use Rattle.bus_sums.specs.Sums.{share, shares, tuple_at, table_share, bitwise_at, bitwise_share, constant_at, constants_share, is_wh_kind, bus_total}
use Rattle.bus_sums.proofs.Shares.{same-side, no_line}
use Rattle.bus_sums.proofs.Buses.{bitwise-line, constant-line, bitwise-none, constant-none}
use Rattle.bus_sums_needs.specs.Cancel.{cell, crooked, crooked_table, opposite, two_rows, many_rows, nothing, Slips}

-- ---- the row
crooked-length : (m : ℕ) → length (crooked m) ≡ 486
unfolding crooked cell tab tab_from
crooked-length m = refl

mu-is : (m : ℕ) → word (crooked m) 485 ≡ m
unfolding crooked cell tab tab_from
mu-is m = refl

-- it is not where it should be
crooked-place : (m : ℕ) → Addressed (crooked m) → ⊥
unfolding crooked cell tab tab_from pack
crooked-place m a = let e : core_address (crooked m) % 8 ≡ 1 = refl in omega (arith, e, a.aligned)

-- its tuples have multiplicity MU, and the values that they have where MU is 1
pointer-times : (x : List ℕ) (i j : ℕ) → (pointer_tuple x i j).multiplicity ≡ word x 485
unfolding pointer_tuple
pointer-times x i zero = refl
pointer-times x i (suc j) = refl

times : (x : List ℕ) (i : ℕ) → (core_tuple 24 0 x i).multiplicity ≡ word x 485
unfolding core_tuple ecall_tuple addr_memw lane_memw align_tuple addr_bytes_tuple
times x i =
    then-all Times 1 _ _ i (λ l. refl)
    (λ a ea. then-all Times 1 _ _ a (λ l. refl)
    (λ b eb. then-all Times 1 _ _ b (λ l. refl)
    (λ c ec. then-all Times 1 _ _ c (λ l. refl)
    (λ d ed. then-all Times 50 _ _ d (λ l. pointer-times x (d / 2) (d % 2))
    (λ e ee. then-all Times 1 _ _ e (λ l. refl)
    (λ f ef. then-all Times 4 _ _ f (λ l. refl)
    (λ g eg. refl)))))))
  where
    Times : Tuple → Type 0
    Times t = t.multiplicity ≡ word x 485

-- a sum of multiples
sum-times : (n c : ℕ) (f : ℕ → ℕ) → sum_below n (λ k. c * f k) ≡ c * sum_below n f
unfolding sum_below
sum-times zero c f = sym (mul-zero c)
sum-times (suc n) c f = ap (λ (x : ℕ). x + c * f n) (sum-times n c f) ∙ sym (mul-add c (sum_below n f) (f n))

times-sum : (n c : ℕ) (f : ℕ → ℕ) → sum_below n (λ k. f k * c) ≡ sum_below n f * c
unfolding sum_below
times-sum zero c f = sym (zero-mul c)
times-sum (suc n) c f = ap (λ (x : ℕ). x + f n * c) (times-sum n c f) ∙ sym (add-mul (sum_below n f) (f n) c)

-- whether two tuples are alike but for their multiplicities
abbrev alike : Tuple → Tuple → Bool
alike t u = words_test t.values u.values && (same_side t.side u.side && same_bus t.bus u.bus)

all_alike : (m : ℕ) → T (all_below 84 (λ i. alike (core_tuple 24 0 (crooked m) i) (core_tuple 24 0 (crooked 1) i)))
unfolding all_below words_test core_tuple ecall_tuple addr_memw lane_memw pointer_tuple align_tuple addr_bytes_tuple core_sent core_received keccak_values crooked cell tab tab_from followed_by
all_alike m = tt

module _ (s : Side) (b : Bus) (v : List ℕ) where
  -- a tuple adds its multiplicity times what one adds that is like it and has multiplicity 1
  scaled : (t u : Tuple) → T (alike t u) → u.multiplicity ≡ 1 → share s b v t ≡ t.multiplicity * share s b v u
  unfolding share
  scaled t u a one =
      let x = words_test t.values u.values in
      let y = same_side t.side u.side in
      let z = same_bus t.bus u.bus in
      let words = words-sound t.values u.values (and_left x (y && z) a) in
      let sides = same-side t.side u.side (T_true y (and_left y z (and_right x (y && z) a))) in
      let buses = (bus-decides t.bus u.bus).to (and_right y z (and_right x (y && z) a)) in
      (λ k. pick (words_test v (words k)) (pick (same_side s (sides k) && same_bus b (buses k)) t.multiplicity 0) 0)
      ∙ picks (words_test v u.values) (same_side s u.side && same_bus b u.bus) t.multiplicity
      ∙ ap (λ (n : ℕ). t.multiplicity * pick (words_test v u.values) (pick (same_side s u.side && same_bus b u.bus) n 0) 0) (sym one)
    where
      picks : (x y : Bool) (m : ℕ) → pick x (pick y m 0) 0 ≡ m * pick x (pick y 1 0) 0
      picks true true m = sym (mul-one m)
      picks true false m = sym (mul-zero m)
      picks false y m = sym (mul-zero m)

  -- what the row adds where MU is 1
  unfoldable once : ℕ
  once = sum_below 84 (λ i. share s b v (core_tuple 24 0 (crooked 1) i))

  row-adds : (m : ℕ) → sum_below 84 (λ i. share s b v (core_tuple 24 0 (crooked m) i)) ≡ m * once
  unfolding once
  row-adds m =
      sum_same 84 (λ i. share s b v (core_tuple 24 0 (crooked m) i)) (λ i. m * share s b v (core_tuple 24 0 (crooked 1) i))
      (λ i l.
      scaled (core_tuple 24 0 (crooked m) i) (core_tuple 24 0 (crooked 1) i) (all-at 84 _ (all_alike m) i l) (times (crooked 1) i ∙ mu-is 1)
      ∙ ap (λ (n : ℕ). n * share s b v (core_tuple 24 0 (crooked 1) i)) (times (crooked m) i ∙ mu-is m))
      ∙ sum-times 84 m (λ i. share s b v (core_tuple 24 0 (crooked 1) i))

  -- n rows of it, their MUs mu 0 .. mu (n - 1)
  module _ (n : ℕ) (mu : ℕ → ℕ) where
    adds : table_share s b v (core_kind 24) (crooked_table n mu) ≡ sum_below n mu * once
    unfolding shares tuple_at
    adds =
        ap (λ (k : ℕ). sum_below k (λ r. sum_below 84 (λ i. share s b v (core_tuple 24 0 (row core_layout (crooked_table n mu) r) i)))) (table-rows core_layout (omega arith) n (λ r. crooked (mu r)))
        ∙ sum_same n (λ r. sum_below 84 (λ i. share s b v (core_tuple 24 0 (row core_layout (crooked_table n mu) r) i))) (λ r. mu r * once)
        (λ r l. ap (λ (x : List ℕ). sum_below 84 (λ i. share s b v (core_tuple 24 0 x i))) (row_at-table n 486 (λ r. crooked (mu r)) r l (crooked-length (mu r))) ∙ row-adds (mu r))
        ∙ times-sum n once mu

    cancels : sum_below n mu % p ≡ 0 → table_share s b v (core_kind 24) (crooked_table n mu) % p ≡ 0
    cancels e = ap (λ (k : ℕ). k % p) adds ∙ mul-c (sum_below n mu) 0 once e ∙ ap (λ (k : ℕ). k % p) (zero-mul once)

pick-lt : (t : Bool) {a b : ℕ} → a < p → b < p → pick t a b < p
pick-lt true h g = h
pick-lt false h g = g

-- ---- the tables
module _ (n : ℕ) (mu : ℕ → ℕ) (some : 0 < n) (one : mu 0 ≡ 1) (small : (r : ℕ) → mu r < p) (cancel : sum_below n mu % p ≡ 0) where
  abbrev table : List ℕ
  table = crooked_table n mu

  row_is : (r : ℕ) → r < n → row core_layout table r ≡ crooked (mu r)
  row_is r l = row_at-table n 486 (λ r. crooked (mu r)) r l (crooked-length (mu r))

  rows_are : rows core_layout table ≡ n
  rows_are = table-rows core_layout (omega arith) n (λ r. crooked (mu r))

  sum-none : (s : Side) (b : Bus) (v : List ℕ) → bus_total 24 table [] nothing s b v % p ≡ 0
  unfolding bus_total
  sum-none s b v =
      ap (λ (k : ℕ). k % p) (omega (arith, no-round-rows, no_pairs, no_bits, no-rounds)) ∙ cancels s b v n mu cancel
    where
      no-round-rows : table_share s b v round_kind [] ≡ 0
      no-round-rows = no_line s b v 0 1031 (tuple_at round_kind []) (λ r l. absurd (omega arith))

      no_pairs : table_share s b v is_wh_kind [] ≡ 0
      no_pairs = no_line s b v 0 5 (tuple_at is_wh_kind []) (λ r l. absurd (omega arith))

      no_bits : bitwise_share s b v (λ i j. 0) ≡ 0
      no_bits = no_line s b v 1048576 10 (bitwise_at (λ i j. 0)) (λ r l. bitwise-line s b (λ i j. 0) r ∙ bitwise-none s b)

      no-rounds : constants_share s b v (λ r. 0) ≡ 0
      no-rounds = no_line s b v 32 1 (constant_at (λ r. 0)) (λ r l. constant-line s b (λ r. 0) r ∙ constant-none s b)

  -- ---- its words are below p
  cell-small : (k : ℕ) → k < 485 → cell k < p
  unfolding cell
  cell-small k l =
      pick-lt (ltb k 410) (pick-lt (eqb k 2) (omega arith) (omega arith)) (pick-lt (eqb ((k - 410) % 3) 0) (omega arith) (omega arith))

  word_small : (m k : ℕ) → m < p → k < 486 → word (crooked m) k < p
  unfolding crooked
  word_small m k l g =
      by_le 485 k
      (λ h. subst (λ (i : ℕ). word (crooked m) i < p) (omega arith) (subst (λ (n : ℕ). n < p) (sym (mu-is m)) l))
      (λ h. subst (λ (n : ℕ). n < p) (sym (get_or-append (tab 485 cell) (m ∷ []) 0 k (subst (λ (n : ℕ). k < n) (sym (length-tab 485 cell)) h) ∙ get_d-tab 485 cell k 0 h)) (cell-small k h))

  pub slips : Slips table
  unfolding table_of
  slips =
      record {
        whole = table-whole core_layout (omega arith) n (λ r. crooked (mu r));
        below = λ k l.
            let g : k < n * 486 = subst (λ (i : ℕ). k < i) (length-table n 486 (λ r. crooked (mu r))) l in
            subst (λ (i : ℕ). i < p) (sym (get_d-tab (n * 486) (cells_of 486 (λ r. crooked (mu r))) k 0 g)) (word_small (mu (k / 486)) (k % 486) (small (k / 486)) (omega arith));
        agree = λ b v. ap (λ (k : ℕ). k % p) (add-zero (bus_total 24 table [] nothing Sender b v)) ∙ sum-none Sender b v ∙ sym (sum-none Receiver b v);
        active = record { there = subst (λ (i : ℕ). 0 < i) (sym rows_are) some; on = ap (λ (x : List ℕ). word x 485) (row_is 0 some) ∙ mu-is (mu 0) ∙ one };
        misplaced = λ a. crooked-place (mu 0) (subst Addressed (row_is 0 some) a);
      }

-- ---- the values
abbrev zeros : ℕ → ℕ → Bool
zeros n m = all_below n (λ i. eqb (core_value (crooked m) i) 0)

-- all 52 where MU is 1, and the first 51 where it is p - 1
one-zeros : T (zeros 52 1)
unfolding all_below core_value pointer_value top_value emit-add-pair carry0 add-pair-carry-hi add-terms-expr crooked cell tab tab_from followed_by
one-zeros = tt

minus-zeros : T (zeros 51 (opposite 1))
unfolding all_below core_value pointer_value top_value emit-add-pair carry0 add-pair-carry-hi add-terms-expr crooked cell tab tab_from followed_by
minus-zeros = tt

zero-at : (n m : ℕ) → T (zeros n m) → (i : ℕ) → i < n → core_value (crooked m) i ≡ 0
zero-at n m t i l = eqb→eq (core_value (crooked m) i) 0 (all-at n (λ i. eqb (core_value (crooked m) i) 0) t i l)

-- ---- THE MUS 1 AND p - 1
pub mu-needed : Slips two_rows × ((r i : ℕ) → r < 2 → i < 52 → (r ≡ 1 → i ≡ 51 → ⊥) → ZeroAt (core_kind 24) two_rows r i)
unfolding sum_below
mu-needed = (slips 2 opposite (omega arith) refl small refl, vanish)
  where
    small : (r : ℕ) → opposite r < p
    small r = pick-lt (eqb r 0) (omega arith) (omega arith)

    at : (r i : ℕ) → r < 2 → core_value (crooked (opposite r)) i ≡ 0 → ZeroAt (core_kind 24) two_rows r i
    at r i l e = ap (λ (x : List ℕ). core_value x i) (row_at-table 2 486 (λ r. crooked (opposite r)) r l (crooked-length (opposite r))) ∙ e

    vanish : (r i : ℕ) → r < 2 → i < 52 → (r ≡ 1 → i ≡ 51 → ⊥) → ZeroAt (core_kind 24) two_rows r i
    vanish zero i l g n = at 0 i l (zero-at 52 1 one-zeros i g)
    vanish (suc zero) i l g n = at 1 i l (zero-at 51 (opposite 1) minus-zeros i (by_le 51 i (λ h. absurd (n refl (omega arith))) (λ h. h)))
    vanish (suc (suc r)) i l g n = absurd (omega arith)

-- ---- p ROWS
pub few-needed : Slips many_rows × Values (core_kind 24) many_rows
few-needed = (
  slips p (λ r. 1) (omega arith) refl (λ r. omega arith) (ap (λ (n : ℕ). n % p) (sum-const p 1)),
  λ r i l g.
      let h : r < p = subst (λ (n : ℕ). r < n) (table-rows core_layout (omega arith) p (λ r. crooked 1)) l in
      ap (λ (x : List ℕ). core_value x i) (row_at-table p 486 (λ r. crooked 1) r h (crooked-length 1)) ∙ zero-at 52 1 one-zeros i g,
)
