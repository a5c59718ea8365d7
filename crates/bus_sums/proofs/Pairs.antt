-- An IS_WH table for a core table: a row for each pointer of each core row, with that row's MU. What it receives on the
-- IsWh bus is what the core table sends there; and what it sends is found, where the core table passes.
use mathlib.Core.Bool.{Bool, true, false, ◌&&◌}
use mathlib.Core.List.{List, [], ◌∷◌}
use mathlib.Core.Logic.{◌⊎◌, inl, inr}
use mathlib.Core.Path.{◌≡◌, refl, sym, ap, ap₂, subst, ◌∙◌}
use Prim.Native.Nat.{ℕ, zero, suc, ◌+◌, ◌-◌, ◌*◌, ◌/◌, ◌%◌, ◌^◌, ◌≤◌, ◌<◌}
use native.Mathlib.Nat.{mod-eq_of_lt}
use native.Mathlib.Omega.{arith}
use Rattle.lists.specs.Tab.{word, table_of, cells_of, pick}
use Rattle.lists.specs.Sum.{sum_below}
use Rattle.lists.specs.Select.{words_test}
use Rattle.lists.proofs.Laws.{row_at-table, length-table, get_d-tab}
use Rattle.lists.proofs.Sum.{sum_same, sum_then, sum-part, sum-zero, sum-place, sum-flat}
use Rattle.lists.proofs.Then.{by_le, at-two}
use Rattle.field.specs.Field.{p, fadd, fmul}
use Rattle.tuple.specs.Tuple.{Tuple, receiver, same_bus, same_side}
use Rattle.tuple.specs.declared.Bus.{Bus}
use Rattle.tuple.specs.declared.Bus.TheVariants.{IsHalfword, IsWh, IsB20}
use Rattle.tuple.specs.declared.Side.{Side}
use Rattle.tuple.specs.declared.Side.TheVariants.{Sender, Receiver}
use Rattle.is_wh.specs.Row.{pair_row}
use Rattle.is_wh.specs.Tuples.{is_wh_tuple}
use Rattle.is_wh.proofs.Tuples.{mu-sent, half-sent, pair-received}
use Rattle.matching.specs.Matching.{Matched}
use Rattle.matching.proofs.Matching.{is-wh-of}
use Rattle.keccak.specs.Columns.{state-ptr}
use Rattle.keccak.specs.Tuples.{core_tuple, ecall_tuple, addr_memw, lane_memw, pointer_tuple, align_tuple, addr_bytes_tuple}
use Rattle.keccak.proofs.Places.{tuple_at_lem}
use Rattle.verdict.specs.Kind.{rows, row, Lookups, Whole, Elements}
use Rattle.verdict.specs.CoreAndRound.{core_layout, core_kind}
use Rattle.verdict.proofs.Tables.{row_below, table-rows, table-whole}
use Rattle.bus_sums.specs.Sums.{share, shares, is_wh_layout, is_wh_kind, tuple_at, table_share}
use Rattle.bus_sums.proofs.Shares.{On, share-none, shares-find}
use Rattle.bus_sums.proofs.Rows.{sides-differ, pair-early}

-- the row of pointer i of a core row x
unfoldable pub pair_of : List ℕ → ℕ → List ℕ
pair_of x i = pair_row (word x (state-ptr i 0 + 2)) (word x (state-ptr i 0 + 1)) (word x 485)

unfoldable pub pairs_of : List ℕ → List ℕ
pairs_of core = table_of (rows core_layout core * 25) 4 (λ k. pair_of (row core_layout core (k / 25)) (k % 25))

-- a tuple on another bus or side adds nothing
pub off : (s : Side) (b : Bus) (v : List ℕ) (t : Tuple) → (same_side s t.side && same_bus b t.bus) ≡ false → share s b v t ≡ 0
unfolding share
off s b v t e = ap (λ (x : Bool). pick (words_test v t.values) (pick x t.multiplicity 0) 0) e ∙ none (words_test v t.values)
  where
    none : (x : Bool) → pick {A = ℕ} x 0 0 ≡ 0
    none true = refl
    none false = refl

-- ---- the pair of a row
halves : (w : ℕ) → w < p → fadd (w % 65536) (fmul 65536 (w / 65536)) ≡ w
halves w l = ap (fadd (w % 65536)) (mod-eq_of_lt (omega arith)) ∙ mod-eq_of_lt (omega arith) ∙ omega arith

pair-tuple : (x : List ℕ) (i : ℕ) → word x (state-ptr i 0 + 2) < p
    → is_wh_tuple (pair_of x i) 4 ≡ receiver IsWh (word x 485) (word x (state-ptr i 0 + 2) ∷ word x (state-ptr i 0 + 1) ∷ [])
unfolding pair_of
pair-tuple x i l = pair-received (pair_of x i) 4 (omega arith) ∙ ap (λ (w : ℕ). receiver IsWh (word x 485) (w ∷ word x (state-ptr i 0 + 1) ∷ [])) (halves (word x (state-ptr i 0 + 2)) l)

-- what it receives on the bus is what the core row sends for that pointer
pair-share : (v x : List ℕ) (i : ℕ) → word x (state-ptr i 0 + 2) < p
    → sum_below 5 (λ j. share Receiver IsWh v (is_wh_tuple (pair_of x i) j)) ≡ share Sender IsWh v (pointer_tuple x i 0)
unfolding share pointer_tuple
pair-share v x i l =
    sum-place 5 4 (λ j. share Receiver IsWh v (is_wh_tuple (pair_of x i) j)) (omega arith)
    (λ j g n. share-none Receiver IsWh v (is_wh_tuple (pair_of x i) j) (λ o. sides-differ (o.side ∙ pair-early (pair_of x i) j (omega arith))))
    ∙ ap (share Receiver IsWh v) (pair-tuple x i l)

low-off : (v x : List ℕ) (i j : ℕ) → (j ≡ 0 → ⊥) → share Sender IsWh v (pointer_tuple x i j) ≡ 0
unfolding pointer_tuple
low-off v x i zero n = absurd (n refl)
low-off v x i (suc j) n = off Sender IsWh v _ refl

-- what a core row sends on that bus is what its pointers send
pub core-sends : (nr : ℕ) (v x : List ℕ) → sum_below 84 (λ j. share Sender IsWh v (core_tuple nr 0 x j)) ≡ sum_below 25 (λ i. share Sender IsWh v (pointer_tuple x i 0))
unfolding core_tuple ecall_tuple addr_memw lane_memw align_tuple addr_bytes_tuple
core-sends nr v x =
    sum-part H 1 83 0 _ _ _ (λ i. off Sender IsWh v _ refl)
    (sum-part H 1 82 0 _ _ _ (λ i. off Sender IsWh v _ refl)
    (sum-part H 1 81 0 _ _ _ (λ i. off Sender IsWh v _ refl)
    (sum-part H 1 80 0 _ _ _ (λ i. off Sender IsWh v _ refl)
    (sum_then H 50 30 _ _
    ∙ ap₂ ◌+◌ pointers
    (sum-part H 1 29 0 _ _ _ (λ i. off Sender IsWh v _ refl)
    (sum-part H 4 25 0 _ _ _ (λ i. off Sender IsWh v _ refl)
    (sum-zero 25 _ (λ i l. off Sender IsWh v _ refl))))))))
    ∙ omega arith
  where
    H : Tuple → ℕ
    H t = share Sender IsWh v t

    pointers : sum_below 50 (λ i. H (pointer_tuple x (i / 2) (i % 2))) ≡ sum_below 25 (λ i. H (pointer_tuple x i 0))
    pointers =
        sum-flat 25 2 (λ r j. H (pointer_tuple x r j))
        ∙ sum_same 25 (λ r. sum_below 2 (λ j. H (pointer_tuple x r j))) (λ i. H (pointer_tuple x i 0))
        (λ r l. sum-place 2 0 (λ j. H (pointer_tuple x r j)) (omega arith) (λ j g n. low-off v x r j n))

-- ---- the table
module _ (core : List ℕ) where
  abbrev height : ℕ
  height = rows core_layout core * 25

  abbrev pair_at_place : ℕ → List ℕ
  pair_at_place k = pair_of (row core_layout core (k / 25)) (k % 25)

  pub pairs-rows : rows is_wh_layout (pairs_of core) ≡ rows core_layout core * 25
  unfolding pairs_of
  pairs-rows = table-rows is_wh_layout (omega arith) height pair_at_place

  pub pairs-row : (k : ℕ) → k < rows core_layout core * 25 → row is_wh_layout (pairs_of core) k ≡ pair_of (row core_layout core (k / 25)) (k % 25)
  unfolding pairs_of pair_of
  pairs-row k l = row_at-table height 4 pair_at_place k l refl

  pairs-shares : (s : Side) (b : Bus) (v : List ℕ)
      → table_share s b v is_wh_kind (pairs_of core) ≡ sum_below (rows core_layout core) (λ r. sum_below 25 (λ i. sum_below 5 (λ j. share s b v (is_wh_tuple (pair_of (row core_layout core r) i) j))))
  unfolding shares tuple_at
  pairs-shares s b v =
      ap (λ (m : ℕ). sum_below m (λ r. sum_below 5 (λ i. share s b v (tuple_at is_wh_kind (pairs_of core) r i)))) pairs-rows
      ∙ sum_same height (λ r. sum_below 5 (λ i. share s b v (tuple_at is_wh_kind (pairs_of core) r i))) (λ k. sum_below 5 (λ j. share s b v (is_wh_tuple (pair_at_place k) j)))
      (λ k l. ap (λ (y : List ℕ). sum_below 5 (λ j. share s b v (is_wh_tuple y j))) (pairs-row k l))
      ∙ sum-flat (rows core_layout core) 25 (λ r i. sum_below 5 (λ j. share s b v (is_wh_tuple (pair_of (row core_layout core r) i) j)))

  pub pairs-received : Elements core → (nr : ℕ) (v : List ℕ)
      → table_share Receiver IsWh v is_wh_kind (pairs_of core) ≡ table_share Sender IsWh v (core_kind nr) core
  unfolding shares tuple_at
  pairs-received below nr v =
      pairs-shares Receiver IsWh v
      ∙ sum_same (rows core_layout core) (λ r. sum_below 25 (λ i. sum_below 5 (λ j. share Receiver IsWh v (is_wh_tuple (pair_of (row core_layout core r) i) j)))) (λ r. sum_below 84 (λ i. share Sender IsWh v (tuple_at (core_kind nr) core r i)))
      (λ r l.
      sum_same 25 (λ i. sum_below 5 (λ j. share Receiver IsWh v (is_wh_tuple (pair_of (row core_layout core r) i) j))) (λ i. share Sender IsWh v (pointer_tuple (row core_layout core r) i 0))
      (λ i g. pair-share v (row core_layout core r) i (row_below (core_kind nr) core below r (state-ptr i 0 + 2) l (omega arith)))
      ∙ sym (core-sends nr v (row core_layout core r)))

  -- whole rows of words below p
  pub pairs-whole : Whole is_wh_layout (pairs_of core)
  unfolding pairs_of
  pairs-whole = table-whole is_wh_layout (omega arith) height pair_at_place

  pair-below : (x : List ℕ) (i : ℕ) → i < 25 → ((k : ℕ) → k < 486 → word x k < p) → (m : ℕ) → word (pair_of x i) m < p
  unfolding pair_of
  pair-below x i l h zero = h (state-ptr i 0 + 1) (omega arith)
  pair-below x i l h (suc zero) = omega arith
  pair-below x i l h (suc (suc zero)) = let a = h (state-ptr i 0 + 2) (omega arith) in omega (arith, a)
  pair-below x i l h (suc (suc (suc zero))) = h 485 (omega arith)
  pair-below x i l h (suc (suc (suc (suc m)))) = omega arith

  pub pairs_below : (nr : ℕ) → Elements core → Elements (pairs_of core)
  unfolding pairs_of table_of
  pairs_below nr below k l =
      let g : k < height * 4 = subst (λ (n : ℕ). k < n) (length-table height 4 pair_at_place) l in
      subst (λ (n : ℕ). n < p) (sym (get_d-tab (height * 4) (cells_of 4 pair_at_place) k 0 g))
      (pair-below (row core_layout core (k / 4 / 25)) (k / 4 % 25) (omega arith) (λ m c. row_below (core_kind nr) core below (k / 4 / 25) m (omega arith) c) (k % 4))

  -- ---- what it sends is found
  module _ (bits : (r : ℕ) → r < rows core_layout core → word (row core_layout core r) 485 < 2) where
    mu-at : (x : List ℕ) (i : ℕ) → word (pair_of x i) 3 ≡ word x 485
    unfolding pair_of
    mu-at x i = refl

    -- the two limbs of an active row's pointer that make a pair
    limbs : (nr : ℕ) → Lookups (core_kind nr) core → (r i : ℕ) → r < rows core_layout core → i < 25 → 1 ≤ word (row core_layout core r) 485
        → (word (row core_layout core r) (state-ptr i 0 + 2) < 2 ^ 32) × (word (row core_layout core r) (state-ptr i 0 + 1) < 2 ^ 16)
    unfolding pointer_tuple
    limbs nr ok r i l g m =
        is-wh-of (word (row core_layout core r) (state-ptr i 0 + 2)) (word (row core_layout core r) (state-ptr i 0 + 1))
        (subst Matched pointer (ok r (4 + (i * 2 + 0)) l (omega arith)) (λ z. omega (arith, m, z)))
      where
        pointer : core_tuple nr 0 (row core_layout core r) (4 + (i * 2 + 0)) ≡ pointer_tuple (row core_layout core r) i 0
        pointer =
            let a : (i * 2 + 0) / 2 ≡ i = omega arith in
            let c : (i * 2 + 0) % 2 ≡ 0 = omega arith in
            tuple_at_lem nr 0 (row core_layout core r) 4 (i * 2 + 0) (omega arith) ∙ at-two (pointer_tuple (row core_layout core r)) a c

    small : (x : List ℕ) (i m : ℕ) → m < 3 → word x (state-ptr i 0 + 2) < 2 ^ 32 → word x (state-ptr i 0 + 1) < 2 ^ 16 → word (pair_of x i) m < 2 ^ 16
    unfolding pair_of
    small x i zero l hw hh = hh
    small x i (suc zero) l hw hh = omega arith
    small x i (suc (suc zero)) l hw hh = omega (arith, hw)
    small x i (suc (suc (suc m))) l hw hh = absurd (omega arith)

    -- MU is sent on the bus of 20 bits, and halfwords on theirs
    pub record PairSent (b : Bus) (v : List ℕ) : Type 0 where
      pub number : ℕ
      pub values : v ≡ number ∷ []
      pub range : ((b ≡ IsB20) × (number < 2 ^ 20)) ⊎ ((b ≡ IsHalfword) × (number < 2 ^ 16))

    pub pairs-found : (nr : ℕ) → Lookups (core_kind nr) core → (b : Bus) (v : List ℕ) → 1 ≤ table_share Sender b v is_wh_kind (pairs_of core) → PairSent b v
    unfolding tuple_at
    pairs-found nr ok b v some =
        let f = shares-find Sender b v (rows is_wh_layout (pairs_of core)) 5 (tuple_at is_wh_kind (pairs_of core)) some in
        let q : f.0 < height = subst (λ (n : ℕ). f.0 < n) pairs-rows f.2 in
        go f.0 q f.1 f.3 (subst (λ (y : List ℕ). On Sender b v (is_wh_tuple y f.1)) (pairs-row f.0 q) f.4)
      where
        go : (k : ℕ) → k < height → (j : ℕ) → j < 5 → On Sender b v (is_wh_tuple (pair_at_place k) j) → PairSent b v
        go k l zero g o =
            let e = mu-sent (pair_at_place k) 0 refl in
            record {
              number = word (pair_at_place k) 3;
              values = o.values ∙ ap (λ (t : Tuple). t.values) e;
              range = inl (o.bus ∙ ap (λ (t : Tuple). t.bus) e, omega (arith, mu-at (row core_layout core (k / 25)) (k % 25), bits (k / 25) (omega arith)));
            }
        go k l (suc j) g o =
            by_le 4 (suc j)
            (λ c. absurd (sides-differ (sym (o.side ∙ ap (λ (t : Tuple). t.side) (pair-received (pair_at_place k) (suc j) c)))))
            (λ c.
            let e = half-sent (pair_at_place k) (suc j) (omega arith) c in
            let m : 1 ≤ word (pair_at_place k) 3 = subst (λ (n : ℕ). 1 ≤ n) (ap (λ (t : Tuple). t.multiplicity) e) o.some in
            let h = limbs nr ok (k / 25) (k % 25) (omega arith) (omega arith) (omega (arith, m, mu-at (row core_layout core (k / 25)) (k % 25))) in
            record {
              number = word (pair_at_place k) (suc j - 1);
              values = o.values ∙ ap (λ (t : Tuple). t.values) e;
              range = inr (o.bus ∙ ap (λ (t : Tuple). t.bus) e, small (row core_layout core (k / 25)) (k % 25) (suc j - 1) (omega arith) h.0 h.1);
            })
