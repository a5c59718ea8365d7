-- How often the rounds of a written round table look up their constants: round r as often as there are operations, from round
-- 24 - nr to 23, as `update_multiplicities` sets it.
use mathlib.Core.List.{List, ◌∷◌}
use mathlib.Core.Path.{◌≡◌, refl, sym, ap, ap₂, ◌∙◌}
use Prim.Native.Nat.{ℕ, ◌+◌, ◌-◌, ◌*◌, ◌/◌, ◌%◌, ◌≤◌, ◌<◌}
use native.Mathlib.Nat.{add-zero, mul-zero}
use native.Mathlib.Omega.{arith}
use lib.ListN.{get_or}
use Rattle.lists.specs.Tab.{word}
use Rattle.lists.specs.Sum.{sum_below}
use Rattle.lists.proofs.Laws.{tab-same}
use Rattle.lists.proofs.Sum.{sum_same, sum-const, sum-add, sum-part, sum-zero, sum-place, sum-flat}
use Rattle.bits.specs.Bits.{byte_at, word_at}
use Rattle.fips202.specs.Lanes.{rounds_l}
use Rattle.fips202.specs.Tables.{round_constant}
use Rattle.tuple.specs.Tuple.{sender}
use Rattle.tuple.specs.declared.Bus.TheVariants.{KeccakRc}
use Rattle.tuple.specs.declared.Side.TheVariants.{Sender}
use Rattle.keccak.specs.declared.KeccakOperation.{KeccakOperation}
use Rattle.keccak.proofs.Height.{height-ge}
use Rattle.keccak_rc.specs.Row.{rc_row}
use Rattle.keccak_rc.proofs.Found.{rc-round}
use Rattle.keccak_rnd.specs.Columns.{MU, rc}
use Rattle.keccak_rnd.specs.Row.{op_row, round_pad, round_row_at, round_height, round_table}
use Rattle.keccak_rnd.specs.Tuples.{constant_tuple, round_tuple}
use Rattle.keccak_rnd.proofs.Cells.{written-cells}
use Rattle.keccak_rnd.proofs.Completeness.{pad-word}
use Rattle.keccak_rnd.proofs.Table.{round-row-op, round-row-pad, round-table-row}
use Rattle.verdict.specs.CoreAndRound.{round_layout, round_kind}
use Rattle.verdict.proofs.Tables.{table-rows}
use Rattle.bus_sums.specs.Sums.{share, shares, tuple_at, table_share}
use Rattle.bus_sums.proofs.Shares.{share-none, share-is}
use Rattle.bus_sums.proofs.Pairs.{off}

-- a round row sends one tuple on that bus
row-sends : (v x : List ℕ) → sum_below 1031 (λ i. share Sender KeccakRc v (round_tuple x i)) ≡ share Sender KeccakRc v (constant_tuple x)
unfolding round_tuple
row-sends v x =
    sum-part (share Sender KeccakRc v) 1 1030 0 _ _ _ (λ i. off Sender KeccakRc v _ refl)
    (sum-part (share Sender KeccakRc v) 1 1029 0 _ _ _ (λ i. off Sender KeccakRc v _ refl)
    (sum-part (share Sender KeccakRc v) 1 1028 (share Sender KeccakRc v (constant_tuple x)) _ _ _ (λ i. refl)
    (sum-part (share Sender KeccakRc v) 40 988 0 _ _ _ (λ i. off Sender KeccakRc v _ refl)
    (sum-part (share Sender KeccakRc v) 120 868 0 _ _ _ (λ i. off Sender KeccakRc v _ refl)
    (sum-part (share Sender KeccakRc v) 20 848 0 _ _ _ (λ i. off Sender KeccakRc v _ refl)
    (sum-part (share Sender KeccakRc v) 40 808 0 _ _ _ (λ i. off Sender KeccakRc v _ refl)
    (sum-part (share Sender KeccakRc v) 200 608 0 _ _ _ (λ i. off Sender KeccakRc v _ refl)
    (sum-part (share Sender KeccakRc v) 200 408 0 _ _ _ (λ i. off Sender KeccakRc v _ refl)
    (sum-part (share Sender KeccakRc v) 200 208 0 _ _ _ (λ i. off Sender KeccakRc v _ refl)
    (sum-part (share Sender KeccakRc v) 200 8 0 _ _ _ (λ i. off Sender KeccakRc v _ refl)
    (sum-zero 8 _ (λ i l. off Sender KeccakRc v _ refl))))))))))))
    ∙ omega arith

-- row j of an operation: the constant of round 24 - nr + j, once
op-constant : (nr : ℕ) (o : KeccakOperation) (j : ℕ) → constant_tuple (op_row nr o j) ≡ sender KeccakRc 1 (rc_row (24 - nr + j))
unfolding op_row rc_row
op-constant nr o j =
    let r = 24 - nr + j in
    let c = written-cells (word_at o.timestamp) r (rounds_l (24 - nr) j o.input) in
    ap₂ (λ (m : ℕ) (v : List ℕ). sender KeccakRc m v) c.mu-is
    (ap₂ (λ (k : ℕ) (bs : List ℕ). k ∷ bs) c.round_is (tab-same 8 (λ b. word (op_row nr o j) (rc b)) (byte_at (round_constant r)) (λ b l. c.rc-is b l)))

module _ (nr n floor : ℕ) (op : ℕ → KeccakOperation) (most : nr ≤ 24) (r : ℕ) where
  abbrev v : List ℕ
  v = rc_row r

  -- rows of different rounds send different values
  other-round : (s : ℕ) → (s ≡ r → ⊥) → share Sender KeccakRc v (sender KeccakRc 1 (rc_row s)) ≡ 0
  other-round s d = share-none Sender KeccakRc v (sender KeccakRc 1 (rc_row s)) (λ o. d (sym (rc-round s) ∙ ap (λ (u : List ℕ). get_or u 0 0) (sym o.values) ∙ rc-round r))

  same-round : (s : ℕ) → s ≡ r → share Sender KeccakRc v (sender KeccakRc 1 (rc_row s)) ≡ 1
  same-round s e = ap (λ (k : ℕ). share Sender KeccakRc v (sender KeccakRc 1 (rc_row k))) e ∙ share-is (sender KeccakRc 1 v) (sender KeccakRc 1 v) refl

  -- the rows of an operation
  in-operation : 24 - nr ≤ r → r < 24 → sum_below nr (λ j. share Sender KeccakRc v (sender KeccakRc 1 (rc_row (24 - nr + j)))) ≡ 1
  in-operation low high =
      sum-place nr (r - (24 - nr)) (λ j. share Sender KeccakRc v (sender KeccakRc 1 (rc_row (24 - nr + j)))) (omega arith) (λ j l d. other-round (24 - nr + j) (λ e. d (omega (arith, e))))
      ∙ same-round (24 - nr + (r - (24 - nr))) (omega arith)

  not_in : ((24 - nr ≤ r) → (r < 24) → ⊥) → sum_below nr (λ j. share Sender KeccakRc v (sender KeccakRc 1 (rc_row (24 - nr + j)))) ≡ 0
  not_in out = sum-zero nr (λ j. share Sender KeccakRc v (sender KeccakRc 1 (rc_row (24 - nr + j)))) (λ j l. other-round (24 - nr + j) (λ e. out (omega (arith, e)) (omega (arith, e, l, most))))

  op-share : (q : ℕ) → q < n * nr → sum_below 1031 (λ i. share Sender KeccakRc v (round_tuple (round_row_at nr n op q) i)) ≡ share Sender KeccakRc v (sender KeccakRc 1 (rc_row (24 - nr + q % nr)))
  op-share q l =
      row-sends v (round_row_at nr n op q)
      ∙ ap (λ (x : List ℕ). share Sender KeccakRc v (constant_tuple x)) (round-row-op nr n op q l)
      ∙ ap (share Sender KeccakRc v) (op-constant nr (op (q / nr)) (q % nr))

  pad-share : (q : ℕ) → n * nr ≤ q → sum_below 1031 (λ i. share Sender KeccakRc v (round_tuple (round_row_at nr n op q) i)) ≡ 0
  pad-share q l =
      row-sends v (round_row_at nr n op q)
      ∙ ap (λ (x : List ℕ). share Sender KeccakRc v (constant_tuple x)) (round-row-pad nr n op q l)
      ∙ share-none Sender KeccakRc v (constant_tuple round_pad) (λ o. omega (arith, o.some, pad-word MU))

  -- all rows: as many as the rows of one operation send, for each operation
  constants-sent : (c : ℕ) → sum_below nr (λ j. share Sender KeccakRc v (sender KeccakRc 1 (rc_row (24 - nr + j)))) ≡ c
      → table_share Sender KeccakRc v round_kind (round_table nr floor n op) ≡ n * c
  unfolding shares tuple_at round_table
  constants-sent c e =
      let h = round_height nr floor n in
      let F : ℕ → ℕ = λ q. sum_below 1031 (λ i. share Sender KeccakRc v (round_tuple (round_row_at nr n op q) i)) in
      let m = h - n * nr in
      ap (λ (k : ℕ). sum_below k (λ q. sum_below 1031 (λ i. share Sender KeccakRc v (tuple_at round_kind (round_table nr floor n op) q i)))) (table-rows round_layout (omega arith) h (round_row_at nr n op))
      ∙ sum_same h (λ q. sum_below 1031 (λ i. share Sender KeccakRc v (tuple_at round_kind (round_table nr floor n op) q i))) F
      (λ q l. ap (λ (x : List ℕ). sum_below 1031 (λ i. share Sender KeccakRc v (round_tuple x i))) (round-table-row nr n op floor q l))
      ∙ ap (λ (k : ℕ). sum_below k F) (sym (whole (n * nr) h (height-ge floor (n * nr))))
      ∙ sum-add (n * nr) m F
      ∙ ap₂ ◌+◌
      (sum_same (n * nr) F (λ q. share Sender KeccakRc v (sender KeccakRc 1 (rc_row (24 - nr + q % nr)))) op-share
      ∙ sum-flat n nr (λ i j. share Sender KeccakRc v (sender KeccakRc 1 (rc_row (24 - nr + j))))
      ∙ sum_same n (λ i. sum_below nr (λ j. share Sender KeccakRc v (sender KeccakRc 1 (rc_row (24 - nr + j))))) (λ i. c) (λ i _. e)
      ∙ sum-const n c)
      (sum-zero m (λ q. F (n * nr + q)) (λ q _. pad-share (n * nr + q) (omega arith)))
      ∙ add-zero (n * c)
    where
      whole : (a b : ℕ) → a ≤ b → a + (b - a) ≡ b
      whole a b l = omega arith

  pub constant-used : 24 - nr ≤ r → r < 24 → table_share Sender KeccakRc (rc_row r) round_kind (round_table nr floor n op) ≡ n
  constant-used low high = constants-sent 1 (in-operation low high) ∙ omega arith

  pub constant-unused : ((24 - nr ≤ r) → (r < 24) → ⊥) → table_share Sender KeccakRc (rc_row r) round_kind (round_table nr floor n op) ≡ 0
  constant-unused out = constants-sent 0 (not_in out) ∙ mul-zero n
