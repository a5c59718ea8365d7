-- "One row per distinct `(word, half)` pair, with `μ` counting its sends.": the IS_WH table of the rows of a list's keys receives each
-- pair exactly as often as the core table of the same operations sends it, as whole numbers. And every tuple of its rows is found.
use mathlib.Core.Bool.{Bool, true, false, ◌&&◌}
use mathlib.Core.List.{List, [], ◌∷◌}
use mathlib.Core.Option.{none}
use mathlib.Core.Path.{◌≡◌, refl, sym, ap, ap₂, subst, ◌∙◌}
use Prim.Native.Nat.{ℕ, zero, suc, ◌+◌, ◌-◌, ◌*◌, ◌/◌, ◌%◌, ◌^◌, ◌≤◌, ◌<◌}
use native.Mathlib.Nat.{zero-add, add-sub_of_le}
use native.Mathlib.Omega.{arith}
use borrow.Author.Tests.{eq-eqb, ne_eqb}
use lib.Dec.{eqb}
use lib.ListN.{length}
use Rattle.lists.specs.Tab.{pick, word, row_at}
use Rattle.lists.specs.First.{first_at, count_below}
use Rattle.lists.specs.Sum.{sum_below}
use Rattle.lists.specs.Select.{words_test}
use Rattle.lists.proofs.Count.{count_same, sum-tests}
use Rattle.lists.proofs.Sum.{sum_same, sum-add, sum-zero, sum-place, sum-flat}
use Rattle.lists.proofs.Then.{by_le}
use Rattle.tuple.specs.Tuple.{Tuple, receiver}
use Rattle.tuple.specs.declared.Bus.TheVariants.{IsWh}
use Rattle.tuple.specs.declared.Side.TheVariants.{Sender, Receiver}
use Rattle.bitwise.specs.Charge.{found}
use Rattle.bitwise.proofs.Charge.{half-found, twenty-is-found, Sound, half-sound, twenty-sound, pair-sound}
use Rattle.bitwise.proofs.Found.{half-occurs}
use Rattle.is_wh.specs.Row.{pair_row}
use Rattle.is_wh.specs.Tuples.{is_wh_tuple}
use Rattle.is_wh.proofs.Tuples.{mu-sent, half-sent, pair-received}
use Rattle.is_wh.proofs.Received.{row-receives, received-found}
use Rattle.matching.specs.Matching.{Found, FoundOn, Matched}
use Rattle.keccak.specs.Height.{height}
use Rattle.keccak.specs.Row.{core_row, core_pad, core_row_at, core_table, is-wh-keys, key_words}
use Rattle.keccak.specs.Tuples.{core_tuple, pointer_tuple}
use Rattle.keccak.specs.declared.KeccakOperation.{KeccakOperation}
use Rattle.keccak.proofs.Cells.{read-mu, pad-mu}
use Rattle.keccak.proofs.Height.{height-ge}
use Rattle.keccak.proofs.Keys.{length-keys, word_first, half-second}
use Rattle.keccak.proofs.Memory.{keys-sent}
use Rattle.keccak.proofs.Table.{core-row-op, core-row-pad, core-table-row}
use Rattle.is_wh_rows.specs.Rows.{Row, codes, rows_of, flat}
use Rattle.is_wh_rows.specs.Lists.{limit_of, bad_at, GoodList}
use Rattle.is_wh_rows.specs.Meaning.{times_sent, times_counted}
use Rattle.is_wh_rows.proofs.Lists.{none-bad}
use Rattle.is_wh_rows.proofs.Counts.{all-counted}
use Rattle.is_wh_trace.specs.Trace.{row_count, trace_row, is_wh_height, is_wh_table}
use Rattle.is_wh_trace.proofs.Rows.{row_before, row-behind, written_row}
use Rattle.is_wh_trace.proofs.Deduped.{rows-counted, deduped-good}
use Rattle.is_wh_counts.proofs.Charging.{good-row}
use Rattle.verdict.specs.Kind.{row}
use Rattle.verdict.specs.CoreAndRound.{core_layout, core_kind}
use Rattle.verdict.proofs.Tables.{table-rows}
use Rattle.bus_sums.specs.Sums.{share, shares, is_wh_layout, is_wh_kind, tuple_at, table_share}
use Rattle.bus_sums.proofs.Shares.{share-none}
use Rattle.bus_sums.proofs.Rows.{sides-differ, pair-early}
use Rattle.bus_sums.proofs.Pairs.{core-sends}

pick-zero : (t : Bool) → pick {A = ℕ} t 0 0 ≡ 0
pick-zero true = refl
pick-zero false = refl

-- ---- what the IS_WH table of a list of rows receives
module _ (v : List ℕ) where
  -- the pair of a row, and how often
  row-share : (x : List ℕ) → sum_below 5 (λ j. share Receiver IsWh v (is_wh_tuple x j)) ≡ share Receiver IsWh v (is_wh_tuple x 4)
  row-share x =
      sum-place 5 4 (λ j. share Receiver IsWh v (is_wh_tuple x j)) (omega arith)
      (λ j g n. share-none Receiver IsWh v (is_wh_tuple x j) (λ o. sides-differ (o.side ∙ pair-early x j (omega arith))))

  received-share : (m : ℕ) (u : List ℕ) → share Receiver IsWh v (receiver IsWh m u) ≡ pick (words_test v u) m 0
  unfolding share
  received-share m u = refl

  pair-share : (w h mu : ℕ) → w < 2 ^ 32 → share Receiver IsWh v (is_wh_tuple (pair_row w h mu) 4) ≡ pick (words_test v (w ∷ h ∷ [])) mu 0
  pair-share w h mu l =
      let e = pair-received (pair_row w h mu) 4 (omega arith) in
      ap (share Receiver IsWh v) (e ∙ ap (λ (u : List ℕ). receiver IsWh mu u) (sym (ap (λ (t : Tuple). t.values) e) ∙ row-receives w h mu l))
      ∙ received-share mu (w ∷ h ∷ [])

  module _ (rows₁ : List ℕ) (g : GoodList 3 rows₁) where
    abbrev entry : ℕ → ℕ
    entry r = pick (words_test v (word rows₁ (3 * r) ∷ word rows₁ (3 * r + 1) ∷ [])) (word rows₁ (3 * r + 2)) 0

    list-share : (r : ℕ) → r < row_count rows₁ → share Receiver IsWh v (is_wh_tuple (row_at 4 (is_wh_table rows₁) r) 4) ≡ entry r
    unfolding trace_row
    list-share r l =
        ap (λ (x : List ℕ). share Receiver IsWh v (is_wh_tuple x 4)) (written_row rows₁ r (omega (arith, height-ge 4 (row_count rows₁))) ∙ row_before rows₁ (row_count rows₁) r l)
        ∙ pair-share (word rows₁ (3 * r)) (word rows₁ (3 * r + 1)) (word rows₁ (3 * r + 2)) (good-row rows₁ g r l).0

    pad-share : (r : ℕ) → row_count rows₁ ≤ r → r < is_wh_height rows₁ → share Receiver IsWh v (is_wh_tuple (row_at 4 (is_wh_table rows₁) r) 4) ≡ 0
    pad-share r le l =
        ap (λ (x : List ℕ). share Receiver IsWh v (is_wh_tuple x 4)) (written_row rows₁ r l ∙ row-behind rows₁ (row_count rows₁) r le)
        ∙ pair-share 0 0 0 (omega arith) ∙ pick-zero (words_test v (0 ∷ 0 ∷ []))

    table-share : table_share Receiver IsWh v is_wh_kind (is_wh_table rows₁) ≡ sum_below (row_count rows₁) entry
    unfolding shares tuple_at is_wh_table
    table-share =
        let n = row_count rows₁ in
        let m = is_wh_height rows₁ - n in
        let F : ℕ → ℕ = λ r. share Receiver IsWh v (is_wh_tuple (row_at 4 (is_wh_table rows₁) r) 4) in
        let ge = height-ge 4 n in
        ap (λ (k : ℕ). sum_below k (λ r. sum_below 5 (λ j. share Receiver IsWh v (is_wh_tuple (row is_wh_layout (is_wh_table rows₁) r) j)))) (table-rows is_wh_layout (omega arith) (is_wh_height rows₁) _)
        ∙ sum_same (is_wh_height rows₁) (λ r. sum_below 5 (λ j. share Receiver IsWh v (is_wh_tuple (row is_wh_layout (is_wh_table rows₁) r) j))) F (λ r l. row-share (row_at 4 (is_wh_table rows₁) r))
        ∙ ap (λ (k : ℕ). sum_below k F) (sym (add-sub_of_le ge))
        ∙ sum-add n m F
        ∙ ap₂ ◌+◌ (sum_same n F entry (λ r l. list-share r l)) (sum-zero m (λ k. F (n + k)) (λ k l. pad-share (n + k) (omega arith) (omega arith)))
        ∙ omega arith

-- ---- rows in a flat list, by their fields
module _ (F : ℕ → ℕ → ℕ → ℕ) where
  abbrev folded : List Row → ℕ
  folded [] = 0
  folded (r ∷ rs) = F r.word r.half r.mu + folded rs

  abbrev at : List ℕ → ℕ → ℕ
  at ws r = F (word ws (3 * r)) (word ws (3 * r + 1)) (word ws (3 * r + 2))

  flat-sum : (rs : List Row) → sum_below (length rs) (at (flat rs)) ≡ folded rs
  unfolding flat sum_below
  flat-sum [] = refl
  flat-sum (r ∷ rs) =
      let n = length rs in
      let ws = r.word ∷ r.half ∷ r.mu ∷ flat rs in
      let e : suc n ≡ 1 + n = omega arith in
      ap (λ (k : ℕ). sum_below k (at ws)) e
      ∙ sum-add 1 n (at ws)
      ∙ ap₂ ◌+◌ (zero-add (F r.word r.half r.mu)) (sum_same n (λ k. at ws (1 + k)) (at (flat rs)) (λ k l. next k) ∙ flat-sum rs)
    where
      next : (k : ℕ) → at (r.word ∷ r.half ∷ r.mu ∷ flat rs) (1 + k) ≡ at (flat rs) k
      next k =
          let a : 3 * (1 + k) ≡ suc (suc (suc (3 * k))) = omega arith in
          let b : 3 * (1 + k) + 1 ≡ suc (suc (suc (3 * k + 1))) = omega arith in
          let c : 3 * (1 + k) + 2 ≡ suc (suc (suc (3 * k + 2))) = omega arith in
          let ws = r.word ∷ r.half ∷ r.mu ∷ flat rs in
          λ t. F (word ws (a t)) (word ws (b t)) (word ws (c t))

-- ---- a pair by the test of lists
eqb-sym : (a b : ℕ) → eqb a b ≡ eqb b a
eqb-sym a b =
    by_le a b
    (λ l. by_le b a (λ m. eq-eqb a b (omega arith) ∙ sym (eq-eqb b a (omega arith))) (λ m. ne_eqb a b (λ e. omega arith) ∙ sym (ne_eqb b a (λ e. omega arith))))
    (λ l. ne_eqb a b (λ e. omega arith) ∙ sym (ne_eqb b a (λ e. omega arith)))

and_one : (a b : Bool) → (a && (b && true)) ≡ (a && b)
and_one true true = refl
and_one true false = refl
and_one false b = refl

and_none : (a : Bool) → (a && false) ≡ false
and_none true = refl
and_none false = refl

pair-test : (a b w h : ℕ) → words_test (a ∷ b ∷ []) (w ∷ h ∷ []) ≡ (eqb w a && eqb h b)
unfolding words_test
pair-test a b w h = and_one (eqb a w) (eqb b h) ∙ ap₂ (λ (x y : Bool). (x && y)) (eqb-sym a w) (eqb-sym b h)

-- a list that is no pair is never a row's
abbrev NoPair : List ℕ → Type 0
NoPair v = (w h : ℕ) → words_test v (w ∷ h ∷ []) ≡ false

none-pair : NoPair []
unfolding words_test
none-pair w h = refl

one-pair : (a : ℕ) → NoPair (a ∷ [])
unfolding words_test
one-pair a w h = and_none (eqb a w)

three-pair : (a b c : ℕ) (v : List ℕ) → NoPair (a ∷ b ∷ c ∷ v)
unfolding words_test
three-pair a b c v w h = ap (λ (t : Bool). (eqb a w && t)) (and_none (eqb b h)) ∙ and_none (eqb a w)

counted-fold : (a b : ℕ) (rs : List Row) → folded (λ w h mu. pick (words_test (a ∷ b ∷ []) (w ∷ h ∷ [])) mu 0) rs ≡ times_counted a b rs
unfolding times_counted
counted-fold a b [] = refl
counted-fold a b (r ∷ rs) = ap₂ ◌+◌ (ap (λ (t : Bool). pick t r.mu 0) (pair-test a b r.word r.half)) (counted-fold a b rs)

never-fold : (v : List ℕ) → NoPair v → (rs : List Row) → folded (λ w h mu. pick (words_test v (w ∷ h ∷ [])) mu 0) rs ≡ 0
never-fold v n [] = refl
never-fold v n (r ∷ rs) = ap₂ ◌+◌ (ap (λ (t : Bool). pick t r.mu 0) (n r.word r.half)) (never-fold v n rs)

-- ---- what the core table sends
module _ (n : ℕ) (op : ℕ → KeccakOperation) where
  abbrev keys : List ℕ
  keys = key_words n op

  abbrev sends_at : List ℕ → ℕ → Bool
  sends_at v k = words_test v (word keys (2 * k) ∷ word keys (2 * k + 1) ∷ [])

  module _ (nr : ℕ) (v : List ℕ) where
    pointer-share : (x : List ℕ) (i : ℕ) → share Sender IsWh v (pointer_tuple x i 0) ≡ pick (words_test v (pointer_tuple x i 0).values) (word x 485) 0
    unfolding share pointer_tuple
    pointer-share x i = refl

    key-share : (r i : ℕ) → r < n → i < 25 → share Sender IsWh v (pointer_tuple (core_row (op r)) i 0) ≡ pick (sends_at v (25 * r + i)) 1 0
    key-share r i l g =
        let k = 25 * r + i in
        pointer-share (core_row (op r)) i
        ∙ ap₂ (λ (u : List ℕ) (m : ℕ). pick (words_test v u) m 0)
        (keys-sent op r i g ∙ sym (ap₂ (λ (a b : ℕ). a ∷ b ∷ []) (word_first n op k (omega arith)) (half-second n op k (omega arith))))
        (read-mu (op r))

    pad-sends : (i : ℕ) → share Sender IsWh v (pointer_tuple core_pad i 0) ≡ 0
    pad-sends i = pointer-share core_pad i ∙ ap (λ (m : ℕ). pick (words_test v (pointer_tuple core_pad i 0).values) m 0) pad-mu ∙ pick-zero (words_test v (pointer_tuple core_pad i 0).values)

    core-share : (floor : ℕ) → table_share Sender IsWh v (core_kind nr) (core_table floor n op) ≡ count_below (sends_at v) (n * 25)
    unfolding shares tuple_at core_table
    core-share floor =
        let h = height floor n in
        let m = h - n in
        let ge = height-ge floor n in
        let core = core_table floor n op in
        let F : ℕ → ℕ = λ r. sum_below 25 (λ i. share Sender IsWh v (pointer_tuple (core_row_at n op r) i 0)) in
        ap (λ (k : ℕ). sum_below k (λ r. sum_below 84 (λ i. share Sender IsWh v (core_tuple nr 0 (row core_layout core r) i)))) (table-rows core_layout (omega arith) h (core_row_at n op))
        ∙ sum_same h (λ r. sum_below 84 (λ i. share Sender IsWh v (core_tuple nr 0 (row core_layout core r) i))) F
        (λ r l. core-sends nr v (row core_layout core r) ∙ ap (λ (x : List ℕ). sum_below 25 (λ i. share Sender IsWh v (pointer_tuple x i 0))) (core-table-row n op floor r l))
        ∙ ap (λ (k : ℕ). sum_below k F) (sym (add-sub_of_le ge))
        ∙ sum-add n m F
        ∙ ap₂ ◌+◌
        (sum_same n F (λ r. sum_below 25 (λ i. pick (sends_at v (25 * r + i)) 1 0))
        (λ r l. ap (λ (x : List ℕ). sum_below 25 (λ i. share Sender IsWh v (pointer_tuple x i 0))) (core-row-op n op r l)
        ∙ sum_same 25 (λ i. share Sender IsWh v (pointer_tuple (core_row (op r)) i 0)) (λ i. pick (sends_at v (25 * r + i)) 1 0) (λ i g. key-share r i l g)))
        (sum-zero m (λ k. F (n + k))
        (λ k l. ap (λ (x : List ℕ). sum_below 25 (λ i. share Sender IsWh v (pointer_tuple x i 0))) (core-row-pad n op (n + k) (omega arith))
        ∙ sum-zero 25 (λ i. share Sender IsWh v (pointer_tuple core_pad i 0)) (λ i g. pad-sends i)))
        ∙ omega arith
        ∙ sym (sum-flat n 25 (λ r i. pick (sends_at v (25 * r + i)) 1 0))
        ∙ sum_same (n * 25) (λ k. pick (sends_at v (25 * (k / 25) + k % 25)) 1 0) (λ k. pick (sends_at v k) 1 0)
        (λ k l. let e : 25 * (k / 25) + k % 25 ≡ k = omega arith in ap (λ (j : ℕ). pick (sends_at v j) 1 0) e)
        ∙ sum-tests (sends_at v) (n * 25)

  -- ---- the keys pass every check
  module _ (few : n ≤ 89478485) (low : (i : ℕ) → i < n → (op i).state_addr + 192 < 2 ^ 64) where
    key-word : (k : ℕ) → k < n * 25 → (is-wh-keys op k).word < 2 ^ 32
    unfolding is-wh-keys
    key-word k l = let a = low (k / 25) (omega arith) in omega (arith, a)

    key-half : (k : ℕ) → (is-wh-keys op k).half < 2 ^ 16
    unfolding is-wh-keys
    key-half k = omega arith

    key_below : (k : ℕ) → k < length keys → word keys k < limit_of (k % 2)
    key_below k l =
        let j = k / 2 in
        let g : j < n * 25 = omega (arith, length-keys n op) in
        by_le 1 (k % 2)
        (λ o.
        let e : k ≡ 2 * j + 1 = omega arith in
        let q : k % 2 ≡ 1 = omega arith in
        subst (λ (m : ℕ). word keys k < limit_of m) (sym q) (subst (λ (m : ℕ). m < 65536) (sym (ap (word keys) e ∙ half-second n op j g)) (key-half j)))
        (λ o.
        let e : k ≡ 2 * j = omega arith in
        let q : k % 2 ≡ 0 = omega arith in
        subst (λ (m : ℕ). word keys k < limit_of m) (sym q) (subst (λ (m : ℕ). m < 4294967296) (sym (ap (word keys) e ∙ word_first n op j g)) (key-word j g)))

    pub keys-good : GoodList 2 keys
    keys-good = record { few = omega (arith, length-keys n op); whole = omega (arith, length-keys n op); below = key_below }

    none-refused : first_at (bad_at 2 keys) (length keys) ≡ none
    none-refused = none-bad 2 keys key_below

    -- the rows of the keys
    abbrev list : List ℕ
    list = flat (rows_of (codes keys))

    pub list-good : GoodList 3 list
    list-good = deduped-good keys none-refused (omega (arith, length-keys n op))

    -- ---- each pair is received as often as it is sent
    module _ (nr floor : ℕ) (v : List ℕ) where
      received-fold : table_share Receiver IsWh v is_wh_kind (is_wh_table list) ≡ folded (λ w h mu. pick (words_test v (w ∷ h ∷ [])) mu 0) (rows_of (codes keys))
      received-fold =
          table-share v list list-good
          ∙ ap (λ (k : ℕ). sum_below k (at (λ w h mu. pick (words_test v (w ∷ h ∷ [])) mu 0) list)) (rows-counted keys none-refused)
          ∙ flat-sum (λ w h mu. pick (words_test v (w ∷ h ∷ [])) mu 0) (rows_of (codes keys))

      no-pair : NoPair v → table_share Receiver IsWh v is_wh_kind (is_wh_table list) ≡ table_share Sender IsWh v (core_kind nr) (core_table floor n op)
      no-pair e =
          received-fold ∙ never-fold v e (rows_of (codes keys))
          ∙ sym (core-share nr v floor ∙ sym (sum-tests (sends_at v) (n * 25)) ∙ sum-zero (n * 25) (λ k. pick (sends_at v k) 1 0) (λ k l. ap (λ (t : Bool). pick {A = ℕ} t 1 0) (e (word keys (2 * k)) (word keys (2 * k + 1)))))

    pair-balanced : (nr floor a b : ℕ) → table_share Receiver IsWh (a ∷ b ∷ []) is_wh_kind (is_wh_table list) ≡ table_share Sender IsWh (a ∷ b ∷ []) (core_kind nr) (core_table floor n op)
    unfolding times_sent
    pair-balanced nr floor a b =
        let k : length keys / 2 ≡ n * 25 = omega (arith, length-keys n op) in
        received-fold nr floor (a ∷ b ∷ [])
        ∙ counted-fold a b (rows_of (codes keys))
        ∙ all-counted keys none-refused a b
        ∙ ap (count_below (λ i. (eqb (word keys (2 * i)) a && eqb (word keys (2 * i + 1)) b))) k
        ∙ count_same _ (sends_at (a ∷ b ∷ [])) (n * 25) (λ i l. sym (pair-test a b (word keys (2 * i)) (word keys (2 * i + 1))))
        ∙ sym (core-share nr (a ∷ b ∷ []) floor)

    pub pairs-balanced : (nr floor : ℕ) (v : List ℕ) → table_share Receiver IsWh v is_wh_kind (is_wh_table list) ≡ table_share Sender IsWh v (core_kind nr) (core_table floor n op)
    pairs-balanced nr floor [] = no-pair nr floor [] none-pair
    pairs-balanced nr floor (a ∷ []) = no-pair nr floor (a ∷ []) (one-pair a)
    pairs-balanced nr floor (a ∷ b ∷ []) = pair-balanced nr floor a b
    pairs-balanced nr floor (a ∷ b ∷ c ∷ v) = no-pair nr floor (a ∷ b ∷ c ∷ v) (three-pair a b c v)

-- ---- a tuple of any row that is counted is found
pub row-sound : (x : List ℕ) (i : ℕ) → Sound (is_wh_tuple x i)
row-sound x zero = subst Sound (sym (mu-sent x 0 refl)) (twenty-sound 1 _)
row-sound x (suc i) =
    by_le 4 (suc i) (λ g. subst Sound (sym (pair-received x (suc i) g)) (pair-sound (word x 3) _))
    (λ g. subst Sound (sym (half-sent x (suc i) (omega arith) g)) (half-sound (word x 3) _))

-- ---- every tuple of the rows of a good list is found
module _ (w h mu : ℕ) (lw : w < 2 ^ 32) (lh : h < 2 ^ 16) (lm : mu < 2 ^ 20) where
  limb : (j : ℕ) → j < 3 → word (pair_row w h mu) j < 2 ^ 16
  limb zero l = lh
  limb (suc zero) l = omega arith
  limb (suc (suc zero)) l = omega arith
  limb (suc (suc (suc j))) l = absurd (omega arith)

  abbrev Fine : Tuple → Type 0
  Fine t = Found t × (t.side ≡ Sender → found t.bus t.values ≡ true)

  row_fine : (i : ℕ) → i < 5 → Fine (is_wh_tuple (pair_row w h mu) i)
  unfolding FoundOn
  row_fine zero l = subst Fine (sym (mu-sent (pair_row w h mu) 0 refl)) (tt, λ e. twenty-is-found mu lm)
  row_fine (suc i) l =
      by_le 4 (suc i)
      (λ g.
      let e = pair-received (pair_row w h mu) (suc i) g in
      subst Fine (sym e)
      (subst (λ (t : Tuple). FoundOn IsWh t.values) (pair-received (pair_row w h mu) 4 (omega arith)) (received-found (pair_row w h mu) limb), λ q. absurd (sides-differ q)))
      (λ g.
      let e = half-sent (pair_row w h mu) (suc i) (omega arith) g in
      let b = limb (suc i - 1) (omega arith) in
      subst Fine (sym e) (half-occurs (word (pair_row w h mu) (suc i - 1)) b, λ q. half-found (word (pair_row w h mu) (suc i - 1)) b))

module _ (rows₁ : List ℕ) (g : GoodList 3 rows₁) where
  table-fine : (r i : ℕ) → r < is_wh_height rows₁ → i < 5
      → Found (is_wh_tuple (row_at 4 (is_wh_table rows₁) r) i) × ((is_wh_tuple (row_at 4 (is_wh_table rows₁) r) i).side ≡ Sender → found (is_wh_tuple (row_at 4 (is_wh_table rows₁) r) i).bus (is_wh_tuple (row_at 4 (is_wh_table rows₁) r) i).values ≡ true)
  unfolding trace_row
  table-fine r i l k =
      by_le (row_count rows₁) r
      (λ c. subst (λ (x : List ℕ). Found (is_wh_tuple x i) × ((is_wh_tuple x i).side ≡ Sender → found (is_wh_tuple x i).bus (is_wh_tuple x i).values ≡ true)) (sym (written_row rows₁ r l ∙ row-behind rows₁ (row_count rows₁) r c)) (row_fine 0 0 0 (omega arith) (omega arith) (omega arith) i k))
      (λ c. let b = good-row rows₁ g r c in subst (λ (x : List ℕ). Found (is_wh_tuple x i) × ((is_wh_tuple x i).side ≡ Sender → found (is_wh_tuple x i).bus (is_wh_tuple x i).values ≡ true)) (sym (written_row rows₁ r l ∙ row_before rows₁ (row_count rows₁) r c)) (row_fine (word rows₁ (3 * r)) (word rows₁ (3 * r + 1)) (word rows₁ (3 * r + 2)) b.0 b.1 b.2 i k))

  -- found where it is looked up, whatever its multiplicity
  pub rows-matched : (r i : ℕ) → r < is_wh_height rows₁ → i < 5 → Matched (is_wh_tuple (row_at 4 (is_wh_table rows₁) r) i)
  rows-matched r i l k = λ m. (table-fine r i l k).0

  -- and what is sent stands in a row of the bitwise table
  pub rows-sent : (r i : ℕ) → r < is_wh_height rows₁ → i < 5 → (is_wh_tuple (row_at 4 (is_wh_table rows₁) r) i).side ≡ Sender
      → found (is_wh_tuple (row_at 4 (is_wh_table rows₁) r) i).bus (is_wh_tuple (row_at 4 (is_wh_table rows₁) r) i).values ≡ true
  rows-sent r i l k = (table-fine r i l k).1
