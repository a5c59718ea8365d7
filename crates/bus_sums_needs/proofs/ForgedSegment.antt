-- A whole segment for the IS_WH table of Forged.antt: but for the bus IsB20 it is all that `SumsHold` asks, and its one active
-- core row has lane 0 elsewhere than at its address. The core row is written for an address whose high word is 2^32 - 5; then
-- the high limb of pointer 0 is set to p - 5, which is 2^32 - 5 less 2^32, so that the high carry is 1.
use mathlib.Core.Bool.{Bool, true, false, ◌&&◌}
use mathlib.Core.List.{List, [], ◌∷◌}
use mathlib.Core.Path.{◌≡◌, refl, sym, ap, subst, ◌∙◌}
use Prim.Native.Nat.{ℕ, zero, suc, ◌+◌, ◌-◌, ◌*◌, ◌%◌, ◌^◌, ◌≤◌, ◌<◌}
use native.Mathlib.Decide.{ℕ_discrete}
use native.Mathlib.Omega.{arith}
use borrow.Author.Tests.{ne_eqb}
use lib.Dec.{T, eqb, ltb, eqb→eq, ltb→lt}
use lib.ListN.{length, length-set, set}
use lib.Seq.{get_or-set_same, get_or-set_other}
use Rattle.lists.specs.Tab.{word, pick, tab, tab_from, followed_by, row_of, table_of, cells_of}
use Rattle.lists.specs.Sum.{sum_below, all_below}
use Rattle.lists.specs.Select.{words_test}
use Rattle.lists.specs.First.{count_below}
use Rattle.lists.proofs.Sum.{all-at}
use Rattle.lists.proofs.Laws.{get_d-tab, length-tab, length-table, row_at-table}
use Rattle.lists.proofs.Then.{by_le}
use Rattle.field.specs.Field.{p}
use Rattle.tuple.specs.Tuple.{Tuple, bus_number}
use Rattle.tuple.specs.declared.Bus.{Bus}
use Rattle.tuple.specs.declared.Bus.TheVariants.{ByteAlu, AreBytes, IsHalfword, IsWh, KeccakRc, Keccak, IsB20, Memw, Ecall, Msb8, Msb16, Zero, Hwsl}
use Rattle.tuple.specs.declared.Side.{Side}
use Rattle.tuple.specs.declared.Side.TheVariants.{Sender, Receiver}
use Rattle.bits.specs.Bits.{word_at, limb_at, pack}
use Rattle.templates.specs.Templates.{emit-add-pair, carry0, add-pair-carry-hi, add-terms-expr}
use Rattle.is_wh.specs.Found.{is_wh_found}
use Rattle.is_wh.specs.Tuples.{is_wh_tuple}
use Rattle.is_wh.proofs.Tuples.{mu-sent, half-sent, pair-received}
use Rattle.bitwise.specs.Found.{alu_found, alu_op, are_bytes_found, half_found, BitwiseFound}
use Rattle.bitwise.proofs.Found.{half-occurs}
use Rattle.matching.specs.Matching.{found_on, matched, FoundOn, Matched}
use Rattle.matching.proofs.Matching.{matched-decides}
use Rattle.keccak.specs.Row.{pointer_limb, core_groups, core_row, core_row_at, core_table, core_address, core_pointer}
use Rattle.keccak.specs.Values.{core_value, pointer_value, top_value}
use Rattle.keccak.specs.Tuples.{core_tuple, ecall_tuple, addr_memw, lane_memw, pointer_tuple, align_tuple, addr_bytes_tuple, core_sent, core_received, keccak_values}
use Rattle.keccak.specs.Height.{height, next-power-of-two, doubled}
use Rattle.keccak.proofs.Cells.{length-core, core-words}
use Rattle.keccak.proofs.Height.{height-le}
use Rattle.keccak_rnd.specs.Row.{round_table, round_height, round_row_at}
use Rattle.verdict.specs.Kind.{rows, row, is_active, active, Passes, Balanced, active_tuples}
use Rattle.verdict.specs.CoreAndRound.{core_layout, round_layout, core_kind, round_kind, verdict_at}
use Rattle.verdict.specs.Claims.{Addressed}
use Rattle.verdict.specs.declared.Verdict.TheVariants.{Holds}
use Rattle.verdict.specs.Honest.{RightOperation, flat_state}
use Rattle.verdict.proofs.Failures.{verdict-says}
use Rattle.verdict.proofs.Honest.{table-holds}
use Rattle.verdict.proofs.Tables.{table-rows, table-whole}
use Rattle.verdict.proofs.Tuples.{place, active_tuple_at, active-tuples-count, core-bus}
use Rattle.bus_sums.specs.Sums.{share, shares, Fillings, tuple_at, table_share, is_wh_layout, is_wh_kind, Ours, Constrained, Agree, nobody}
use Rattle.bus_sums.proofs.Shares.{On, not-zero, shares-find}
use Rattle.bus_sums.proofs.Rows.{sides-differ}
use Rattle.bus_sums.proofs.Pairs.{core-sends}
use Rattle.bus_sums.proofs.Filling.{filled, table-found, alu-agree, bytes-agree, constants-agree, half-agree, is-wh-agree, keccak-agree, in_field}
use Rattle.bus_sums_needs.specs.Forged.{forged, operation, bent, bent_core, bent_round, Forgery}
use Rattle.bus_sums_needs.proofs.Forged.{forged-received, forged-sent}

-- ---- the row
values : T (all_below 52 (λ i. eqb (core_value bent i) 0))
unfolding all_below core_value pointer_value top_value emit-add-pair carry0 add-pair-carry-hi add-terms-expr bent core_row core_groups row_of pointer_limb limb_at word_at tab tab_from followed_by
values = tt

found : T (all_below 84 (λ i. pick (eqb i 4) true (matched (core_tuple 24 0 bent i))))
unfolding all_below found_on alu_found alu_op are_bytes_found half_found is_wh_found core_tuple ecall_tuple addr_memw lane_memw pointer_tuple align_tuple addr_bytes_tuple bent core_row core_groups row_of pointer_limb limb_at word_at tab tab_from followed_by
found = tt

sent-same : core_sent 24 bent ≡ core_sent 24 (core_row operation)
unfolding core_sent keccak_values bent core_row core_groups row_of pointer_limb limb_at word_at tab tab_from
sent-same = refl

received-same : core_received bent ≡ core_received (core_row operation)
unfolding core_received keccak_values bent core_row core_groups row_of pointer_limb limb_at word_at tab tab_from
received-same = refl

mu-is : word bent 485 ≡ 1
unfolding bent core_row core_groups row_of tab tab_from
mu-is = refl

bent-length : length bent ≡ 486
unfolding bent
bent-length = length-set (core_row operation) 412 _ ∙ length-core operation

-- a row with another word below p is of words below p
set_below : (y k : ℕ) → y < p → word (set (core_row operation) 412 y) k < p
set_below y k l = go (ℕ_discrete k 412)
  where
    go : Dec (k ≡ 412) → word (set (core_row operation) 412 y) k < p
    go (yes e) = subst (λ (n : ℕ). n < p) (sym (ap (word (set (core_row operation) 412 y)) e ∙ get_or-set_same (core_row operation) 412 y 0 (omega (arith, length-core operation)))) l
    go (no n) = subst (λ (m : ℕ). m < p) (sym (get_or-set_other (core_row operation) 412 k y 0 n)) (core-words operation (omega arith) (omega arith) k)

bent-below : (k : ℕ) → word bent k < p
unfolding bent
bent-below k = set_below _ k (omega arith)

-- lane 0 is not at the address
bent-place : Addressed bent → ⊥
unfolding bent core_row core_groups row_of pointer_limb limb_at tab tab_from pack
bent-place a =
    let e : core_pointer bent 0 ≡ 2 ^ 32 * (p - 5) = refl in
    let f : core_address bent ≡ (2 ^ 32 - 5) * 2 ^ 32 = refl in
    omega (arith, e, f, a.lane 0 (omega arith))

-- ---- the table of that row, and what it sends on the Keccak bus
rows_are : rows core_layout bent_core ≡ 1
rows_are = table-rows core_layout (omega arith) 1 (λ r. bent)

row_is : (r : ℕ) → r < 1 → row core_layout bent_core r ≡ bent
row_is r l = row_at-table 1 486 (λ r. bent) r l bent-length

-- what a table of one active row carries
one-row : (ws x : List ℕ) → rows core_layout ws ≡ 1 → row core_layout ws 0 ≡ x → word x 485 ≡ 1 → (s : Side) (v : List ℕ) →
    active_tuples (core_kind 24) s ws v ≡ pick (words_test v (core_tuple 24 0 x (place (core-bus 24) s)).values) 1 0
unfolding active_tuple_at count_below is_active
one-row ws x e f m s v =
    active-tuples-count (core-bus 24) s ws v
    ∙ ap (count_below (active_tuple_at (core_kind 24) (place (core-bus 24) s) ws v)) e
    ∙ ap (λ (y : List ℕ). pick (eqb (word y 485) 1 && words_test v (core_tuple 24 0 y (place (core-bus 24) s)).values) 1 0) f
    ∙ ap (λ (n : ℕ). pick (eqb n 1 && words_test v (core_tuple 24 0 x (place (core-bus 24) s)).values) 1 0) m

-- ---- the table that was written, and its round table
abbrev written : List ℕ
written = core_table 1 1 (λ i. operation)

right : RightOperation 24 operation
unfolding flat_state
right =
    record {
      stamp = omega arith;
      low = omega arith;
      aligned = refl;
      input-size = length-tab 25 (λ k. 0);
      input-lanes = λ i l. subst (λ (k : ℕ). k < 2 ^ 64) (sym (get_d-tab 25 (λ k. 0) i 0 l)) (omega arith);
      right = refl;
    }

holds : verdict_at 24 written bent_round ≡ Holds 1
holds = table-holds 24 1 1 (omega arith) (omega arith) (omega arith) (λ i. operation) (λ i l. right) (λ i j l g e. omega arith)

round-passes : Passes round_kind bent_round
round-passes = ((verdict-says 24 written bent_round (Holds 1)).0 holds).2

written_row : row core_layout written 0 ≡ core_row operation
unfolding core_table core_row_at height next-power-of-two doubled
written_row = row_at-table 1 486 (core_row_at 1 (λ i. operation)) 0 (omega arith) (length-core operation)

written-rows : rows core_layout written ≡ 1
unfolding core_table height next-power-of-two doubled
written-rows = table-rows core_layout (omega arith) 1 (core_row_at 1 (λ i. operation))

written-mu : word (core_row operation) 485 ≡ 1
unfolding core_row core_groups row_of tab tab_from
written-mu = refl

same-tuple : (s : Side) → (core_tuple 24 0 bent (place (core-bus 24) s)).values ≡ (core_tuple 24 0 (core_row operation) (place (core-bus 24) s)).values
unfolding core_tuple followed_by
same-tuple Sender = sent-same
same-tuple Receiver = received-same

same-carried : (s : Side) (v : List ℕ) → active_tuples (core_kind 24) s bent_core v ≡ active_tuples (core_kind 24) s written v
same-carried s v =
    one-row bent_core bent rows_are (row_is 0 (omega arith)) mu-is s v
    ∙ ap (λ (u : List ℕ). pick (words_test v u) 1 0) (same-tuple s)
    ∙ sym (one-row written (core_row operation) written-rows written_row written-mu s v)

balanced : Balanced (core_kind 24) round_kind bent_core bent_round
unfolding Balanced
balanced v = omega (arith, same-carried Sender v, same-carried Receiver v, ((verdict-says 24 written bent_round (Holds 1)).0 holds).3 v)

-- ---- constraints
core-constrained : Constrained (core_kind 24) bent_core
unfolding table_of
core-constrained =
    record {
      whole = table-whole core_layout (omega arith) 1 (λ r. bent);
      below = λ k l. subst (λ (n : ℕ). n < p) (sym (get_d-tab 486 (cells_of 486 (λ r. bent)) k 0 (subst (λ (n : ℕ). k < n) (length-table 1 486 (λ r. bent)) l))) (bent-below (k % 486));
      values = λ r i l g.
          ap (λ (x : List ℕ). core_value x i) (row_is r (subst (λ (n : ℕ). r < n) rows_are l))
          ∙ eqb→eq (core_value bent i) 0 (all-at 52 (λ i. eqb (core_value bent i) 0) values i g);
      few = omega (arith, rows_are);
    }

round-constrained : Constrained round_kind bent_round
unfolding round_table
round-constrained =
    record {
      whole = round-passes.whole;
      below = round-passes.below;
      values = round-passes.values;
      few = omega (arith, table-rows round_layout (omega arith) (round_height 24 1 1) (round_row_at 24 1 (λ i. operation)), height-le 1 (1 * 24));
    }

-- ---- what is sent is found, but for the pair
pair-bus : (core_tuple 24 0 bent 4).bus ≡ IsWh
unfolding core_tuple followed_by pointer_tuple
pair-bus = refl

core-found : (b : Bus) → (b ≡ IsWh → ⊥) → (v : List ℕ) → 1 ≤ table_share Sender b v (core_kind 24) bent_core → FoundOn b v
unfolding tuple_at
core-found b n =
    table-found (core_kind 24) bent_core b
    (λ r i lr li e.
    let at = row_is r (subst (λ (m : ℕ). r < m) rows_are lr) in
    subst (λ (x : List ℕ). Matched (core_tuple 24 0 x i)) (sym at)
    ((matched-decides (core_tuple 24 0 bent i)).to (go i (ap (λ (x : List ℕ). (core_tuple 24 0 x i).bus) (sym at) ∙ e) (all-at 84 (λ i. pick (eqb i 4) true (matched (core_tuple 24 0 bent i))) found i li))))
  where
    go : (i : ℕ) → (core_tuple 24 0 bent i).bus ≡ b → T (pick (eqb i 4) true (matched (core_tuple 24 0 bent i))) → T (matched (core_tuple 24 0 bent i))
    go i e t = by (ℕ_discrete i 4)
      where
        by : Dec (i ≡ 4) → T (matched (core_tuple 24 0 bent i))
        by (yes q) = absurd (n (sym e ∙ ap (λ (j : ℕ). (core_tuple 24 0 bent j).bus) q ∙ pair-bus))
        by (no q) = subst (λ (c : Bool). T (pick c true (matched (core_tuple 24 0 bent i)))) (ne_eqb i 4 q) t

round-found : (b : Bus) (v : List ℕ) → 1 ≤ table_share Sender b v round_kind bent_round → FoundOn b v
round-found b = table-found round_kind bent_round b (λ r i lr li e. round-passes.lookups r i lr li)

-- the IS_WH table receives the pairs that the row sends
pairs-sent : (v : List ℕ) → sum_below 25 (λ i. share Sender IsWh v (pointer_tuple bent i 0)) ≡ pick (words_test v ((p - 5) ∷ 0 ∷ [])) 1 0 + pick (words_test v ((2 ^ 32 - 5) ∷ 0 ∷ [])) 24 0
unfolding sum_below share pointer_tuple bent core_row core_groups row_of pointer_limb limb_at tab tab_from
pairs-sent v = cases (words_test v ((p - 5) ∷ 0 ∷ [])) (words_test v ((2 ^ 32 - 5) ∷ 0 ∷ []))
  where
    cases : (a d : Bool) → sum_below 25 (λ i. pick (pick (eqb i 0) a d) 1 0) ≡ pick a 1 0 + pick d 24 0
    cases true true = refl
    cases true false = refl
    cases false true = refl
    cases false false = refl

core-pairs : (v : List ℕ) → table_share Sender IsWh v (core_kind 24) bent_core ≡ pick (words_test v ((p - 5) ∷ 0 ∷ [])) 1 0 + pick (words_test v ((2 ^ 32 - 5) ∷ 0 ∷ [])) 24 0
unfolding shares tuple_at sum_below
core-pairs v =
    ap (λ (n : ℕ). sum_below n (λ r. sum_below 84 (λ i. share Sender IsWh v (core_tuple 24 0 (row core_layout bent_core r) i)))) rows_are
    ∙ ap (λ (x : List ℕ). 0 + sum_below 84 (λ i. share Sender IsWh v (core_tuple 24 0 x i))) (row_is 0 (omega arith))
    ∙ ap (λ (n : ℕ). 0 + n) (core-sends 24 v bent ∙ pairs-sent v)
    ∙ omega arith

-- what it sends on IsHalfword, and does not cancel, is halfwords
single : (v x : List ℕ) (i : ℕ) → On Sender IsHalfword v (is_wh_tuple x i) → v ≡ word v 0 ∷ []
single v x zero o = absurd (let e : ◌≡◌ {A = ℕ} 2 11 = ap bus_number (o.bus ∙ ap (λ (t : Tuple). t.bus) (mu-sent x 0 refl)) in omega arith)
single v x (suc i) o =
    by_le 4 (suc i)
    (λ l. absurd (sides-differ (sym (o.side ∙ ap (λ (t : Tuple). t.side) (pair-received x (suc i) l)))))
    (λ l.
    let e : v ≡ word x (suc i - 1) ∷ [] = o.values ∙ ap (λ (t : Tuple). t.values) (half-sent x (suc i) (omega arith) l) in
    e ∙ ap (λ (n : ℕ). n ∷ []) (sym (ap (λ (u : List ℕ). word u 0) e)))

halves-found : (v : List ℕ) → 1 ≤ table_share Sender IsHalfword v is_wh_kind forged % p → BitwiseFound IsHalfword v
unfolding tuple_at
halves-found v l =
    let f = shares-find Sender IsHalfword v 7 5 (tuple_at is_wh_kind forged) (not-zero (table_share Sender IsHalfword v is_wh_kind forged) l) in
    let e = single v (row is_wh_layout forged f.0) f.1 f.4 in
    by_le 65536 (word v 0)
    (λ g. absurd (let z = ap (λ (u : List ℕ). table_share Sender IsHalfword u is_wh_kind forged % p) e ∙ forged-sent (word v 0) g in omega (arith, z, l)))
    (λ g. subst (BitwiseFound IsHalfword) (sym e) (half-occurs (word v 0) g))

-- ---- THE SEGMENT
abbrev fillings : Fillings
fillings = filled 24 bent_core bent_round forged

forged-below : T (all_below 28 (λ k. ltb (word forged k) p))
unfolding all_below
forged-below = tt

agrees : (b : Bus) → Ours b → (b ≡ IsB20 → ⊥) → (v : List ℕ) → Agree 24 bent_core bent_round fillings nobody b v
agrees ByteAlu o n v = alu-agree 24 bent_core bent_round forged core-found round-found v
agrees AreBytes o n v = bytes-agree 24 bent_core bent_round forged core-found round-found v
agrees IsHalfword o n v = half-agree 24 bent_core bent_round forged core-found round-found v (halves-found v)
agrees IsWh o n v = is-wh-agree 24 bent_core bent_round forged v (forged-received v ∙ ap (λ (n : ℕ). n % p) (sym (core-pairs v)))
agrees KeccakRc o n v = constants-agree 24 bent_core bent_round forged core-found round-found v
agrees Keccak o n v = keccak-agree 24 bent_core bent_round forged core-constrained round-constrained balanced v
agrees IsB20 o n v = absurd (n refl)
agrees Memw o n v = absurd o
agrees Ecall o n v = absurd o
agrees Msb8 o n v = absurd o
agrees Msb16 o n v = absurd o
agrees Zero o n v = absurd o
agrees Hwsl o n v = absurd o

pub twenty-needed : (w : Fillings) × Forgery bent_core bent_round w
twenty-needed = (
  fillings,
  record {
    core-constrained = core-constrained;
    round-constrained = round-constrained;
    few-pairs = omega arith;
    in_field = in_field 24 bent_core bent_round forged refl (λ k l. ltb→lt (word forged k) p (all-at 28 (λ k. ltb (word forged k) p) forged-below k l));
    agree = agrees;
    active = record { there = omega (arith, rows_are); on = ap (λ (x : List ℕ). word x 485) (row_is 0 (omega arith)) ∙ mu-is };
    misplaced = λ a. bent-place (subst Addressed (row_is 0 (omega arith)) a);
  },
)
