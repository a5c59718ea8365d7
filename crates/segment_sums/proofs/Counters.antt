-- Counters that were charged with what tables send, whoever filled these tables: where every lookup of a core table, a round table and
-- an IS_WH table is found, each counter is how often the values that stand there are sent, so it is the multiplicity with which the
-- bitwise table receives them.
--     total            what the rows of the three tables add to counter c
--     lands            a tuple falls on a counter only where the values of that row and kind are charged
--     filled-word      a counter is the multiplicity by which bus_sums/proofs/Filling.antt fills the bitwise table
--     total-idle       a kind of lookup that none of the three sends is counted nowhere
--     counted-hold     so the sums of every bus agree, with the counters as they were charged
use mathlib.Core.Bool.{Bool, true, false, ◌&&◌}
use mathlib.Core.List.{List, [], ◌∷◌, ◌++◌}
use mathlib.Core.Path.{◌≡◌, refl, sym, ap, ap₂, ◌∙◌}
use Prim.Native.Nat.{ℕ, zero, suc, ◌+◌, ◌*◌, ◌%◌, ◌≤◌, ◌<◌}
use native.Mathlib.Omega.{arith}
use borrow.Author.Tests.{eqb-true, eq-eqb}
use lib.Dec.{eqb}
use Rattle.lists.specs.Tab.{pick, word}
use Rattle.lists.specs.Sum.{sum_below}
use Rattle.lists.proofs.Laws.{tab-same}
use Rattle.lists.proofs.Sum.{sum_same, sum-zero}
use Rattle.lists.proofs.Tests.{true-not-false, T_of, not-true}
use Rattle.lists.proofs.Then.{T_true, by_le}
use Rattle.field.specs.Field.{p}
use Rattle.tuple.specs.Tuple.{Tuple, receiver, bus_number}
use Rattle.tuple.specs.declared.Bus.{Bus}
use Rattle.tuple.specs.declared.Bus.TheVariants.{ByteAlu, AreBytes, IsHalfword, IsWh, KeccakRc, Keccak, IsB20, Memw, Ecall, Msb8, Msb16, Zero, Hwsl}
use Rattle.tuple.specs.declared.Side.{Side}
use Rattle.tuple.specs.declared.Side.TheVariants.{Sender, Receiver}
use Rattle.bitwise.specs.declared.BitwiseOperationType.{BitwiseOperationType}
use Rattle.bitwise.specs.Row.{bitwise_row}
use Rattle.bitwise.specs.Tuples.{kind_at, kind_bus, kind_values, bitwise_tuple}
use Rattle.bitwise.specs.Found.{BitwiseFound}
use Rattle.bitwise.specs.Charge.{place_row, place_kind, found, place_counter, falls_on, charged_row, charged, Placed}
use Rattle.bitwise.proofs.Numbers.{by_kind}
use Rattle.bitwise.proofs.Found.{alu-decides, bytes_decides, half-decides}
use Rattle.bitwise.proofs.Charge.{found-placed, Sound}
use Rattle.bitwise.proofs.Charged.{falls-place}
use Rattle.matching.specs.Matching.{FoundOn}
use Rattle.keccak_rc.specs.Row.{rc_row}
use Rattle.keccak_rc.specs.Tuples.{rc_tuple}
use Rattle.verdict.specs.Kind.{Kind, rows, Lookups, Balanced}
use Rattle.verdict.specs.CoreAndRound.{core_layout, round_layout, core_kind, round_kind}
use Rattle.bus_sums.specs.Buses.{core_line, round_line, is_wh_line}
use Rattle.bus_sums.specs.Sums.{Fillings, share, shares, tuple_at, table_share, bitwise_at, bitwise_share, constant_at, constants_share, is_wh_layout, is_wh_kind, bus_total, Agree, Ours, Constrained, SumsHold, nobody, MAX-PAIRS}
use Rattle.bus_sums.proofs.Shares.{not-zero, shares-find}
use Rattle.bus_sums.proofs.Buses.{no-core, no-round, no-is-wh}
use Rattle.bus_sums.proofs.Rows.{fixed}
use Rattle.bus_sums.proofs.Charged as filling
use Rattle.bus_sums.proofs.Filling.{sent_on, filled, table-found, alu-agree, bytes-agree, constants-agree, half-agree, twenty-agree, is-wh-agree, keccak-agree}
use Rattle.is_wh_sums.proofs.Charge.{charged-is-sent}
use Rattle.segment_counts.proofs.Rows.{matched-sound}

zero_of : (n : ℕ) → (1 ≤ n → ⊥) → n ≡ 0
zero_of zero h = refl
zero_of (suc n) h = absurd (h (omega arith))

-- the bus and the values of counter i * 10 + k
abbrev pub bus_at : ℕ → Bus
bus_at k = kind_bus (kind_at k)

abbrev values_at : ℕ → ℕ → List ℕ
values_at i k = kind_values (bitwise_row i) (kind_at k)

-- a bus on which neither core rows, nor round rows, nor IS_WH rows send
abbrev pub Unsending : Bus → Type 0
Unsending b = ((m : ℕ) → core_line Sender b m ≡ 0) × ((m : ℕ) → round_line Sender b m ≡ 0) × ((m : ℕ) → is_wh_line Sender b m ≡ 0)

-- they are charged there, and found
record Here (i k : ℕ) : Type 0 where
  row_is : i ≡ place_row (bus_at k) (values_at i k)
  kind-is : k ≡ place_kind (bus_at k) (values_at i k)
  seen : found (bus_at k) (values_at i k) ≡ true

lands : (t : Tuple) → Sound t → (i k : ℕ) → k < 10 → falls_on t (i * 10 + k) ≡ true → Here i k
unfolding place_counter
lands t ok i k l f =
    let e = falls-place t (i * 10 + k) f in
    let s : found t.bus t.values ≡ true = ok e.0 in
    let a : Placed t.bus t.values = found-placed t.bus t.values s in
    let ri : i ≡ place_row t.bus t.values = omega (arith, e.1, a.kind-lt) in
    let ki : k ≡ place_kind t.bus t.values = omega (arith, e.1, a.kind-lt) in
    let tuple : bitwise_tuple (bitwise_row i ++ []) k ≡ receiver t.bus (word [] (place_kind t.bus t.values)) t.values =
    ap₂ (λ (r j : ℕ). bitwise_tuple (bitwise_row r ++ []) j) ri ki ∙ a.tuple [] in
    let eb : bus_at k ≡ t.bus = ap (λ (u : Tuple). u.bus) tuple in
    let ev : values_at i k ≡ t.values = sym (fixed (λ _ _. 0) i [] (kind_at k)) ∙ ap (λ (u : Tuple). u.values) tuple in
    record {
      row_is = ri ∙ sym (ap₂ place_row eb ev);
      kind-is = ki ∙ sym (ap₂ place_kind eb ev);
      seen = ap₂ found eb ev ∙ s;
    }

-- nothing is added where no tuple that is sent can fall
silent : (n m : ℕ) (t : ℕ → ℕ → Tuple) (c : ℕ) → ((r i : ℕ) → r < n → i < m → ((t r i).multiplicity ≡ 0 → ⊥) → falls_on (t r i) c ≡ true → ⊥) → charged n m t c ≡ 0
unfolding charged charged_row
silent n m t c off =
    sum-zero n (λ r. sum_below m (λ i. pick (falls_on (t r i) c) (t r i).multiplicity 0))
    (λ r lr. sum-zero m (λ i. pick (falls_on (t r i) c) (t r i).multiplicity 0) (λ i li.
    by_le 1 (t r i).multiplicity
    (λ s. ap (λ (b : Bool). pick b (t r i).multiplicity 0) (not-true (falls_on (t r i) c) (off r i lr li (λ z. omega (arith, s, z)))))
    (λ s.
    let z : (t r i).multiplicity ≡ 0 = omega arith in
    ap (λ (k : ℕ). pick (falls_on (t r i) c) k 0) z ∙ pick-zero (falls_on (t r i) c))))
  where
    pick-zero : (b : Bool) → pick {A = ℕ} b 0 0 ≡ 0
    pick-zero true = refl
    pick-zero false = refl

-- a table, all of whose tuples that are sent are found where they are counted
abbrev pub AllSound : Kind → List ℕ → Type 0
AllSound K ws = (r i : ℕ) → r < rows K.layout ws → i < K.tuples → ((tuple_at K ws r i).multiplicity ≡ 0 → ⊥) → Sound (tuple_at K ws r i)

-- what it adds to counter c
abbrev pub adds : Kind → List ℕ → ℕ → ℕ
adds K ws c = charged (rows K.layout ws) K.tuples (tuple_at K ws) c

pub lookups-sound : (K : Kind) (ws : List ℕ) → Lookups K ws → AllSound K ws
unfolding tuple_at
lookups-sound K ws ok r i lr li some e = matched-sound (tuple_at K ws r i).bus (tuple_at K ws r i).values (ok r i lr li some) e

-- ---- the three tables
-- what the IS_WH table sends is found
abbrev pub PairsFound : List ℕ → Type 0
PairsFound is-wh = (r i : ℕ) → r < rows is_wh_layout is-wh → i < 5 → (tuple_at is_wh_kind is-wh r i).side ≡ Sender
    → found (tuple_at is_wh_kind is-wh r i).bus (tuple_at is_wh_kind is-wh r i).values ≡ true

module _ (nr : ℕ) (core round is-wh : List ℕ) (pc : Lookups (core_kind nr) core) (pr : Lookups round_kind round)
    (sw : (r i : ℕ) → Sound (tuple_at is_wh_kind is-wh r i)) (pw : PairsFound is-wh) where
  unfoldable pub total : ℕ → ℕ
  total c = adds (core_kind nr) core c + adds round_kind round c + adds is_wh_kind is-wh c

  -- ---- what is sent is found
  core-found : (b : Bus) → (b ≡ IsWh → ⊥) → (v : List ℕ) → 1 ≤ table_share Sender b v (core_kind nr) core → FoundOn b v
  core-found b n = table-found (core_kind nr) core b (λ r i lr li e. pc r i lr li)

  round-found : (b : Bus) (v : List ℕ) → 1 ≤ table_share Sender b v round_kind round → FoundOn b v
  round-found b = table-found round_kind round b (λ r i lr li e. pr r i lr li)

  pair_found : (b : Bus) (v : List ℕ) → 1 ≤ table_share Sender b v is_wh_kind is-wh → found b v ≡ true
  pair_found b v l =
      let f = shares-find Sender b v (rows is_wh_layout is-wh) 5 (tuple_at is_wh_kind is-wh) l in
      let o = f.4 in
      ap₂ found o.bus o.values ∙ pw f.0 f.1 f.2 f.3 (sym o.side)

  -- how often v is sent on b
  sent : Bus → List ℕ → ℕ
  sent b v = table_share Sender b v (core_kind nr) core + table_share Sender b v round_kind round + table_share Sender b v is_wh_kind is-wh

  -- what is found nowhere is not sent
  Unsent : Bus → Type 0
  Unsent b = (v : List ℕ) → found b v ≡ false → sent b v ≡ 0

  never : {A : Type 0} {t : Bool} → t ≡ true → t ≡ false → A
  never y n = absurd (true-not-false (sym y ∙ n))

  elsewhere : (b : Bus) → ((v : List ℕ) → table_share Sender b v (core_kind nr) core ≡ 0) → ((v : List ℕ) → table_share Sender b v round_kind round ≡ 0)
      → ((v : List ℕ) → table_share Sender b v is_wh_kind is-wh ≡ 0) → Unsent b
  unfolding sent Unsent
  elsewhere b c r w v n = omega (arith, c v, r v, w v)

  three : (b : Bus) (v : List ℕ) → (1 ≤ table_share Sender b v (core_kind nr) core → ⊥) → (1 ≤ table_share Sender b v round_kind round → ⊥) → (1 ≤ table_share Sender b v is_wh_kind is-wh → ⊥) → sent b v ≡ 0
  unfolding sent
  three b v c r w =
      omega (arith, zero_of (table_share Sender b v (core_kind nr) core) c, zero_of (table_share Sender b v round_kind round) r, zero_of (table_share Sender b v is_wh_kind is-wh) w)

  alu-unsent : Unsent ByteAlu
  unfolding Unsent FoundOn found
  alu-unsent v n =
      three ByteAlu v (λ l. never (T_true _ ((alu-decides v).from (core-found ByteAlu (λ e. omega (arith, ap bus_number e)) v l))) n)
      (λ l. never (T_true _ ((alu-decides v).from (round-found ByteAlu v l))) n) (λ l. never (pair_found ByteAlu v l) n)

  bytes-unsent : Unsent AreBytes
  unfolding Unsent FoundOn found
  bytes-unsent v n =
      three AreBytes v (λ l. never (T_true _ ((bytes_decides v).from (core-found AreBytes (λ e. omega (arith, ap bus_number e)) v l))) n)
      (λ l. never (T_true _ ((bytes_decides v).from (round-found AreBytes v l))) n) (λ l. never (pair_found AreBytes v l) n)

  half-unsent : Unsent IsHalfword
  unfolding Unsent FoundOn found
  half-unsent v n =
      three IsHalfword v (λ l. never (T_true _ ((half-decides v).from (core-found IsHalfword (λ e. omega (arith, ap bus_number e)) v l))) n)
      (λ l. never (T_true _ ((half-decides v).from (round-found IsHalfword v l))) n) (λ l. never (pair_found IsHalfword v l) n)

  twenty-unsent : Unsent IsB20
  unfolding Unsent
  twenty-unsent v n =
      three IsB20 v (λ l. omega (arith, l, no-core Sender IsB20 v (λ m. refl) nr core)) (λ l. omega (arith, l, no-round Sender IsB20 v (λ m. refl) round)) (λ l. never (pair_found IsB20 v l) n)

  unsent : (k : BitwiseOperationType) → Unsent (kind_bus k)
  unsent =
      by_kind (λ k. Unsent (kind_bus k))
      (elsewhere Msb8 (λ v. no-core Sender Msb8 v (λ m. refl) nr core) (λ v. no-round Sender Msb8 v (λ m. refl) round) (λ v. no-is-wh Sender Msb8 v (λ m. refl) is-wh))
      (elsewhere Msb16 (λ v. no-core Sender Msb16 v (λ m. refl) nr core) (λ v. no-round Sender Msb16 v (λ m. refl) round) (λ v. no-is-wh Sender Msb16 v (λ m. refl) is-wh))
      (elsewhere Zero (λ v. no-core Sender Zero v (λ m. refl) nr core) (λ v. no-round Sender Zero v (λ m. refl) round) (λ v. no-is-wh Sender Zero v (λ m. refl) is-wh))
      bytes-unsent half-unsent twenty-unsent
      (elsewhere Hwsl (λ v. no-core Sender Hwsl v (λ m. refl) nr core) (λ v. no-round Sender Hwsl v (λ m. refl) round) (λ v. no-is-wh Sender Hwsl v (λ m. refl) is-wh))
      alu-unsent alu-unsent alu-unsent

  -- ---- a counter
  core-sound : AllSound (core_kind nr) core
  core-sound = lookups-sound (core_kind nr) core pc

  round-sound : AllSound round_kind round
  round-sound = lookups-sound round_kind round pr

  -- where its own values are charged: how often they are sent
  total-sent : (b : Bus) (v : List ℕ) → found b v ≡ true → total (place_counter b v) ≡ sent b v
  unfolding total sent
  total-sent b v h =
      ap₂ ◌+◌ (ap₂ ◌+◌ (charged-is-sent b v h (rows core_layout core) 84 (tuple_at (core_kind nr) core) core-sound) (charged-is-sent b v h (rows round_layout round) 1031 (tuple_at round_kind round) round-sound))
      (charged-is-sent b v h (rows is_wh_layout is-wh) 5 (tuple_at is_wh_kind is-wh) (λ r i _ _ _. sw r i))

  -- and nothing on any other
  total-none : (i k : ℕ) → k < 10 → (Here i k → ⊥) → total (i * 10 + k) ≡ 0
  unfolding total
  total-none i k l off =
      let c = i * 10 + k in
      let a = silent (rows core_layout core) 84 (tuple_at (core_kind nr) core) c (λ r j lr lj s f. off (lands (tuple_at (core_kind nr) core r j) (core-sound r j lr lj s) i k l f)) in
      let b = silent (rows round_layout round) 1031 (tuple_at round_kind round) c (λ r j lr lj s f. off (lands (tuple_at round_kind round r j) (round-sound r j lr lj s) i k l f)) in
      let d = silent (rows is_wh_layout is-wh) 5 (tuple_at is_wh_kind is-wh) c (λ r j lr lj s f. off (lands (tuple_at is_wh_kind is-wh r j) (sw r j) i k l f)) in
      omega (arith, a, b, d)

  pub filled-word : (i k : ℕ) → k < 10 → total (i * 10 + k) % p ≡ filling.charged (sent_on nr core round is-wh) i k
  unfolding filling.charged filling.charge_of filling.charged_at sent_on sent Unsent place_counter
  filled-word i k l = go (eqb i (place_row b v)) (eqb k (place_kind b v)) (found b v) refl refl refl
    where
      b : Bus
      b = bus_at k

      v : List ℕ
      v = values_at i k

      zero-mod : {n : ℕ} → n ≡ 0 → n % p ≡ 0
      zero-mod e = ap (λ (m : ℕ). m % p) e

      go : (x y f : Bool) → eqb i (place_row b v) ≡ x → eqb k (place_kind b v) ≡ y → found b v ≡ f → total (i * 10 + k) % p ≡ pick (x && y) (sent b v % p) 0
      go true true true ex ey ef =
          ap (λ (n : ℕ). n % p) (ap total (ap₂ (λ (r j : ℕ). r * 10 + j) (eqb-true i (place_row b v) ex) (eqb-true k (place_kind b v) ey)) ∙ total-sent b v ef)
      go true true false ex ey ef = zero-mod (total-none i k l (λ h. never h.seen ef)) ∙ sym (zero-mod (unsent (kind_at k) v ef))
      go true false f ex ey ef = zero-mod (total-none i k l (λ h. never (eq-eqb k (place_kind b v) h.kind-is) ey))
      go false y f ex ey ef = zero-mod (total-none i k l (λ h. never (eq-eqb i (place_row b v) h.row_is) ex))

  -- a kind of lookup that none of the three sends is counted nowhere
  pub total-idle : (i k : ℕ) → k < 10 → Unsending (bus_at k) → total (i * 10 + k) % p ≡ 0
  unfolding filling.charged filling.charge_of sent_on
  total-idle i k l quiet = filled-word i k l ∙ go (filling.charged_at (sent_on nr core round is-wh) i k (bus_at k) (values_at i k))
    where
      nothing : sent_on nr core round is-wh (bus_at k) (values_at i k) ≡ 0
      nothing =
          ap (λ (n : ℕ). n % p)
          (ap₂ ◌+◌ (ap₂ ◌+◌ (no-core Sender (bus_at k) (values_at i k) quiet.0 nr core) (no-round Sender (bus_at k) (values_at i k) quiet.1 round))
          (no-is-wh Sender (bus_at k) (values_at i k) quiet.2 is-wh))

      go : (t : Bool) → pick t (sent_on nr core round is-wh (bus_at k) (values_at i k)) 0 ≡ 0
      go true = nothing
      go false = refl

  -- ---- so the sums of every bus agree: with the counters as they are charged, mod p, and each constant as often as it is sent
  module _ (mu : ℕ → ℕ → ℕ) (constant : ℕ → ℕ) (mu-is : (i k : ℕ) → i < 1048576 → k < 10 → mu i k ≡ total (i * 10 + k) % p)
      (constant-is : (r : ℕ) → r < 32 → constant r ≡ sent_on nr core round is-wh KeccakRc (rc_row r)) where
    abbrev pub fillings : Fillings
    fillings = record { bitwise = mu; constants = constant; is-wh = is-wh }

    bitwise-same : (s : Side) (b : Bus) (v : List ℕ) → bitwise_share s b v mu ≡ bitwise_share s b v (filling.charged (sent_on nr core round is-wh))
    unfolding shares bitwise_at
    bitwise-same s b v =
        sum_same 1048576 (λ r. sum_below 10 (λ i. share s b v (bitwise_at mu r i))) (λ r. sum_below 10 (λ i. share s b v (bitwise_at (filling.charged (sent_on nr core round is-wh)) r i)))
        (λ r l. sum_same 10 (λ i. share s b v (bitwise_at mu r i)) (λ i. share s b v (bitwise_at (filling.charged (sent_on nr core round is-wh)) r i))
        (λ i _. ap (λ (ms : List ℕ). share s b v (bitwise_tuple (bitwise_row r ++ ms) i)) (tab-same 10 (mu r) (filling.charged (sent_on nr core round is-wh) r) (λ k lk. mu-is r k l lk ∙ filled-word r k lk))))

    constants-same : (s : Side) (b : Bus) (v : List ℕ) → constants_share s b v constant ≡ constants_share s b v (filling.charged_constant (sent_on nr core round is-wh))
    unfolding shares constant_at filling.charged_constant
    constants-same s b v =
        sum_same 32 (λ r. sum_below 1 (λ i. share s b v (constant_at constant r i))) (λ r. sum_below 1 (λ i. share s b v (constant_at (filling.charged_constant (sent_on nr core round is-wh)) r i)))
        (λ r l. sum_same 1 (λ i. share s b v (constant_at constant r i)) (λ i. share s b v (constant_at (filling.charged_constant (sent_on nr core round is-wh)) r i))
        (λ i _. ap (λ (m : ℕ). share s b v (rc_tuple (rc_row r ++ (m ∷ [])) i)) (constant-is r l)))

    total-same : (s : Side) (b : Bus) (v : List ℕ) → bus_total nr core round fillings s b v ≡ bus_total nr core round (filled nr core round is-wh) s b v
    unfolding bus_total
    total-same s b v =
        ap₂ (λ (x y : ℕ). table_share s b v (core_kind nr) core + table_share s b v round_kind round + table_share s b v is_wh_kind is-wh + x + y) (bitwise-same s b v) (constants-same s b v)

    agree_same : (b : Bus) (v : List ℕ) → Agree nr core round (filled nr core round is-wh) nobody b v → Agree nr core round fillings nobody b v
    agree_same b v a = ap (λ (n : ℕ). (n + 0) % p) (total-same Sender b v) ∙ a ∙ sym (ap (λ (n : ℕ). n % p) (total-same Receiver b v))

    half_at : (v : List ℕ) → 1 ≤ table_share Sender IsHalfword v is_wh_kind is-wh % p → BitwiseFound IsHalfword v
    unfolding found
    half_at v l = (half-decides v).to (T_of _ (pair_found IsHalfword v (not-zero (table_share Sender IsHalfword v is_wh_kind is-wh) l)))

    twenty-at : (v : List ℕ) → 1 ≤ table_share Sender IsB20 v is_wh_kind is-wh % p → Placed IsB20 v
    twenty-at v l = found-placed IsB20 v (pair_found IsB20 v (not-zero (table_share Sender IsB20 v is_wh_kind is-wh) l))

    module _ (cc : Constrained (core_kind nr) core) (cr : Constrained round_kind round) (balanced : Balanced (core_kind nr) round_kind core round)
        (few : rows is_wh_layout is-wh ≤ MAX-PAIRS) (received : (v : List ℕ) → table_share Receiver IsWh v is_wh_kind is-wh ≡ table_share Sender IsWh v (core_kind nr) core) where
      agree : (b : Bus) → Ours b → (v : List ℕ) → Agree nr core round fillings nobody b v
      agree ByteAlu o v = agree_same ByteAlu v (alu-agree nr core round is-wh core-found round-found v)
      agree AreBytes o v = agree_same AreBytes v (bytes-agree nr core round is-wh core-found round-found v)
      agree IsHalfword o v = agree_same IsHalfword v (half-agree nr core round is-wh core-found round-found v (half_at v))
      agree IsB20 o v = agree_same IsB20 v (twenty-agree nr core round is-wh v (twenty-at v))
      agree IsWh o v = agree_same IsWh v (is-wh-agree nr core round is-wh v (ap (λ (n : ℕ). n % p) (received v)))
      agree KeccakRc o v = agree_same KeccakRc v (constants-agree nr core round is-wh core-found round-found v)
      agree Keccak o v = agree_same Keccak v (keccak-agree nr core round is-wh cc cr balanced v)
      agree Memw o v = absurd o
      agree Ecall o v = absurd o
      agree Msb8 o v = absurd o
      agree Msb16 o v = absurd o
      agree Zero o v = absurd o
      agree Hwsl o v = absurd o

      pub counted-hold : SumsHold nr core round fillings nobody
      counted-hold =
          record {
            core-constrained = cc;
            round-constrained = cr;
            few-pairs = few;
            few-others = λ b v. omega arith;
            no-others = λ v. refl;
            agree = agree;
          }
