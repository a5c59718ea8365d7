-- Fillings by counting: for any IS_WH table, the multiplicities of the bitwise table and of the constants are how often the
-- values that stand there are sent, mod p. Then the sums of a bus agree, if all that is sent on it is found.
--     alu-agree, bytes-agree, constants-agree   where what the core table and the round table send is found
--     half-agree, twenty-agree                  and what the IS_WH table sends there
--     is-wh-agree                               where the IS_WH table receives what the core table sends
--     keccak-agree                              where the bus balances by counting
use mathlib.Core.List.{List}
use mathlib.Core.Logic.{◌⊎◌, inl, inr, ⊎_elim}
use mathlib.Core.Path.{◌≡◌, refl, sym, ap, subst, ◌∙◌}
use Prim.Native.Nat.{ℕ, ◌+◌, ◌-◌, ◌%◌, ◌≤◌, ◌<◌}
use native.Mathlib.Nat.{add-zero, mod-mod}
use native.Mathlib.Omega.{arith}
use Rattle.lists.proofs.Then.{by_le}
use Rattle.field.specs.Field.{p}
use Rattle.field.proofs.Field.{mod-p}
use Rattle.tuple.specs.Tuple.{bus_number}
use Rattle.tuple.specs.declared.Bus.{Bus}
use Rattle.tuple.specs.declared.Bus.TheVariants.{ByteAlu, AreBytes, IsHalfword, IsWh, KeccakRc, Keccak, IsB20}
use Rattle.tuple.specs.declared.Side.{Side}
use Rattle.tuple.specs.declared.Side.TheVariants.{Sender, Receiver}
use Rattle.bitwise.specs.Found.{BitwiseFound}
use Rattle.matching.specs.Matching.{FoundOn}
use Rattle.verdict.specs.Kind.{Kind, rows, MatchedAt, Balanced, active_tuples, Whole, Elements}
use Rattle.verdict.specs.CoreAndRound.{core_kind, round_kind}
use Rattle.bus_sums.specs.Buses.{is_wh_line}
use Rattle.bus_sums.specs.Sums.{Fillings, tuple_at, table_share, is_wh_layout, is_wh_kind, bus_total, Constrained, Agree, InField, nobody}
use Rattle.bus_sums.proofs.Shares.{not-zero, shares-find}
use Rattle.bus_sums.proofs.Buses.{no-core, no-round, no-is-wh}
use Rattle.bus_sums.proofs.Constrained.{core-carried, round-carried}
use Rattle.bitwise.specs.Charge.{Placed}
use Rattle.bitwise.proofs.Charge.{alu-placed, bytes-placed, half-placed}
use Rattle.bus_sums.proofs.Charged.{charged, charged-le, charged-received, charged_constant, constant-received}
use Rattle.bus_sums.proofs.Totals.{OnBitwise, alu-alone, bytes-alone, half-alone, twenty-alone, sent-total, bitwise-total, is-wh-total, constants-total, keccak-total}

-- what a table sends on a bus is found, where its tuples on that bus are matched
pub table-found : (K : Kind) (ws : List ℕ) (b : Bus) → ((r i : ℕ) → r < rows K.layout ws → i < K.tuples → (tuple_at K ws r i).bus ≡ b → MatchedAt K ws r i) →
    (v : List ℕ) → 1 ≤ table_share Sender b v K ws → FoundOn b v
unfolding tuple_at
table-found K ws b ok v some =
    let f = shares-find Sender b v (rows K.layout ws) K.tuples (tuple_at K ws) some in
    let o = f.4 in
    subst (λ (u : List ℕ). FoundOn b u) (sym o.values)
    (subst (λ (c : Bus). FoundOn c (tuple_at K ws f.0 f.1).values) (sym o.bus)
    (ok f.0 f.1 f.2 f.3 (sym o.bus) (λ z. omega (arith, o.some, z))))

other : {b c : Bus} → (bus_number b ≡ bus_number c → ⊥) → b ≡ c → ⊥
other n e = n (ap bus_number e)

module _ (nr : ℕ) (core round is-wh : List ℕ) where
  -- how often values are sent on a bus, mod p
  unfoldable pub sent_on : Bus → List ℕ → ℕ
  sent_on b v = (table_share Sender b v (core_kind nr) core + table_share Sender b v round_kind round + table_share Sender b v is_wh_kind is-wh) % p

  abbrev pub filled : Fillings
  filled = record { bitwise = charged sent_on; constants = charged_constant sent_on; is-wh = is-wh }

  -- the sums agree where what is received is that number
  pub even : (b : Bus) (v : List ℕ) → bus_total nr core round filled Receiver b v % p ≡ sent_on b v → Agree nr core round filled nobody b v
  unfolding sent_on
  even b v e = ap (λ (n : ℕ). n % p) (add-zero (bus_total nr core round filled Sender b v) ∙ sent-total nr core round filled v b) ∙ sym e

  again : (b : Bus) (v : List ℕ) (n : ℕ) → n ≡ sent_on b v → n % p ≡ sent_on b v
  unfolding sent_on
  again b v n e = ap (λ (k : ℕ). k % p) e ∙ mod-mod _ p

  bitwise-agree : (b : Bus) (v : List ℕ) → OnBitwise b → (1 ≤ sent_on b v → Placed b v) → Agree nr core round filled nobody b v
  bitwise-agree b v o at = even b v (again b v _ (bitwise-total nr core round filled v b o ∙ charged-received sent_on b v at))

  -- ---- what is sent is found
  -- what the core table sends is found but perhaps on the bus IsWh, and what the round table sends
  module _ (core-found : (b : Bus) → (b ≡ IsWh → ⊥) → (v : List ℕ) → 1 ≤ table_share Sender b v (core_kind nr) core → FoundOn b v)
      (round-found : (b : Bus) (v : List ℕ) → 1 ≤ table_share Sender b v round_kind round → FoundOn b v) where
    -- then all that is sent, or the IS_WH table sends it
    sent-found : (b : Bus) → (b ≡ IsWh → ⊥) → (v : List ℕ) → 1 ≤ sent_on b v → FoundOn b v ⊎ (1 ≤ table_share Sender b v is_wh_kind is-wh % p)
    unfolding sent_on
    sent-found b n v some =
        by_le 1 (table_share Sender b v (core_kind nr) core)
        (λ k. inl (core-found b n v k))
        (λ k₁. by_le 1 (table_share Sender b v round_kind round)
        (λ k. inl (round-found b v k))
        (λ k₂. inr (subst (λ (n : ℕ). 1 ≤ n % p) (omega (arith, k₁, k₂)) some)))

    -- a bus on which the IS_WH table sends nothing
    only-found : (b : Bus) → (b ≡ IsWh → ⊥) → ((m : ℕ) → is_wh_line Sender b m ≡ 0) → (v : List ℕ) → 1 ≤ sent_on b v → FoundOn b v
    only-found b n z v some =
        ⊎_elim (λ f. f) (λ l. absurd (let a = not-zero (table_share Sender b v is_wh_kind is-wh) l in omega (arith, a, no-is-wh Sender b v z is-wh))) (sent-found b n v some)

    pub alu-agree : (v : List ℕ) → Agree nr core round filled nobody ByteAlu v
    unfolding FoundOn
    alu-agree v = bitwise-agree ByteAlu v alu-alone (λ l. alu-placed v (only-found ByteAlu (other (λ z. omega arith)) (λ m. refl) v l))

    pub bytes-agree : (v : List ℕ) → Agree nr core round filled nobody AreBytes v
    unfolding FoundOn
    bytes-agree v = bitwise-agree AreBytes v bytes-alone (λ l. bytes-placed v (only-found AreBytes (other (λ z. omega arith)) (λ m. refl) v l))

    pub constants-agree : (v : List ℕ) → Agree nr core round filled nobody KeccakRc v
    unfolding FoundOn
    constants-agree v =
        even KeccakRc v
        (again KeccakRc v _ (constants-total nr core round filled v ∙ constant-received sent_on v (only-found KeccakRc (other (λ z. omega arith)) (λ m. refl) v)))

    -- on this bus the IS_WH table sends too
    pub half-agree : (v : List ℕ) → (1 ≤ table_share Sender IsHalfword v is_wh_kind is-wh % p → BitwiseFound IsHalfword v) → Agree nr core round filled nobody IsHalfword v
    unfolding FoundOn
    half-agree v at = bitwise-agree IsHalfword v half-alone (λ l. half-placed v (⊎_elim (λ f. f) at (sent-found IsHalfword (other (λ z. omega arith)) v l)))

  -- on this bus it alone sends
  pub twenty-agree : (v : List ℕ) → (1 ≤ table_share Sender IsB20 v is_wh_kind is-wh % p → Placed IsB20 v) → Agree nr core round filled nobody IsB20 v
  unfolding sent_on
  twenty-agree v at =
      bitwise-agree IsB20 v twenty-alone (λ l. at (subst (λ (n : ℕ). 1 ≤ n % p) (omega (arith, no-core Sender IsB20 v (λ m. refl) nr core, no-round Sender IsB20 v (λ m. refl) round)) l))

  -- the IS_WH table receives what the core table sends
  pub is-wh-agree : (v : List ℕ) → table_share Receiver IsWh v is_wh_kind is-wh % p ≡ table_share Sender IsWh v (core_kind nr) core % p → Agree nr core round filled nobody IsWh v
  unfolding sent_on
  is-wh-agree v e =
      even IsWh v (ap (λ (n : ℕ). n % p) (is-wh-total nr core round filled v) ∙ e ∙ ap (λ (n : ℕ). n % p) core-alone)
    where
      core-alone : table_share Sender IsWh v (core_kind nr) core ≡ table_share Sender IsWh v (core_kind nr) core + table_share Sender IsWh v round_kind round + table_share Sender IsWh v is_wh_kind is-wh
      core-alone = omega (arith, no-round Sender IsWh v (λ m. refl) round, no-is-wh Sender IsWh v (λ m. refl) is-wh)

  -- the Keccak bus balances by counting
  pub keccak-agree : Constrained (core_kind nr) core → Constrained round_kind round → Balanced (core_kind nr) round_kind core round → (v : List ℕ) → Agree nr core round filled nobody Keccak v
  unfolding Balanced
  keccak-agree cc cr balanced v =
      let c : (s : Side) → table_share s Keccak v (core_kind nr) core ≡ active_tuples (core_kind nr) s core v = λ s. core-carried nr core cc s v in
      let d : (s : Side) → table_share s Keccak v round_kind round ≡ active_tuples round_kind s round v = λ s. round-carried round cr s v in
      let all : (s : Side) → bus_total nr core round filled s Keccak v ≡ table_share s Keccak v (core_kind nr) core + table_share s Keccak v round_kind round = keccak-total nr core round filled v in
      ap (λ (n : ℕ). n % p) (omega (arith, all Sender, all Receiver, c Sender, c Receiver, d Sender, d Receiver, balanced v))

  pub in_field : Whole is_wh_layout is-wh → Elements is-wh → InField filled
  unfolding sent_on charged_constant
  in_field whole below =
      record {
        bitwise-below = λ i j. omega (arith, charged-le sent_on (p - 1) (λ b v. omega (arith, mod-p (table_share Sender b v (core_kind nr) core + table_share Sender b v round_kind round + table_share Sender b v is_wh_kind is-wh))) i j);
        constants-below = λ r. mod-p _;
        is-wh-whole = whole;
        is-wh-below = below;
      }
