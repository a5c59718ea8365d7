-- The other way: where a core table passes and a round table passes the kept lookups and balances with it, a prover can fill the tables that
-- are looked up, with words below p, so that the sums agree. Each multiplicity is how often the values that stand there are sent, mod p.
--     lean-sums-exactly   so there are such fillings exactly where both tables pass, of the round table the kept lookups
use mathlib.Core.Bool.{Bool, true, false}
use mathlib.Core.List.{List, []}
use mathlib.Core.Logic.{◌⊎◌, inl, inr, ◌↔◌, ⊎_elim}
use mathlib.Core.Path.{◌≡◌, refl, sym, ap, subst, ◌∙◌}
use Prim.Native.Nat.{ℕ, ◌+◌, ◌-◌, ◌%◌, ◌≤◌, ◌<◌}
use native.Mathlib.Nat.{mod-mod}
use native.Mathlib.Omega.{arith}
use Rattle.lists.proofs.Then.{by_le}
use Rattle.field.specs.Field.{p}
use Rattle.field.proofs.Field.{mod-p}
use Rattle.tuple.specs.Tuple.{Tuple, bus_number}
use Rattle.tuple.specs.declared.Bus.{Bus}
use Rattle.tuple.specs.declared.Bus.TheVariants.{ByteAlu, AreBytes, IsHalfword, IsWh, KeccakRc, Keccak, IsB20, Memw, Ecall, Msb8, Msb16, Zero, Hwsl}
use Rattle.tuple.specs.declared.Side.{Side}
use Rattle.tuple.specs.declared.Side.TheVariants.{Sender, Receiver}
use Rattle.bitwise.specs.Charge.{Placed}
use Rattle.bitwise.proofs.Charge.{alu-placed, bytes-placed, half-placed}
use Rattle.matching.specs.Matching.{FoundOn, Matched}
use Rattle.keccak_rnd_lean.specs.Lean.{kept}
use Rattle.verdict.specs.Kind.{rows, row, Passes, Balanced, active_tuples}
use Rattle.verdict.specs.CoreAndRound.{core_layout, round_layout, core_kind, round_kind}
use Rattle.lean_verdict.specs.LeanTables.{LeanAnswers}
use Rattle.bus_sums.specs.Buses.{is_wh_line}
use Rattle.bus_sums.specs.Sums.{Fillings, table_share, is_wh_kind, Ours, Constrained, InField, nobody, MAX-ROWS}
use Rattle.bus_sums.proofs.Shares.{not-zero}
use Rattle.bus_sums.proofs.Buses.{no-core, no-round, no-is-wh}
use Rattle.bus_sums.proofs.Constrained.{core-carried, round-carried}
use Rattle.bus_sums.proofs.Charged.{charged, charged-le, charged-received, charged_constant, constant-received}
use Rattle.bus_sums.proofs.Totals.{Quiet, OnBitwise, alu-alone, bytes-alone, half-alone, twenty-alone, sent-total, bitwise-total, is-wh-total, constants-total, keccak-total}
use Rattle.bus_sums.proofs.Pairs.{pairs_of, pairs-rows, pairs-received, pairs-whole, pairs_below}
use Rattle.bus_sums.proofs.Filling.{table-found}
use Rattle.bus_sums.proofs.Sound.{empty_round}
use Rattle.bus_sums.proofs.Complete.{core-constrained, core-sent, half_at, twenty-at}
use Rattle.lean_sums.specs.LeanSums.{kept_tuple, kept_kind, lean_total, LeanFilled}
use Rattle.lean_sums.proofs.LeanSums.{kept-is, dropped-is, lean-share-le, lean-share-keccak, lean-sums-core, lean-sums-answer}

other : {b c : Bus} → (bus_number b ≡ bus_number c → ⊥) → b ≡ c → ⊥
other n e = n (ap bus_number e)

module _ (nr : ℕ) (core round : List ℕ) where
  abbrev pairs : List ℕ
  pairs = pairs_of core

  -- how often values are sent on a bus, mod p
  unfoldable pub times : Bus → List ℕ → ℕ
  times b v = (table_share Sender b v (core_kind nr) core + table_share Sender b v kept_kind round + table_share Sender b v is_wh_kind pairs) % p

  abbrev pub counted : Fillings
  counted = record { bitwise = charged times; constants = charged_constant times; is-wh = pairs }

  LeanAgree : Bus → List ℕ → Type 0
  LeanAgree b v = (lean_total nr core round counted Sender b v + nobody b v) % p ≡ lean_total nr core round counted Receiver b v % p

  even : (b : Bus) (v : List ℕ) → lean_total nr core round counted Receiver b v % p ≡ times b v → LeanAgree b v
  unfolding times lean_total LeanAgree
  even b v e = ap (λ (n : ℕ). n % p) (let a = sent-total nr core [] counted v b in omega (arith, a, empty_round Sender b v)) ∙ sym e

  quiet : (b : Bus) → Quiet b → (v : List ℕ) → table_share Receiver b v kept_kind round ≡ 0
  quiet b q v = omega (arith, lean-share-le Receiver v round b, no-round Receiver b v q.round round)

  again : (b : Bus) (v : List ℕ) (n : ℕ) → n ≡ times b v → n % p ≡ times b v
  unfolding times
  again b v n e = ap (λ (k : ℕ). k % p) e ∙ mod-mod _ p

  bitwise-agree : (b : Bus) (v : List ℕ) → OnBitwise b → (1 ≤ times b v → Placed b v) → LeanAgree b v
  unfolding lean_total
  bitwise-agree b v o at = even b v (again b v _ (omega (arith, bitwise-total nr core [] counted v b o, charged-received times b v at, quiet b o.quiet v)))

  -- where what the core table and the round table send is found
  module _ (core-found : (b : Bus) → (b ≡ IsWh → ⊥) → (v : List ℕ) → 1 ≤ table_share Sender b v (core_kind nr) core → FoundOn b v)
      (round-found : (b : Bus) (v : List ℕ) → 1 ≤ table_share Sender b v kept_kind round → FoundOn b v) where
    sent-found : (b : Bus) → (b ≡ IsWh → ⊥) → (v : List ℕ) → 1 ≤ times b v → FoundOn b v ⊎ (1 ≤ table_share Sender b v is_wh_kind pairs % p)
    unfolding times
    sent-found b n v some =
        by_le 1 (table_share Sender b v (core_kind nr) core)
        (λ k. inl (core-found b n v k))
        (λ k₁. by_le 1 (table_share Sender b v kept_kind round)
        (λ k. inl (round-found b v k))
        (λ k₂. inr (subst (λ (n : ℕ). 1 ≤ n % p) (omega (arith, k₁, k₂)) some)))

    -- a bus on which the IS_WH table sends nothing
    only-found : (b : Bus) → (b ≡ IsWh → ⊥) → ((m : ℕ) → is_wh_line Sender b m ≡ 0) → (v : List ℕ) → 1 ≤ times b v → FoundOn b v
    only-found b n z v some =
        ⊎_elim (λ f. f) (λ l. absurd (let a = not-zero (table_share Sender b v is_wh_kind pairs) l in omega (arith, a, no-is-wh Sender b v z pairs))) (sent-found b n v some)

    alu-agree : (v : List ℕ) → LeanAgree ByteAlu v
    unfolding FoundOn
    alu-agree v = bitwise-agree ByteAlu v alu-alone (λ l. alu-placed v (only-found ByteAlu (other (λ z. omega arith)) (λ m. refl) v l))

    bytes-agree : (v : List ℕ) → LeanAgree AreBytes v
    unfolding FoundOn
    bytes-agree v = bitwise-agree AreBytes v bytes-alone (λ l. bytes-placed v (only-found AreBytes (other (λ z. omega arith)) (λ m. refl) v l))

    constants-agree : (v : List ℕ) → LeanAgree KeccakRc v
    unfolding FoundOn lean_total
    constants-agree v =
        even KeccakRc v
        (again KeccakRc v _
        (omega (
          arith,
          constants-total nr core [] counted v,
          constant-received times v (only-found KeccakRc (other (λ z. omega arith)) (λ m. refl) v),
          quiet KeccakRc (record { core = λ m. refl; round = λ m. refl }) v,
        )))

  module _ (pc : Passes (core_kind nr) core) (answer : LeanAnswers nr core round) (fc : rows core_layout core ≤ MAX-ROWS) (fr : rows round_layout round ≤ MAX-ROWS) where
    cc : Constrained (core_kind nr) core
    cc = core-constrained nr core pc fc

    cr : Constrained round_kind round
    cr = let h = answer.passes in record { whole = h.whole; below = h.below; values = λ r i lr li. (h.each r lr).values i li; few = fr }

    -- a tuple that is not kept is not sent
    matched : (r i : ℕ) → r < rows round_layout round → i < 1031 → Matched (kept_tuple (row round_layout round r) i)
    matched r i lr li = go (kept i) refl
      where
        go : (c : Bool) → kept i ≡ c → Matched (kept_tuple (row round_layout round r) i)
        go true e = subst Matched (sym (kept-is (row round_layout round r) i e)) ((answer.passes.each r lr).lookups i li e)
        go false e = λ n. absurd (n (ap (λ (t : Tuple). t.multiplicity) (dropped-is (row round_layout round r) i e)))

    round-found : (b : Bus) (v : List ℕ) → 1 ≤ table_share Sender b v kept_kind round → FoundOn b v
    round-found b = table-found kept_kind round b (λ r i lr li e. matched r i lr li)

    half-agree : (v : List ℕ) → LeanAgree IsHalfword v
    unfolding FoundOn
    half-agree v =
        bitwise-agree IsHalfword v half-alone
        (λ l. half-placed v (⊎_elim (λ f. f) (half_at nr core pc fc v) (sent-found (core-sent nr core pc fc) round-found IsHalfword (other (λ z. omega arith)) v l)))

    -- on this bus the IS_WH table alone sends
    twenty-agree : (v : List ℕ) → LeanAgree IsB20 v
    unfolding times
    twenty-agree v =
        bitwise-agree IsB20 v twenty-alone
        (λ l. twenty-at nr core pc fc v
        (subst (λ (n : ℕ). 1 ≤ n % p) (omega (arith, no-core Sender IsB20 v (λ m. refl) nr core, lean-share-le Sender v round IsB20, no-round Sender IsB20 v (λ m. refl) round)) l))

    -- here it receives what the core table sends
    is-wh-agree : (v : List ℕ) → LeanAgree IsWh v
    unfolding times lean_total
    is-wh-agree v =
        even IsWh v
        (ap (λ (n : ℕ). n % p)
        (omega (
          arith,
          is-wh-total nr core [] counted v,
          pairs-received core pc.below nr v,
          quiet IsWh (record { core = λ m. refl; round = λ m. refl }) v,
          lean-share-le Sender v round IsWh,
          no-round Sender IsWh v (λ m. refl) round,
          no-is-wh Sender IsWh v (λ m. refl) pairs,
        )))

    keccak-agree : (v : List ℕ) → LeanAgree Keccak v
    unfolding Balanced lean_total LeanAgree
    keccak-agree v =
        let c : (s : Side) → table_share s Keccak v (core_kind nr) core ≡ active_tuples (core_kind nr) s core v = λ s. core-carried nr core cc s v in
        let d : (s : Side) → table_share s Keccak v kept_kind round ≡ active_tuples round_kind s round v = λ s. lean-share-keccak s v round ∙ round-carried round cr s v in
        let all = keccak-total nr core [] counted v in
        ap (λ (n : ℕ). n % p) (omega (arith, all Sender, all Receiver, empty_round Sender Keccak v, empty_round Receiver Keccak v, c Sender, c Receiver, d Sender, d Receiver, answer.balanced v))

    agree : (b : Bus) → Ours b → (v : List ℕ) → LeanAgree b v
    agree ByteAlu o v = alu-agree (core-sent nr core pc fc) round-found v
    agree AreBytes o v = bytes-agree (core-sent nr core pc fc) round-found v
    agree IsHalfword o v = half-agree v
    agree IsB20 o v = twenty-agree v
    agree IsWh o v = is-wh-agree v
    agree KeccakRc o v = constants-agree (core-sent nr core pc fc) round-found v
    agree Keccak o v = keccak-agree v
    agree Memw o v = absurd o
    agree Ecall o v = absurd o
    agree Msb8 o v = absurd o
    agree Msb16 o v = absurd o
    agree Zero o v = absurd o
    agree Hwsl o v = absurd o

    in_field : InField counted
    unfolding times charged_constant
    in_field =
        record {
          bitwise-below = λ i j. omega (arith, charged-le times (p - 1) (λ b v. omega (arith, mod-p (table_share Sender b v (core_kind nr) core + table_share Sender b v kept_kind round + table_share Sender b v is_wh_kind pairs))) i j);
          constants-below = λ r. mod-p _;
          is-wh-whole = pairs-whole core;
          is-wh-below = pairs_below core nr pc.below;
        }

    pub lean-complete : LeanFilled nr core round
    unfolding LeanAgree
    lean-complete = (
      counted,
      in_field,
      record {
        core-constrained = cc;
        round-constrained = cr;
        few-pairs = omega (arith, pairs-rows core, fc);
        few-others = λ b v. omega arith;
        no-others = λ v. refl;
        agree = agree;
      },
    )

  pub lean-sums-exactly : rows core_layout core ≤ MAX-ROWS → rows round_layout round ≤ MAX-ROWS → LeanFilled nr core round ↔ (Passes (core_kind nr) core × LeanAnswers nr core round)
  lean-sums-exactly fc fr = (
    (λ (w, f, h). (lean-sums-core nr core round w nobody h, lean-sums-answer nr core round w nobody h)),
    (λ (c, a). lean-complete c a fc fr),
  )
