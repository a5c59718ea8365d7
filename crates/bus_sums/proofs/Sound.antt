-- Where the sums of a prover's buses agree mod p, both tables pass their lookups and the Keccak bus balances: whatever a
-- prover wrote into the tables that are looked up.
--     twenty       MU of each row of the IS_WH table has 20 bits: so no sum passes p
--     halves       and where it is not 0, the row's three values are halfwords: so what it receives is a word and a half
--     core-lookups, round-lookups   what a core row or a round row looks up is found
--     balanced     each Keccak tuple is sent as often as received, as whole numbers
-- All of it is proved of a round table of any kind R that adds little and receives on the Keccak bus alone (`SumsOf`), so of rows that send
-- fewer tuples too (lean_sums).
use mathlib.Core.List.{List, [], ◌∷◌}
use mathlib.Core.Path.{◌≡◌, refl, sym, ap, subst, ◌∙◌}
use Prim.Native.Nat.{ℕ, zero, suc, ◌+◌, ◌-◌, ◌*◌, ◌%◌, ◌^◌, ◌≤◌, ◌<◌}
use native.Mathlib.Nat.{mod-eq_of_lt}
use native.Mathlib.Omega.{arith}
use Rattle.lists.specs.Tab.{word}
use Rattle.lists.specs.Sum.{sum_below}
use Rattle.field.specs.Field.{p}
use Rattle.tuple.specs.Tuple.{Tuple}
use Rattle.tuple.specs.declared.Bus.{Bus}
use Rattle.tuple.specs.declared.Bus.TheVariants.{ByteAlu, AreBytes, IsHalfword, IsWh, KeccakRc, Keccak, IsB20, Memw, Ecall, Msb8, Msb16, Zero, Hwsl}
use Rattle.tuple.specs.declared.Side.{Side}
use Rattle.tuple.specs.declared.Side.TheVariants.{Sender, Receiver}
use Rattle.is_wh.specs.Found.{IsWhFound}
use Rattle.is_wh.specs.Tuples.{is_wh_tuple}
use Rattle.is_wh.proofs.Tuples.{mu-sent, half-sent}
use Rattle.is_wh.proofs.Received.{received-found}
use Rattle.bitwise.specs.Found.{BitwiseFound}
use Rattle.keccak_rc.specs.Found.{RcFound}
use Rattle.matching.specs.Matching.{FoundOn}
use Rattle.matching.proofs.Matching.{half_of}
use Rattle.verdict.specs.Kind.{Kind, rows, row, Lookups, Balanced, active_tuples}
use Rattle.verdict.specs.CoreAndRound.{core_kind, round_kind}
use Rattle.bus_sums.specs.Buses.{is_wh_line}
use Rattle.bus_sums.specs.Sums.{Fillings, shares, tuple_at, table_share, bitwise_at, constant_at, is_wh_layout, is_wh_kind, bus_total, Ours, Constrained, SumsHold, MAX-PAIRS, MAX-SENDS}
use Rattle.bus_sums.proofs.Shares.{not-zero, shares-find, shares-own, shares-line}
use Rattle.bus_sums.proofs.Buses.{is-wh-line, is-wh-most, no-core, no-round}
use Rattle.bus_sums.proofs.Rows.{pair-receive, bitwise-receive, constant-receive, found-twenty}
use Rattle.bus_sums.proofs.Constrained.{core-few, round-few, core-carried, round-carried}
use Rattle.bus_sums.proofs.Totals.{Quiet, OnBitwise, alu-alone, bytes-alone, half-alone, twenty-alone, sent-total, bitwise-total, is-wh-total, constants-total, keccak-total}

-- an empty round table adds nothing: so a sum with it is the sum of the other four tables
pub empty_round : (s : Side) (b : Bus) (v : List ℕ) → table_share s b v round_kind [] ≡ 0
unfolding shares sum_below
empty_round s b v = refl

pub round-apart : (nr : ℕ) (core round : List ℕ) (w : Fillings) (s : Side) (b : Bus) (v : List ℕ) → bus_total nr core round w s b v ≡ bus_total nr core [] w s b v + table_share s b v round_kind round
unfolding bus_total
round-apart nr core round w s b v = let a = empty_round s b v in omega (arith, a)

-- what is used of the sums, for a round table of kind R
pub record SumsOf (R : Kind) (nr : ℕ) (core round : List ℕ) (w : Fillings) (others : Bus → List ℕ → ℕ) : Type 0 where
  pub core-constrained : Constrained (core_kind nr) core
  pub few : (s : Side) (b : Bus) (v : List ℕ) → table_share s b v R round ≤ 2 ^ 35 * 1031
  pub quiet : (b : Bus) → Quiet b → (v : List ℕ) → table_share Receiver b v R round ≡ 0
  pub few-pairs : rows is_wh_layout w.is-wh ≤ MAX-PAIRS
  pub few-others : (b : Bus) (v : List ℕ) → others b v ≤ MAX-SENDS
  pub agree : (b : Bus) → Ours b → (v : List ℕ)
      → (bus_total nr core [] w Sender b v + table_share Sender b v R round + others b v) % p ≡ (bus_total nr core [] w Receiver b v + table_share Receiver b v R round) % p

module _ (R : Kind) (nr : ℕ) (core round : List ℕ) (w : Fillings) (others : Bus → List ℕ → ℕ) (h : SumsOf R nr core round w others) where
  abbrev total : Side → Bus → List ℕ → ℕ
  total s b v = bus_total nr core [] w s b v + table_share s b v R round

  sent : (b : Bus) (v : List ℕ) → total Sender b v ≡ table_share Sender b v (core_kind nr) core + table_share Sender b v R round + table_share Sender b v is_wh_kind w.is-wh
  sent b v = let a = sent-total nr core [] w v b in omega (arith, a, empty_round Sender b v)

  -- how many rows the IS_WH table has, and row r of it
  abbrev pairs : ℕ
  pairs = rows is_wh_layout w.is-wh

  abbrev pair : ℕ → List ℕ
  pair r = row is_wh_layout w.is-wh r

  -- ---- what is sent is received, where the sum does not pass p
  -- no row of the IS_WH table sends more than 2^22 times on b
  FewPairs : Bus → Type 0
  FewPairs b = (r : ℕ) → r < pairs → is_wh_line Sender b (word (pair r) 3) ≤ 2 ^ 22

  sent-few : (b : Bus) (v : List ℕ) → FewPairs b → total Sender b v + others b v < p
  unfolding tuple_at FewPairs
  sent-few b v few =
      let a = shares-line Sender b v pairs 5 (tuple_at is_wh_kind w.is-wh) (2 ^ 22) (λ r l. omega (arith, is-wh-line Sender b (pair r), few r l)) in
      omega (arith, a, h.few-pairs, core-few nr core h.core-constrained Sender b v, h.few Sender b v, sent b v, h.few-others b v)

  -- so a sum that is not 0 is not 0 mod p, nor is what is received
  answered : (b : Bus) (v : List ℕ) → Ours b → FewPairs b → 1 ≤ total Sender b v → 1 ≤ total Receiver b v
  answered b v o few l =
      let sums : total Sender b v + others b v ≡ total Receiver b v % p = sym (mod-eq_of_lt (sent-few b v few)) ∙ h.agree b o v in
      not-zero (total Receiver b v) (omega arith)

  -- what the bitwise table alone receives is found in it
  on-bitwise : (b : Bus) (v : List ℕ) → OnBitwise b → 1 ≤ total Receiver b v → BitwiseFound b v
  on-bitwise b v o l =
      let f = shares-find Receiver b v 1048576 10 (bitwise_at w.bitwise) (omega (arith, l, bitwise-total nr core [] w v b o, h.quiet b o.quiet v)) in
      bitwise-receive w.bitwise f.0 b v f.1 f.2 f.4

  -- a row of the IS_WH table sends its tuples
  pair-sent : (r i : ℕ) → r < pairs → i < 5 → (u : Tuple) → is_wh_tuple (pair r) i ≡ u → u.side ≡ Sender → 1 ≤ u.multiplicity → 1 ≤ total Sender u.bus u.values
  unfolding tuple_at
  pair-sent r i lr li u e s m =
      let a = shares-own Sender u.bus u.values pairs 5 (tuple_at is_wh_kind w.is-wh) r i lr li (ap (λ (t : Tuple). t.side) e ∙ s) (ap (λ (t : Tuple). t.bus) e) (ap (λ (t : Tuple). t.values) e) in
      omega (arith, a, ap (λ (t : Tuple). t.multiplicity) e, m, sent u.bus u.values)

  -- ---- the IS_WH table: MU of each row has 20 bits
  twenty : (r : ℕ) → r < pairs → word (pair r) 3 < 2 ^ 20
  unfolding FewPairs
  twenty r l =
      let v = word (pair r) 3 ∷ [] in
      found-twenty (word (pair r) 3)
      (on-bitwise IsB20 v twenty-alone
      (answered IsB20 v tt (λ r l. omega arith) (pair-sent r 0 l (omega arith) _ (mu-sent (pair r) 0 refl) refl (omega arith))))

  -- so each sends little on every bus
  few-pairs : (b : Bus) → FewPairs b
  unfolding FewPairs
  few-pairs b r l = let t = twenty r l in omega (arith, is-wh-most Sender b (word (pair r) 3) (2 ^ 20 - 1) (omega arith))

  -- and where it is not 0, the three values are halfwords: so what it receives is a word and a half
  halves : (r : ℕ) → r < pairs → 1 ≤ word (pair r) 3 → (i : ℕ) → i < 3 → word (pair r) i < 2 ^ 16
  unfolding FoundOn
  halves r l m i li =
      let v = word (pair r) i ∷ [] in
      half_of (word (pair r) i)
      (on-bitwise IsHalfword v half-alone
      (answered IsHalfword v tt (few-pairs IsHalfword)
      (subst (λ (k : ℕ). 1 ≤ total Sender IsHalfword (word (pair r) k ∷ [])) at
      (pair-sent r (suc i) l (omega arith) _ (half-sent (pair r) (suc i) (omega arith) (omega arith)) refl m))))
    where
      at : suc i - 1 ≡ i
      at = omega arith

  -- ---- what is sent is found
  on-is-wh : (v : List ℕ) → 1 ≤ total Receiver IsWh v → IsWhFound v
  unfolding tuple_at
  on-is-wh v l =
      let f = shares-find Receiver IsWh v pairs 5 (tuple_at is_wh_kind w.is-wh) (omega (arith, l, is-wh-total nr core [] w v, h.quiet IsWh (record { core = λ m. refl; round = λ m. refl }) v)) in
      let g = pair-receive (pair f.0) IsWh v f.1 f.4 in
      subst IsWhFound (sym g.0) (received-found (pair f.0) (halves f.0 f.2 g.1))

  on-constants : (v : List ℕ) → 1 ≤ total Receiver KeccakRc v → RcFound v
  on-constants v l =
      let f = shares-find Receiver KeccakRc v 32 1 (constant_at w.constants) (omega (arith, l, constants-total nr core [] w v, h.quiet KeccakRc (record { core = λ m. refl; round = λ m. refl }) v)) in
      constant-receive w.constants f.0 KeccakRc v f.1 f.2 f.4

  -- a table of some kind among the five: what it sends is in the sum, and on a bus that is quiet it receives nothing
  module _ (K : Kind) (ws : List ℕ) (sent : (b : Bus) (v : List ℕ) → table_share Sender b v K ws ≤ total Sender b v)
      (quiet : (b : Bus) → Quiet b → (v : List ℕ) → table_share Receiver b v K ws ≡ 0) where
    -- its tuples on such a bus are sent, so received
    found : (b : Bus) → Ours b → Quiet b → (r i : ℕ) → r < rows K.layout ws → i < K.tuples → (t : Tuple) → tuple_at K ws r i ≡ t → t.bus ≡ b → (t.multiplicity ≡ 0 → ⊥) → 1 ≤ total Receiver b t.values
    found b o q r i lr li t e eb n = go t.side refl
      where
        some : (k : ℕ) → t.multiplicity ≡ k → 1 ≤ t.multiplicity
        some zero e = absurd (n e)
        some (suc k) e = omega arith

        own : (s : Side) → t.side ≡ s → t.multiplicity ≤ table_share s b t.values K ws
        own s es =
            let a = shares-own s b t.values (rows K.layout ws) K.tuples (tuple_at K ws) r i lr li (ap (λ (u : Tuple). u.side) e ∙ es) (ap (λ (u : Tuple). u.bus) e ∙ eb) (ap (λ (u : Tuple). u.values) e) in
            omega (arith, a, ap (λ (u : Tuple). u.multiplicity) e)

        go : (s : Side) → t.side ≡ s → 1 ≤ total Receiver b t.values
        go Sender es = answered b t.values o (few-pairs b) (omega (arith, own Sender es, some t.multiplicity refl, sent b t.values))
        go Receiver es = absurd (omega (arith, own Receiver es, some t.multiplicity refl, quiet b q t.values))

    looked-up : Lookups K ws
    unfolding tuple_at FoundOn
    looked-up r i lr li n = go (K.tuple (row K.layout ws r) i).bus refl
      where
        t : Tuple
        t = K.tuple (row K.layout ws r) i

        go : (b : Bus) → t.bus ≡ b → FoundOn b t.values
        go ByteAlu e = on-bitwise ByteAlu t.values alu-alone (found ByteAlu tt alu-alone.quiet r i lr li t refl e n)
        go AreBytes e = on-bitwise AreBytes t.values bytes-alone (found AreBytes tt bytes-alone.quiet r i lr li t refl e n)
        go IsHalfword e = on-bitwise IsHalfword t.values half-alone (found IsHalfword tt half-alone.quiet r i lr li t refl e n)
        go IsWh e = on-is-wh t.values (found IsWh tt (record { core = λ m. refl; round = λ m. refl }) r i lr li t refl e n)
        go KeccakRc e = on-constants t.values (found KeccakRc tt (record { core = λ m. refl; round = λ m. refl }) r i lr li t refl e n)
        go Keccak e = tt
        go Memw e = tt
        go Ecall e = tt
        go Msb8 e = tt
        go Msb16 e = tt
        go Zero e = tt
        go IsB20 e = tt
        go Hwsl e = tt

  pub core-found : Lookups (core_kind nr) core
  core-found = looked-up (core_kind nr) core (λ b v. omega (arith, sent b v)) (λ b q v. no-core Receiver b v q.core nr core)

  pub round-found : Lookups R round
  round-found = looked-up R round (λ b v. omega (arith, sent b v)) h.quiet

  -- ---- the Keccak bus, where no other table sends on it
  pub even-found : ((s : Side) (v : List ℕ) → table_share s Keccak v R round ≡ active_tuples round_kind s round v) → ((v : List ℕ) → others Keccak v ≡ 0) → Balanced (core_kind nr) round_kind core round
  unfolding Balanced
  even-found carried none v =
      let c : (s : Side) → table_share s Keccak v (core_kind nr) core ≡ active_tuples (core_kind nr) s core v = λ s. core-carried nr core h.core-constrained s v in
      let all : (s : Side) → total s Keccak v ≡ table_share s Keccak v (core_kind nr) core + table_share s Keccak v R round = λ s. omega (arith, keccak-total nr core [] w v s, empty_round s Keccak v) in
      let few : total Receiver Keccak v < p = omega (arith, core-few nr core h.core-constrained Receiver Keccak v, h.few Receiver Keccak v, all Receiver) in
      let both : total Sender Keccak v + others Keccak v ≡ total Receiver Keccak v = sym (mod-eq_of_lt (sent-few Keccak v (few-pairs Keccak))) ∙ h.agree Keccak tt v ∙ mod-eq_of_lt few in
      omega (arith, c Sender, c Receiver, carried Sender v, carried Receiver v, both, none v, all Sender, all Receiver)

-- ---- rows that send all 1,031 tuples
module _ (nr : ℕ) (core round : List ℕ) (w : Fillings) (others : Bus → List ℕ → ℕ) (h : SumsHold nr core round w others) where
  sums : SumsOf round_kind nr core round w others
  sums =
      record {
        core-constrained = h.core-constrained;
        few = round-few round h.round-constrained;
        quiet = λ b q v. no-round Receiver b v q.round round;
        few-pairs = h.few-pairs;
        few-others = h.few-others;
        agree = λ b o v.
            ap (λ (n : ℕ). (n + others b v) % p) (sym (round-apart nr core round w Sender b v)) ∙ h.agree b o v ∙ ap (λ (n : ℕ). n % p) (round-apart nr core round w Receiver b v);
      }

  pub core-lookups : Lookups (core_kind nr) core
  core-lookups = core-found round_kind nr core round w others sums

  pub round-lookups : Lookups round_kind round
  round-lookups = round-found round_kind nr core round w others sums

  pub balanced : Balanced (core_kind nr) round_kind core round
  balanced = even-found round_kind nr core round w others sums (round-carried round h.round-constrained) h.no-others
