-- The other way: where both tables pass and the Keccak bus balances, the tables that are looked up can be filled so that
-- the sums of every bus agree, with words below p.
use mathlib.Core.List.{List}
use mathlib.Core.Logic.{⊎_elim}
use mathlib.Core.Path.{◌≡◌, refl, sym, ap, subst}
use Prim.Native.Nat.{ℕ, ◌%◌, ◌≤◌}
use native.Mathlib.Omega.{arith}
use Rattle.field.specs.Field.{p}
use Rattle.tuple.specs.Tuple.{bus_number}
use Rattle.tuple.specs.declared.Bus.{Bus}
use Rattle.tuple.specs.declared.Bus.TheVariants.{ByteAlu, AreBytes, IsHalfword, IsWh, KeccakRc, Keccak, IsB20, Memw, Ecall, Msb8, Msb16, Zero, Hwsl}
use Rattle.tuple.specs.declared.Side.TheVariants.{Sender}
use Rattle.bitwise.specs.Found.{BitwiseFound}
use Rattle.bitwise.proofs.Found.{half-occurs}
use Rattle.matching.specs.Matching.{FoundOn}
use Rattle.verdict.specs.Kind.{rows, Passes}
use Rattle.verdict.specs.CoreAndRound.{core_layout, round_layout, core_kind, round_kind}
use Rattle.verdict.specs.Claims.{Answers}
use Rattle.bus_sums.specs.Sums.{table_share, is_wh_kind, Ours, Constrained, Agree, SumsHold, nobody, Filled, MAX-ROWS}
use Rattle.bus_sums.proofs.Shares.{not-zero}
use Rattle.bus_sums.proofs.Constrained.{core-mu}
use Rattle.bitwise.specs.Charge.{Placed}
use Rattle.bitwise.proofs.Charge.{twenty-placed}
use Rattle.bus_sums.proofs.Pairs.{pairs_of, pairs-rows, pairs-received, pairs-whole, pairs_below, PairSent, pairs-found}
use Rattle.bus_sums.proofs.Filling.{filled, table-found, alu-agree, bytes-agree, constants-agree, half-agree, twenty-agree, is-wh-agree, keccak-agree, in_field}

-- ---- what a core table and its IS_WH table send is found
module _ (nr : ℕ) (core : List ℕ) (pc : Passes (core_kind nr) core) (fc : rows core_layout core ≤ MAX-ROWS) where
  pub core-constrained : Constrained (core_kind nr) core
  core-constrained = record { whole = pc.whole; below = pc.below; values = pc.values; few = fc }

  pub core-sent : (b : Bus) → (b ≡ IsWh → ⊥) → (v : List ℕ) → 1 ≤ table_share Sender b v (core_kind nr) core → FoundOn b v
  core-sent b n = table-found (core_kind nr) core b (λ r i lr li e. pc.lookups r i lr li)

  sent-pair : (b : Bus) (v : List ℕ) → 1 ≤ table_share Sender b v is_wh_kind (pairs_of core) % p → PairSent core (core-mu nr core core-constrained) b v
  sent-pair b v l = pairs-found core (core-mu nr core core-constrained) nr pc.lookups b v (not-zero (table_share Sender b v is_wh_kind (pairs_of core)) l)

  pub half_at : (v : List ℕ) → 1 ≤ table_share Sender IsHalfword v is_wh_kind (pairs_of core) % p → BitwiseFound IsHalfword v
  half_at v l =
      let q = sent-pair IsHalfword v l in
      ⊎_elim (λ e. absurd (buses-differ (ap bus_number e.0))) (λ e. subst (BitwiseFound IsHalfword) (sym q.values) (half-occurs q.number e.1)) q.range
    where
      buses-differ : ◌≡◌ {A = ℕ} 2 11 → ⊥
      buses-differ e = omega arith

  pub twenty-at : (v : List ℕ) → 1 ≤ table_share Sender IsB20 v is_wh_kind (pairs_of core) % p → Placed IsB20 v
  twenty-at v l =
      let q = sent-pair IsB20 v l in
      ⊎_elim (λ e. subst (Placed IsB20) (sym q.values) (twenty-placed q.number e.1)) (λ e. absurd (buses-differ (ap bus_number e.0))) q.range
    where
      buses-differ : ◌≡◌ {A = ℕ} 11 2 → ⊥
      buses-differ e = omega arith

-- ---- the sums
module _ (nr : ℕ) (core round : List ℕ) (pc : Passes (core_kind nr) core) (answer : Answers nr core round) (fc : rows core_layout core ≤ MAX-ROWS) (fr : rows round_layout round ≤ MAX-ROWS) where
  cc : Constrained (core_kind nr) core
  cc = core-constrained nr core pc fc

  cr : Constrained round_kind round
  cr = let h = answer.passes in record { whole = h.whole; below = h.below; values = h.values; few = fr }

  abbrev pairs : List ℕ
  pairs = pairs_of core

  core-found : (b : Bus) → (b ≡ IsWh → ⊥) → (v : List ℕ) → 1 ≤ table_share Sender b v (core_kind nr) core → FoundOn b v
  core-found = core-sent nr core pc fc

  round-found : (b : Bus) (v : List ℕ) → 1 ≤ table_share Sender b v round_kind round → FoundOn b v
  round-found b = table-found round_kind round b (λ r i lr li e. answer.passes.lookups r i lr li)

  agree : (b : Bus) → Ours b → (v : List ℕ) → Agree nr core round (filled nr core round pairs) nobody b v
  agree ByteAlu o v = alu-agree nr core round pairs core-found round-found v
  agree AreBytes o v = bytes-agree nr core round pairs core-found round-found v
  agree IsHalfword o v = half-agree nr core round pairs core-found round-found v (half_at nr core pc fc v)
  agree IsB20 o v = twenty-agree nr core round pairs v (twenty-at nr core pc fc v)
  agree IsWh o v = is-wh-agree nr core round pairs v (ap (λ (n : ℕ). n % p) (pairs-received core pc.below nr v))
  agree KeccakRc o v = constants-agree nr core round pairs core-found round-found v
  agree Keccak o v = keccak-agree nr core round pairs cc cr answer.balanced v
  agree Memw o v = absurd o
  agree Ecall o v = absurd o
  agree Msb8 o v = absurd o
  agree Msb16 o v = absurd o
  agree Zero o v = absurd o
  agree Hwsl o v = absurd o

  pub complete : Filled nr core round
  complete = (filled nr core round pairs, in_field nr core round pairs (pairs-whole core) (pairs_below core nr pc.below), sums)
    where
      sums : SumsHold nr core round (filled nr core round pairs) nobody
      sums =
          record {
            core-constrained = cc;
            round-constrained = cr;
            few-pairs = omega (arith, pairs-rows core, fc);
            few-others = λ b v. omega arith;
            no-others = λ v. refl;
            agree = agree;
          }
