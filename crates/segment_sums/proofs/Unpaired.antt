-- Why an empty segment has no IS_WH table: each row of one sends IsB20 of its MU once, padding rows too, so beside multiplicities of IsB20 that are
-- 0, which is what `charge` leaves from zero, the sums agree only where the table has no row.
use mathlib.Core.List.{List, [], ◌∷◌}
use mathlib.Core.Path.{◌≡◌, refl, ap, ◌∙◌}
use Prim.Native.Nat.{ℕ, ◌≤◌, ◌<◌}
use native.Mathlib.Omega.{arith}
use Rattle.lists.specs.Tab.{word}
use Rattle.lists.proofs.Then.{by_le}
use Rattle.tuple.specs.Tuple.{Tuple}
use Rattle.tuple.specs.declared.Bus.TheVariants.{IsB20}
use Rattle.tuple.specs.declared.Side.TheVariants.{Sender, Receiver}
use Rattle.is_wh.proofs.Tuples.{mu-sent}
use Rattle.verdict.specs.Kind.{rows, row}
use Rattle.bus_sums.specs.Sums.{Fillings, tuple_at, bitwise_at, is_wh_layout, is_wh_kind, bus_total, SumsHold, nobody}
use Rattle.bus_sums.proofs.Shares.{shares-own, shares-line, no_line}
use Rattle.bus_sums.proofs.Buses.{is-wh-line, bitwise-line, no-core, no-round}
use Rattle.bus_sums.proofs.Totals.{twenty-alone, sent-total, bitwise-total}

module _ (nr : ℕ) (core round : List ℕ) (w : Fillings) (none-charged : (i : ℕ) → i < 1048576 → w.bitwise i 5 ≡ 0) where
  -- the bitwise table receives nothing on that bus
  none-received : (v : List ℕ) → bus_total nr core round w Receiver IsB20 v ≡ 0
  none-received v =
      bitwise-total nr core round w v IsB20 twenty-alone
      ∙ no_line Receiver IsB20 v 1048576 10 (bitwise_at w.bitwise) (λ i l. let e = none-charged i l in bitwise-line Receiver IsB20 w.bitwise i ∙ omega (arith, e))

  pub unpaired : SumsHold nr core round w nobody → rows is_wh_layout w.is-wh ≡ 0
  unfolding tuple_at
  unpaired h = by_le 1 n some (λ l. omega arith)
    where
      n : ℕ
      n = rows is_wh_layout w.is-wh

      x : List ℕ
      x = row is_wh_layout w.is-wh 0

      v : List ℕ
      v = word x 3 ∷ []

      some : 1 ≤ n → n ≡ 0
      some l =
          let t = mu-sent x 0 refl in
          let least = shares-own Sender IsB20 v n 5 (tuple_at is_wh_kind w.is-wh) 0 0 l (omega arith)
          (ap (λ (u : Tuple). u.side) t) (ap (λ (u : Tuple). u.bus) t) (ap (λ (u : Tuple). u.values) t) in
          let most = shares-line Sender IsB20 v n 5 (tuple_at is_wh_kind w.is-wh) 1 (λ r _. let e = is-wh-line Sender IsB20 (row is_wh_layout w.is-wh r) in omega (arith, e)) in
          let sent = sent-total nr core round w v IsB20 in
          absurd (omega (
            arith,
            least,
            ap (λ (u : Tuple). u.multiplicity) t,
            most,
            sent,
            no-core Sender IsB20 v (λ m. refl) nr core,
            no-round Sender IsB20 v (λ m. refl) round,
            none-received v,
            h.few-pairs,
            h.agree IsB20 tt v,
          ))
