use mathlib.Core.Path.{refl, ap, ◌∙◌}
use mathlib.Core.List.{List}
use Prim.Native.Nat.{ℕ, ◌+◌, ◌-◌}
use native.Mathlib.Omega.{arith}
use Rattle.bitwise.specs.Charge.{charged_row, charged, charged_counters}
use Rattle.fips202.specs.Lanes.{rnd_l, rounds_l}
use Rattle.keccak_rnd.specs.Row.{round_row}
use Rattle.keccak_rnd.specs.Tuples.{round_tuple}
use Rattle.keccak_rnd.proofs.Rows.{one_more}
use Rattle.keccak_rnd_counts.specs.Lanes.{parts}
use Rattle.keccak_rnd_counts.proofs.Charging.{parts_none, parts-elements, parts_more, parts_all}
use Rattle.keccak_rnd_counts.proofs.charge_rounds.Goals as goal

pub loop-j-init : goal.loop-j-init
unfolding rounds_l
loop-j-init c = (refl, λ stamp. parts_none c.requires.0)

pub charge_round-next-requires : goal.charge_round-next-requires
charge_round-next-requires c = (parts-elements (c.loop-j.invariant.1 (λ k. 0)), omega arith)

pub loop-j-preserved : goal.loop-j-preserved
loop-j-preserved c =
    let s = c.args.first in
    let low = 24 - c.args.nr in
    let j = c.loop-j.j in (
      c.charge_round-next.ensures.lanes ∙ ap (λ (z : List ℕ). rnd_l z (low + j)) c.loop-j.invariant.0 ∙ one_more low s j,
      λ stamp. parts_more (c.loop-j.invariant.1 stamp) c.loop-j-test.true
          (c.charge_round-next.ensures.counters stamp ∙ ap (λ (z : List ℕ). charged_counters c.loop-j.counters (charged_row 1031 (round_tuple (round_row stamp (low + j) z)))) c.loop-j.invariant.0),
    )

pub returns : goal.returns
unfolding parts charged
returns c = λ stamp. parts_all (c.loop-j.invariant.1 stamp) c.loop-j-test.false
