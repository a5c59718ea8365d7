use mathlib.Core.Path.{ap, ◌∙◌}
use mathlib.Core.List.{List}
use Prim.Native.Nat.{ℕ, ◌+◌, ◌-◌, ◌*◌, ◌/◌, ◌%◌}
use Rattle.bits.specs.Bits.{word_at}
use Rattle.bitwise.specs.Charge.{charged, charged_counters}
use Rattle.fips202.specs.Lanes.{rounds_l}
use Rattle.keccak.specs.Row.{op_at}
use Rattle.keccak_rnd.specs.Row.{round_row, op_row}
use Rattle.keccak_rnd.specs.Tuples.{round_tuple}
use Rattle.keccak_rnd_counts.specs.Lanes.{parts}
use Rattle.keccak_rnd_counts.proofs.Charging.{parts_none, parts-elements, parts_more, parts_all, same-charged}
use Rattle.keccak_rnd_counts.proofs.Ops.{op_adds, op-adds, ops-add}
use Rattle.keccak_rnd_counts.proofs.charge_op_rounds.Goals as goal

pub loop-i-init : goal.loop-i-init
loop-i-init c = parts_none c.requires.2

pub charge_rounds-requires : goal.charge_rounds-requires
charge_rounds-requires c =
    (parts-elements c.loop-i.invariant, c.requires.0)

pub loop-i-preserved : goal.loop-i-preserved
unfolding op_at
loop-i-preserved c =
    let nr = c.args.nr in
    let o = op_at c.args.ops.now c.loop-i.i in
    let rows : List ℕ → ℕ → ℕ = λ s. charged nr 1031 (λ j. round_tuple (round_row (word_at o.timestamp) (24 - nr + j) (rounds_l (24 - nr) j s))) in
    parts_more c.loop-i.invariant c.loop-i-test.true
    (same-charged (rows o.input) (op_adds nr o) (parts-elements c.loop-i.invariant) (op-adds nr o)
    (c.charge_rounds.ensures (word_at o.timestamp) ∙ ap (λ (s : List ℕ). charged_counters c.loop-i.counters (rows s)) c.lanes_at-lanes.ensures))

pub returns : goal.returns
returns c =
    let ops = c.args.ops.now in
    let n = c.args.n in
    let nr = c.args.nr in
    same-charged (parts n (λ i. op_adds nr (op_at ops i))) (charged (n * nr) 1031 (λ q. round_tuple (op_row nr (op_at ops (q / nr)) (q % nr)))) c.requires.2 (ops-add nr ops n)
    (parts_all c.loop-i.invariant c.loop-i-test.false)
