use mathlib.Core.Path.{refl, ap, ◌∙◌}
use mathlib.Core.List.{List}
use Prim.Native.Nat.{ℕ, ◌+◌, ◌-◌, ◌*◌}
use lib.Seq.{sets}
use Rattle.lists.proofs.Laws.{filled_none, filled_row_lem, filled-rows}
use Rattle.bits.specs.Bits.{word_at}
use Rattle.fips202.specs.Lanes.{rnd_l, rounds_l}
use Rattle.keccak_rnd.specs.Row.{round_row}
use Rattle.keccak_rnd.specs.Parts.{row_after}
use Rattle.keccak_rnd.proofs.Rows.{length-after, one_more}
use Rattle.keccak_rnd_trace.proofs.put_rounds.Goals as goal

pub loop-r-init : goal.loop-r-init
unfolding rounds_l
loop-r-init c = (refl, filled_none _ _ _ _)

pub loop-r-preserved : goal.loop-r-preserved
unfolding row_after
loop-r-preserved c =
    let s = c.args.start.lanes in
    let t = c.args.timestamp in
    let nr = c.args.nr in
    let first = 24 - nr in
    let r = c.loop-r.r in (
      c.round-next.ensures.lanes ∙ ap (λ (z : List ℕ). rnd_l z (first + r)) c.loop-r.invariant.0 ∙ one_more first s r,
      filled_row_lem nr 1480 (row_after first t s) r c.loop-r.invariant.1 c.loop-r-test.true (length-after first t s r) refl
          (c.put_round_row.ensures ∙ ap (λ (z : List ℕ). sets c.loop-r.table (c.args.at + r * 1480) (round_row (word_at t) (first + r) z)) c.loop-r.invariant.0),
    )

pub returns : goal.returns
returns c = filled-rows c.args.nr 1480 _ c.loop-r.r c.loop-r.invariant.1 c.loop-r-test.false
