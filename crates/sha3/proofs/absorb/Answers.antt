use mathlib.Core.Path.{◌≡◌, refl, sym, ap, ◌∙◌}
use native.Mathlib.Numerals.{add-one}
use native.Mathlib.Omega.{arith}
use Rattle.fips202.specs.Lanes.{keccak_pl}
use Rattle.sha3.specs.Sha3.{blocks, added, absorbed}
use Rattle.sha3.proofs.absorb.Goals as goal

pub loop-i-init : goal.loop-i-init
unfolding absorbed
loop-i-init c = (omega arith, refl, refl)

pub loop-i-preserved : goal.loop-i-preserved
unfolding absorbed
loop-i-preserved c =
    let m = c.args.message.now in
    let i = c.loop-i.i in (
      omega arith,
      c.loop-i.invariant.1,
      c.keccak_f-state.ensures.lanes
          ∙ ap (keccak_pl 24) (c.add_block.ensures ∙ ap (added m i) c.loop-i.invariant.2)
          ∙ sym (ap (absorbed m) (add-one i)),
    )

pub returns : goal.returns
returns c =
    let m = c.args.message.now in
    let all : c.loop-i.i ≡ blocks m = omega arith in
    c.loop-i.invariant.2 ∙ ap (absorbed m) all
