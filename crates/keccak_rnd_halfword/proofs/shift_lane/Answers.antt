-- `shift_lane` meets its contract: a lane is known by its halfwords.
use Rattle.bits.proofs.Halves.{low-lane, carry-lane}
use Rattle.keccak_rnd_halfword.proofs.shift_lane.Goals as goal

pub returns : goal.returns
returns c =
    let n = c.args.lane in
    let r = c.args.shift in (
      low-lane n r c.hwsl-a.ensures.parts.0 c.hwsl-b.ensures.parts.0 c.hwsl-c.ensures.parts.0 c.hwsl-d.ensures.parts.0,
      carry-lane n r c.requires c.hwsl-a.ensures.parts.1 c.hwsl-b.ensures.parts.1 c.hwsl-c.ensures.parts.1 c.hwsl-d.ensures.parts.1,
    )
