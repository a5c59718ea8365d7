use mathlib.Core.Path.{refl}
use Rattle.lists.proofs.Laws.{filled_none, filled_next, filled-whole}
use Rattle.fips202.specs.Lanes.{plane}
use Rattle.keccak_rnd.proofs.Tables.{left-of}
use Rattle.keccak_rnd_rho.proofs.left_plane.Goals as goal

pub loop-x-init : goal.loop-x-init
loop-x-init c = (c.requires, filled_none _ _ _ _)

pub loop-x-preserved : goal.loop-x-preserved
loop-x-preserved c = let h = c.loop-x.invariant in (h.0, filled_next _ h.1 c.loop-x-test.true (left-of _ _ _ c.rho_offset.ensures c.shift_lane-shifted.ensures.0))

pub returns : goal.returns
unfolding plane
returns c = filled-whole c.loop-x.invariant.1 refl c.loop-x-test.false
