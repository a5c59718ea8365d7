-- `rho_offset` meets its contract: what is left of the walk gives the offset, at every turn.
use Prim.Native.Nat.{◌-◌, ◌≤◌, ◌<◌}
use Rattle.fips202.proofs.Walk.{Walking}
use Rattle.fips202.proofs.rho_offset.Given as goal

abbrev pub invariant-loop-t : goal.invariant-loop-t
invariant-loop-t l = (l.cx < 5) × (l.cy < 5) × (l.t ≤ 24) × Walking l.x l.y l.cx l.cy l.t
