-- `theta_plane` meets its contract: the lanes are stored one after the other.
use mathlib.Core.Path.{refl}
use Prim.Native.Nat.{◌-◌, ◌<◌}
use native.Mathlib.Omega.{arith}
use Rattle.lists.proofs.Laws.{Filled, filled_none, filled_next, filled-whole}
use Rattle.fips202.specs.Lanes.{plane, theta_at}
use Rattle.permutation.proofs.theta.theta_plane.Statement.{statement}
use Rattle.permutation.proofs.theta.theta_plane.Tie as tie

abbrev invariant-loop : tie.invariant-loop-x
invariant-loop y a d p₀ x₀ p x = (y < 5) × Filled p₀ 0 5 (λ x. theta_at a d x y) p x

abbrev decreases-loop : tie.decreases-loop-x
decreases-loop y a d p₀ x₀ p x = 5 - x

loop-holds : tie.Need-loop-x-init invariant-loop decreases-loop
loop-holds c = (c.requires, filled_none _ _ _ _)

mul-p : tie.Need-overflow_mul-p invariant-loop decreases-loop
mul-p c = omega arith

add-p : tie.Need-overflow_add-p invariant-loop decreases-loop
add-p c = omega arith

mul-p-2 : tie.Need-offset_bounds-a-x invariant-loop decreases-loop
mul-p-2 c = omega arith

array-read-p : tie.Need-bounds-a-x invariant-loop decreases-loop
array-read-p c = omega arith

mul-p-3 : tie.Need-offset_bounds-d-x invariant-loop decreases-loop
mul-p-3 c = omega arith

array-read-p-2 : tie.Need-bounds-d-x invariant-loop decreases-loop
array-read-p-2 c = omega arith

mul-p-4 : tie.Need-offset_bounds-p-x invariant-loop decreases-loop
mul-p-4 c = omega arith

array-write-p : tie.Need-bounds-p-x invariant-loop decreases-loop
array-write-p c = omega arith

add-x : tie.Need-overflow_step-x invariant-loop decreases-loop
add-x c = omega arith

loop-less : tie.Need-loop-x-smaller invariant-loop decreases-loop
loop-less c = omega arith

loop-again : tie.Need-loop-x-preserved invariant-loop decreases-loop
unfolding theta_at
loop-again c =
    (c.loop-x.invariant.0, filled_next _ c.loop-x.invariant.1 c.loop-x-test.true refl)

returns : tie.Need-returns invariant-loop decreases-loop
unfolding plane
returns c = filled-whole c.loop-x.invariant.1 refl c.loop-x-test.false

pub theta_plane_spec : {M : Type 1} → statement M
theta_plane_spec =
    tie.close
    (tie.spec
    invariant-loop
    decreases-loop
    loop-holds
    mul-p
    add-p
    mul-p-2
    array-read-p
    mul-p-3
    array-read-p-2
    mul-p-4
    array-write-p
    add-x
    loop-less
    loop-again
    returns)
