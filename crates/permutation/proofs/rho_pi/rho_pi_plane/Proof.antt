-- `rho_pi_plane` meets its contract: the lanes are stored one after the other.
use mathlib.Core.Path.{refl, ap, ◌∙◌}
use Prim.Native.Nat.{◌+◌, ◌-◌, ◌*◌, ◌%◌, ◌<◌}
use native.Mathlib.Omega.{arith}
use Rattle.lists.proofs.Laws.{Filled, filled_none, filled_next, filled-whole}
use Rattle.bits.specs.Bits.{rot}
use Rattle.fips202.specs.Lanes.{lane, plane, rho_at, rho_pi_at}
use Rattle.permutation.proofs.rho_pi.rho_pi_plane.Statement.{statement}
use Rattle.permutation.proofs.rho_pi.rho_pi_plane.Tie as tie

abbrev invariant-loop : tie.invariant-loop-x
invariant-loop y a p₀ x₀ p x = (y < 5) × Filled p₀ 0 5 (λ x. rho_pi_at a x y) p x

abbrev decreases-loop : tie.decreases-loop-x
decreases-loop y a p₀ x₀ p x = 5 - x

loop-holds : tie.Need-loop-x-init invariant-loop decreases-loop
loop-holds c = (c.requires, filled_none _ _ _ _)

mul-from : tie.Need-overflow_mul-from invariant-loop decreases-loop
mul-from c = omega arith

add-from : tie.Need-overflow_add-from invariant-loop decreases-loop
add-from c = omega arith

mul-rotate-left : tie.Need-overflow_mul-x invariant-loop decreases-loop
mul-rotate-left c = omega arith

add-rotate-left : tie.Need-overflow_add-from-in-loop-x invariant-loop decreases-loop
add-rotate-left c = omega arith

mul-rotate-left-2 : tie.Need-offset_bounds-a-from invariant-loop decreases-loop
mul-rotate-left-2 c = omega arith

array-read-rotate-left : tie.Need-bounds-a-from invariant-loop decreases-loop
array-read-rotate-left c = omega arith

rho-offset-requires : tie.Need-rho_offset-requires invariant-loop decreases-loop
rho-offset-requires c κs = omega arith

rotate-left-requires : tie.Need-rotate_left-requires invariant-loop decreases-loop
rotate-left-requires c κs = omega arith

mul-p : tie.Need-offset_bounds-p-x invariant-loop decreases-loop
mul-p c = omega arith

array-write-p : tie.Need-bounds-p-x invariant-loop decreases-loop
array-write-p c = omega arith

add-x : tie.Need-overflow_step-x invariant-loop decreases-loop
add-x c = omega arith

loop-less : tie.Need-loop-x-smaller invariant-loop decreases-loop
loop-less c = omega arith

loop-again : tie.Need-loop-x-preserved invariant-loop decreases-loop
unfolding rho_pi_at rho_at
loop-again c =
    let x = c.loop-x.x in
    let from = (x + 3 * c.args.y) % 5 in (
      c.loop-x.invariant.0,
      filled_next _ c.loop-x.invariant.1 c.loop-x-test.true
          (c.rotate_left.ensures ∙ ap (rot (lane c.args.a from x)) c.rho_offset.ensures),
    )

returns : tie.Need-returns invariant-loop decreases-loop
unfolding plane
returns c = filled-whole c.loop-x.invariant.1 refl c.loop-x-test.false

pub rho_pi_plane_spec : {M : Type 1} → statement M
rho_pi_plane_spec =
    tie.close
    (tie.spec
    invariant-loop
    decreases-loop
    loop-holds
    mul-from
    add-from
    mul-rotate-left
    add-rotate-left
    mul-rotate-left-2
    array-read-rotate-left
    rho-offset-requires
    rotate-left-requires
    mul-p
    array-write-p
    add-x
    loop-less
    loop-again
    returns)
