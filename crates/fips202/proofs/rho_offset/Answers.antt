use mathlib.Core.Path.{◌≡◌, ap}
use Prim.Native.Nat.{ℕ, ◌+◌, ◌-◌, ◌*◌, ◌%◌, ◌≤◌, ◌<◌}
use native.Mathlib.Nat.{mul-le-mul}
use native.Mathlib.Omega.{arith}
use Rattle.fips202.proofs.Walk.{walk-starts, walk_meets, walk-goes-on, walk_ends}
use Rattle.fips202.proofs.rho_offset.Goals as goal

product-most : (t : ℕ) → t < 24 → (t + 1) * (t + 2) ≤ 600
product-most t h = mul-le-mul {n₂ = 24} {m₂ = 25} (omega arith) (omega arith)

pub loop-t-init : goal.loop-t-init
loop-t-init c = (omega arith, omega arith, omega arith, walk-starts _ _)

pub overflow_mul-result : goal.overflow_mul-result
overflow_mul-result c = let most = product-most c.loop-t.t (omega arith) in omega (arith, most)

pub returns-then-cx-cy : goal.returns-then-cx-cy
returns-then-cx-cy c =
    let a = c.args in
    let w = c.loop-t in
    let same-x : a.x ≡ w.cx = omega arith in
    let same-y : a.y ≡ w.cy = omega arith in
    let below : w.t < 24 = omega arith in
    ap (λ (n : ℕ). n % 64) (walk_meets a.x a.y w.cx w.cy w.t below same-x same-y w.invariant.3)

pub loop-t-preserved : goal.loop-t-preserved
loop-t-preserved c =
    let a = c.args in
    let w = c.loop-t in
    let below : w.t < 24 = omega arith in
    let other : a.x ≡ w.cx → a.y ≡ w.cy → ⊥ = λ p q. omega arith in
    (omega arith, omega arith, omega arith, walk-goes-on a.x a.y w.cx w.cy w.t below other w.invariant.3)

pub returns : goal.returns
returns c =
    let a = c.args in
    let w = c.loop-t in
    let past : 24 ≤ w.t = omega arith in
    ap (λ (n : ℕ). n % 64) (walk_ends a.x a.y w.cx w.cy w.t past w.invariant.3)
