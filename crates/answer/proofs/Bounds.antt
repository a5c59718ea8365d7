-- Why the limit on operations is what it is: it is the largest number whose 24 rounds each fit 2^31 rows.
use Prim.Native.Nat.{◌+◌, ◌*◌, ◌^◌, ◌≤◌, ◌<◌}
use native.Mathlib.Omega.{arith}
use Rattle.answer.specs.Limits.{MAX-OPS}

pub max-ops-fit : 24 * MAX-OPS ≤ 2 ^ 31
max-ops-fit = omega arith

pub max-ops-most : 2 ^ 31 < 24 * (MAX-OPS + 1)
max-ops-most = omega arith
