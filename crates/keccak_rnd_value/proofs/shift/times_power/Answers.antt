-- `keccak_rnd_value::shift::times_power` meets its contract: the low word is brought below p, and what passed 2^64 is added.
use mathlib.Core.Path.{◌≡◌, ap, ◌∙◌}
use Prim.Native.Nat.{ℕ, ◌*◌, ◌%◌, ◌^◌}
use native.Mathlib.Omega.{arith}
use Rattle.field.specs.Field.{p}
use Rattle.field.proofs.Product.{less-p}
use Rattle.keccak_rnd_value.proofs.Powers.{passed-lt, power-law}
use Rattle.keccak_rnd_value.proofs.shift.times_power.Goals.{then-lo-lt-P, else-lo-lt-P}
use Rattle.keccak_rnd_value.proofs.shift.times_power.Goals as goal

pub overflow_mul-hi : goal.overflow_mul-hi
overflow_mul-hi c = omega (arith, passed-lt c.args.x.value c.args.power (omega arith))

pub add-requires : goal.add-requires
add-requires c =
    let h = passed-lt c.args.x.value c.args.power (omega arith) in
    omega arith

pub returns : goal.returns
returns c =
    -- the low word itself, or less p
    let low : c.if-lo-lt-P.low % p ≡ c.args.x.value * 2 ^ c.args.power % 2 ^ 64 % p =
    elim c.if-lo-lt-P.branch [ then-lo-lt-P w ↦ ap (λ (n : ℕ). n % p) w.low-is | else-lo-lt-P w ↦ less-p _ _ (omega arith) ] in
    record { product = c.add.ensures.sum ∙ power-law _ _ _ c.requires.1 low; below = c.add.ensures.below }
