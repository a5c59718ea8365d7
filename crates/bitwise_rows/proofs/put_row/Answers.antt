-- `bitwise_rows::put_row` meets its contract: eleven stores, one after the other.
use Prim.Native.Nat.{ℕ, ◌+◌, ◌*◌, ◌/◌, ◌%◌}
use mathlib.Core.Path.{ap₂}
use mathlib.Core.List.{[], ◌∷◌}
use lib.Bits.{bit_xor, bit_and, bit_or}
use lib.Seq.{sets}
use Rattle.bitwise.specs.Row.{row_of_xyz}
use Rattle.bitwise_rows.proofs.put_row.Goals as goal

pub returns : goal.returns
unfolding row_of_xyz
returns c =
    let x = c.args.x in
    let y = c.args.y in
    ap₂
    (λ (w o : ℕ).
    sets c.args.row.now 0
    (x ∷ y ∷ c.args.z ∷ bit_and x y ∷ bit_or x y ∷ bit_xor x y ∷ x / 128 % 2 ∷ (x + y * 256) / 32768 % 2 ∷ o ∷ w % 65536 ∷ w / 65536 ∷ []))
    c.shifted-wide.ensures
    c.is_zero-zero.ensures
