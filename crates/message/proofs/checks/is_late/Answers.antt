-- `is_late` meets its contract: the last timestamp is compared without a sum.
use mathlib.Core.Path.{ap, ◌∙◌}
use Prim.Native.Nat.{ℕ, ◌-◌, ◌+◌, ◌^◌}
use native.Mathlib.Omega.{arith}
use lib.Dec.{leb}
use Rattle.message.specs.Message.{is_late}
use Rattle.message.proofs.Late.{late_is}
use Rattle.message.proofs.checks.is_late.Goals as goal

pub returns : goal.returns
unfolding is_late
returns c =
    late_is (c.block_count.result - 1) c.args.timestamp (omega arith)
    ∙ ap (λ (n : ℕ). leb (2 ^ 64) (c.args.timestamp + (n - 1))) c.block_count.ensures
