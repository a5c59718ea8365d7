-- `judge_within::unbalanced_at` meets its contract, table by table.
use mathlib.Core.Path.{ap, ◌∙◌}
use Prim.Native.Nat.{ℕ, ◌-◌}
use native.Mathlib.Omega.{arith}
use Prim.Native.Nat.{◌/◌, ◌%◌}
use Rattle.verdict.specs.declared.Table.TheVariants.{Round}
use Rattle.verdict.specs.declared.Verdict.TheVariants.{Unbalanced}
use Rattle.judge_within.proofs.Balance.{core-named, round-named}
use Rattle.judge_within.proofs.unbalanced_at.Goals as goal

pub returns-then-p-n : goal.returns-then-p-n
returns-then-p-n c =
    let a = c.args in
    core-named 0 a.core.now a.core.now a.p (omega (arith, c.core_places-n.ensures))

pub returns : goal.returns
returns c =
    let a = c.args in
    let e = c.core_places-n.ensures in
    ap (λ (n : ℕ). Unbalanced Round ((a.p - n) / 2) ((a.p - n) % 2)) e ∙ round-named 0 a.core.now a.core.now a.p (omega (arith, e))
