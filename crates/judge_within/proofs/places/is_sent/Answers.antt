-- `judge_within::places::is_sent` meets its contract, table by table.
use mathlib.Core.Path.{ap, ◌∙◌}
use Prim.Native.Nat.{ℕ, ◌-◌, ◌%◌}
use native.Mathlib.Omega.{arith}
use lib.Dec.{eqb}
use Rattle.judge_within.proofs.Wanted.{core-sent, round-sent}
use Rattle.judge_within.proofs.places.is_sent.Goals as goal

pub returns-then-p-n : goal.returns-then-p-n
returns-then-p-n c =
    let a = c.args in
    core-sent a.core.now a.core.now a.p (omega (arith, c.core_places-n.ensures))

pub returns : goal.returns
returns c =
    let a = c.args in
    let e = c.core_places-n.ensures in
    ap (λ (n : ℕ). eqb ((a.p - n) % 2) 1) e ∙ round-sent a.core.now a.core.now a.p (omega (arith, e))
