-- `round_constant` meets its contract: it reads the tested table below 24.
use mathlib.Core.Path.{sym, ◌∙◌}
use Prim.Native.Nat.{◌<◌}
use native.Mathlib.Omega.{arith}
use Rattle.fips202.proofs.Tables.{constant-below, constant-past}
use Rattle.fips202.proofs.round_constant.Goals as goal

pub returns-then-r-lt-ROUNDS : goal.returns-then-r-lt-ROUNDS
returns-then-r-lt-ROUNDS c =
    let r = c.args.r in
    let below : r < 24 = omega arith in
    c.constants-t.ensures.at r below ∙ sym (constant-below r below)

pub returns : goal.returns
returns c = sym (constant-past c.args.r (omega arith))
