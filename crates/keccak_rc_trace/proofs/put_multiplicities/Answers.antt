use mathlib.Core.Path.{◌≡◌, refl, ap, ◌∙◌}
use Prim.Native.Nat.{ℕ}
use native.Mathlib.Omega.{arith}
use Rattle.keccak_rc.specs.Table.{with_mu, times_looked_up, updated}
use Rattle.keccak_rc.proofs.Table.{with_mu-more}
use Rattle.keccak_rc_trace.proofs.put_multiplicities.Goals as goal

pub loop-round-init : goal.loop-round-init
unfolding with_mu
loop-round-init c = refl

pub loop-round-preserved : goal.loop-round-preserved
loop-round-preserved c =
    let a = c.args in
    with_mu-more (times_looked_up a.nr a.n) _ _ _ c.loop-round.invariant c.times_looked_up.ensures

pub returns : goal.returns
unfolding updated
returns c =
    let e : c.loop-round.round ≡ 24 = omega arith in
    c.loop-round.invariant ∙ ap (λ (r : ℕ). with_mu (times_looked_up c.args.nr c.args.n) r c.args.table.now) e
