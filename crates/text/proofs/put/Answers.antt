use lib.ListN.{get_or, set, length-set}
use native.Mathlib.Omega.{arith}
use mathlib.Core.List.{List}
use mathlib.Core.Path.{ap, ◌∙◌}
use Prim.Native.Nat.{ℕ, ◌+◌}
use Rattle.text.proofs.Laws.{put-more}
use Rattle.text.proofs.put.Goals as goal

pub loop-i-preserved : goal.loop-i-preserved
loop-i-preserved c =
    let l = c.loop-i in
    let a = c.args in
    (simp length-set l.invariant.0, ap (λ (t : List ℕ). set t (a.at + l.i) (get_or a.s.now l.i 0)) l.invariant.1 ∙ put-more a.out.now a.s.now a.at l.i c.loop-i-test.true)
