use Rattle.text.proofs.Laws.{room, digit-more, digit-last}
use Rattle.text.proofs.Numbers.{decimal-digits}
use Rattle.text.specs.Text.{decimal_of}
use lib.ListN.{length-set}
use native.Mathlib.Omega.{arith}
use mathlib.Core.List.{append-nil}
use mathlib.Core.Path.{sym, refl, ◌∙◌}
use Rattle.text.proofs.decimal.Goals as goal

pub loop-rest-init : goal.loop-rest-init
loop-rest-init c = (omega arith, refl, omega arith, decimal-digits 19 c.args.n (omega arith) ∙ sym (append-nil _))

pub overflow_sub-i : goal.overflow_sub-i
overflow_sub-i c = let lp = c.loop-rest in omega (arith, room lp.i lp.rest lp.invariant.2 c.loop-rest-test.true)

pub loop-rest-preserved : goal.loop-rest-preserved
loop-rest-preserved c =
    let lp = c.loop-rest in
    let h = c.loop-rest-test.true in
    let m = digit-more (decimal_of c.args.n) lp.bytes lp.i lp.rest c.low.result (room lp.i lp.rest lp.invariant.2 h) (omega arith) h c.low.ensures lp.invariant.2 lp.invariant.3 in
    (omega arith, simp length-set lp.invariant.1, m.0, m.1)

pub returns : goal.returns
returns c =
    let lp = c.loop-rest in
    (simp length-set lp.invariant.1, omega arith, digit-last (decimal_of c.args.n) lp.bytes lp.i lp.rest c.low-2.result (omega arith) c.loop-rest-test.false c.low-2.ensures lp.invariant.3)
