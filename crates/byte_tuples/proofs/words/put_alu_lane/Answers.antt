use mathlib.Core.Path.{refl}
use native.Mathlib.Omega.{arith}
use Rattle.byte_tuples.proofs.Stored.{listed_start, by_number, listed-one}
use Rattle.tuple.proofs.Words.{listed-all}
use Rattle.byte_tuples.proofs.words.put_alu_lane.Goals as goal

pub loop-z-init : goal.loop-z-init
loop-z-init c = listed_start _ _ _ _

pub loop-z-preserved : goal.loop-z-preserved
loop-z-preserved c = listed-one 4 _ c.loop-z.invariant c.loop-z-test.true refl refl (omega arith) c.put_alu.ensures

pub returns : goal.returns
returns c =
    let s = c.args in
    by_number s.out.now s.at s.multiplicity s.a.now s.b.now s.row.now s.c c.op_number-number.ensures (listed-all c.loop-z.invariant c.loop-z-test.false)
