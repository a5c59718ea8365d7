use Rattle.is_wh_rows.proofs.Scan.{ascends-drop, turn-less, turn_in, turn_small, stored-none, turn-room, stored-turn, stored-all}
use native.Mathlib.Omega.{arith}
use Rattle.is_wh_rows.proofs.put_rows.Goals as goal

pub loop-i-init : goal.loop-i-init
loop-i-init c = stored-none _ _

pub run_from-run-requires : goal.run_from-run-requires
run_from-run-requires c = (c.loop-i-test.true, ascends-drop _ c.loop-i.i c.requires.0, c.requires.1)

pub put_key_rows-added-requires : goal.put_key_rows-added-requires
put_key_rows-added-requires c =
    (turn_small _ _ _ _ c.requires.0 c.loop-i-test.true c.run_from-run.ensures c.requires.1, turn-room c.loop-i.invariant c.requires.0 c.loop-i-test.true c.run_from-run.ensures c.requires.2)

pub loop-i-smaller : goal.loop-i-smaller
loop-i-smaller c =
    omega (arith, turn-less _ _ _ _ c.requires.0 c.loop-i-test.true c.run_from-run.ensures, turn_in _ _ _ _ c.requires.0 c.loop-i-test.true c.run_from-run.ensures)

pub loop-i-preserved : goal.loop-i-preserved
loop-i-preserved c =
    let k = c.put_key_rows-added.ensures in
    stored-turn c.loop-i.invariant c.requires.0 c.loop-i-test.true c.run_from-run.ensures k.words k.number

pub returns : goal.returns
returns c =
    let a = stored-all c.loop-i.invariant c.loop-i-test.false in
    record { number = a.0; words = a.1 }
