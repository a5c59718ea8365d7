use Rattle.is_wh_rows.specs.Rows.{key_code}
use Rattle.is_wh_rows.proofs.Keys.{word_small, half-small}
use Rattle.is_wh_rows.proofs.Filling.{loaded-none, loaded-more, loaded-all}
use mathlib.Core.Path.{refl}
use native.Mathlib.Omega.{arith}
use Rattle.is_wh_rows.proofs.put_loads.Goals as goal

pub loop-i-init : goal.loop-i-init
loop-i-init c = loaded-none _ _ _

pub overflow_mul-keys : goal.overflow_mul-keys
overflow_mul-keys c =
    let i = c.loop-i.i in
    omega (arith, word_small c.args.keys.now c.requires.1 i (omega arith))

pub overflow_add-keys : goal.overflow_add-keys
overflow_add-keys c =
    let i = c.loop-i.i in
    omega (arith, word_small c.args.keys.now c.requires.1 i (omega arith), half-small c.args.keys.now c.requires.1 i (omega arith))

pub put_load-m-requires : goal.put_load-m-requires
put_load-m-requires c =
    let i = c.loop-i.i in
    (omega arith, omega (arith, word_small c.args.keys.now c.requires.1 i (omega arith), half-small c.args.keys.now c.requires.1 i (omega arith)))

pub loop-i-preserved : goal.loop-i-preserved
unfolding key_code
loop-i-preserved c =
    loaded-more _ c.loop-i.invariant c.requires.0 c.loop-i-test.true refl c.put_load-m.ensures.number c.put_load-m.ensures.loads

pub returns : goal.returns
returns c =
    let a = loaded-all c.loop-i.invariant c.loop-i-test.false in
    record { number = a.0; loads = a.1 }
