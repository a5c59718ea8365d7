-- `is_wh_rows::put_load` meets its contract: the last load one larger, or a new one (Filling.antt).
use Rattle.is_wh_rows.proofs.Filling.{joins-says, stored-larger, stored-new}
use mathlib.Core.Path.{sym, ◌∙◌}
use native.Mathlib.Omega.{arith}
use Rattle.is_wh_rows.proofs.put_load.Goals as goal

pub overflow_sub-count : goal.overflow_sub-count
overflow_sub-count c =
    (joins-says c.args.out.now c.args.m c.args.code (omega arith) (sym c.if-joins_last.true ∙ c.joins_last.ensures)).some

pub overflow_add-out : goal.overflow_add-out
overflow_add-out c =
    omega (arith, (joins-says c.args.out.now c.args.m c.args.code (omega arith) (sym c.if-joins_last.true ∙ c.joins_last.ensures)).free)

pub overflow_sub-out : goal.overflow_sub-out
overflow_sub-out c =
    (joins-says c.args.out.now c.args.m c.args.code (omega arith) (sym c.if-joins_last.true ∙ c.joins_last.ensures)).some

pub returns-then-joins_last : goal.returns-then-joins_last
returns-then-joins_last c =
    let a = stored-larger c.args.out.now c.args.m c.args.code (omega arith) (sym c.if-joins_last.true ∙ c.joins_last.ensures) in
    record { number = a.0; loads = a.1 }

pub returns : goal.returns
returns c =
    let a = stored-new c.args.out.now c.args.m c.args.code (omega arith) c.requires.0 (sym c.if-joins_last.false ∙ c.joins_last.ensures) in
    record { number = a.0; loads = a.1 }
