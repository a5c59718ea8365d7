-- `is_wh_rows::joins_last` meets its contract (Filling.antt).
use Rattle.is_wh_rows.proofs.Filling.{no_last, other-code, same_code}
use native.Mathlib.Nat.{pos_of_ne-zero}
use Rattle.is_wh_rows.proofs.joins_last.Goals as goal

pub returns-then-m-eq0 : goal.returns-then-m-eq0
returns-then-m-eq0 c = no_last c.args.loads.now c.args.m c.args.code c.requires c.if-m-eq0.true

pub returns-then-last-code : goal.returns-then-last-code
returns-then-last-code c = other-code c.args.loads.now c.args.m c.args.code c.requires (pos_of_ne-zero c.if-m-eq0.false) c.if-last-code.true

pub returns : goal.returns
returns c = same_code c.args.loads.now c.args.m c.args.code c.requires (pos_of_ne-zero c.if-m-eq0.false) c.if-last-code.false
