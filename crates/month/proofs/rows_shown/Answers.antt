-- `month::rows_shown` meets its contract: of no file 0 and 0, else the rows of the best.
use mathlib.Core.Path.{sym, ap}
use native.Mathlib.Omega.{arith}
use Rattle.month.specs.Month.{shown, used_at, total_at}
use Rattle.month.proofs.Fullness.{shown-best, shown-none, shown-some}
use Rattle.month.proofs.rows_shown.Goals as goal

pub returns-then-counts-eq0 : goal.returns-then-counts-eq0
returns-then-counts-eq0 c =
    let e = shown-none c.args.full c.args.nr c.args.floor c.args.counts.now c.if-counts-eq0.true in
    (sym (ap (shown (used_at c.args.nr c.args.counts.now)) e), sym (ap (shown (total_at c.args.nr c.args.floor c.args.counts.now)) e))

-- the best is in the list
pub offset_bounds-counts-i : goal.offset_bounds-counts-i
offset_bounds-counts-i c = omega (arith, ((shown-best _ _ _ _ _).0 c.first_unbeaten-i.ensures).there)

pub bounds-counts-i : goal.bounds-counts-i
bounds-counts-i c = ((shown-best _ _ _ _ _).0 c.first_unbeaten-i.ensures).there

pub rows_of-requires : goal.rows_of-requires
rows_of-requires c =
    let p = c.requires in
    (p.most-rounds, p.power, p.each _ ((shown-best _ _ _ _ _).0 c.first_unbeaten-i.ensures).there)

pub returns : goal.returns
returns c =
    let e = c.first_unbeaten-i.ensures in
    (shown-some _ _ e c.rows_of.ensures.0, shown-some _ _ e c.rows_of.ensures.1)
