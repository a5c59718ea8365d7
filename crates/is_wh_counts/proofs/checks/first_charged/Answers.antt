-- `is_wh_counts::checks::first_charged` meets its contract: the rows, then the padding (Searching.antt).
use mathlib.Core.Path.{ap, ◌∙◌}
use Prim.Native.Nat.{◌-◌, ◌/◌}
use native.Mathlib.Omega.{arith}
use lib.ListN.{length}
use Rattle.keccak.proofs.Height.{height-ge}
use Rattle.is_wh_counts.specs.Steps.{lower_some}
use Rattle.is_wh_counts.proofs.Searching.{search-at, search-nowhere, nothing-charged}
use Rattle.is_wh_counts.proofs.checks.first_charged.Goals as goal

pub returns-then-n-eq0 : goal.returns-then-n-eq0
returns-then-n-eq0 c = let a = c.args in nothing-charged a.rows.now a.counters.now c.if-n-eq0.true

pub overflow_sub-h : goal.overflow_sub-h
overflow_sub-h c =
    omega (arith, c.table_height-h.ensures, height-ge 4 (length c.args.rows.now / 3))

pub returns-then-first-lt-NUM_COUNTERS : goal.returns-then-first-lt-NUM_COUNTERS
returns-then-first-lt-NUM_COUNTERS c =
    let C = c.args.counters.now in
    let n = length c.args.rows.now / 3 in
    search-at c.args.rows.now C c.requires.0 c.if-n-eq0.false c.table_height-h.ensures
    (c.lower_some-first.ensures ∙ ap (lower_some C 5 (c.table_height-h.result - n)) c.lower_by_rows-least.ensures) c.if-first-lt-NUM_COUNTERS.true

pub returns : goal.returns
returns c =
    let C = c.args.counters.now in
    let n = length c.args.rows.now / 3 in
    search-nowhere c.args.rows.now C c.requires.0 c.if-n-eq0.false c.table_height-h.ensures
    (c.lower_some-first.ensures ∙ ap (lower_some C 5 (c.table_height-h.result - n)) c.lower_by_rows-least.ensures) c.if-first-lt-NUM_COUNTERS.false
