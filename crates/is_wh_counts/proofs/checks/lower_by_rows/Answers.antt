use mathlib.Core.Path.{◌≡◌, refl, sym, ap, ◌∙◌}
use mathlib.Core.List.{List}
use Prim.Native.Nat.{ℕ, ◌+◌, ◌*◌}
use native.Mathlib.Numerals.{add-one}
use native.Mathlib.Omega.{arith}
use Rattle.lists.specs.Tab.{word}
use Rattle.is_wh_counts.specs.Steps.{lower_by_row, lower_by_rows}
use Rattle.is_wh_counts.proofs.Charging.{good-row}
use Rattle.is_wh_counts.proofs.checks.lower_by_rows.Goals as goal

-- a turn
next : (rows C : List ℕ) (i : ℕ) {least more : ℕ} → least ≡ lower_by_rows rows C i → more ≡ lower_by_row C (word rows (3 * i)) (word rows (3 * i + 1)) (word rows (3 * i + 2)) least
    → more ≡ lower_by_rows rows C (i + 1)
unfolding lower_by_rows
next rows C i e q =
    q ∙ ap (lower_by_row C (word rows (3 * i)) (word rows (3 * i + 1)) (word rows (3 * i + 2))) e ∙ ap (lower_by_rows rows C) (sym (add-one i))

pub loop-i-init : goal.loop-i-init
unfolding lower_by_rows
loop-i-init c = (omega arith, refl)

pub lower_by_row-least-requires : goal.lower_by_row-least-requires
lower_by_row-least-requires c =
    let g = good-row c.args.rows.now c.requires.0 c.loop-i.i (omega (arith, c.requires.1)) in
    (c.requires.2, g.0, g.1, g.2)

pub loop-i-preserved : goal.loop-i-preserved
loop-i-preserved c =
    (omega arith, next c.args.rows.now c.args.counters.now c.loop-i.i c.loop-i.invariant.1 c.lower_by_row-least.ensures)

pub returns : goal.returns
returns c =
    let l = c.loop-i in
    let e : l.i ≡ c.args.n = omega arith in
    l.invariant.1 ∙ ap (lower_by_rows c.args.rows.now c.args.counters.now) e
