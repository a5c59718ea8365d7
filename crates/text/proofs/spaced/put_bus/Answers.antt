-- `spaced::put_bus` meets its contract: the name is found by the number of the bus, then stored.
use Prim.Native.Nat.{ℕ}
use mathlib.Core.Path.{ap}
use mathlib.Core.List.{List, [], ◌∷◌}
use native.Mathlib.Omega.{arith}
use lib.ListN.{length}
use Rattle.text.specs.Text.{spaced}
use Rattle.text.proofs.Laws.{puts-as}
use Rattle.text.proofs.Buses.{number-below, name-most, length_at, name-at}
use Rattle.text.proofs.spaced.put_bus.Goals as goal

pub overflow_mul-from : goal.overflow_mul-from
overflow_mul-from c = omega (arith, c.bus_number-n.ensures, number-below c.args.bus)

pub offset_bounds-sizes-n : goal.offset_bounds-sizes-n
offset_bounds-sizes-n c = omega (arith, c.bus_number-n.ensures, number-below c.args.bus)

pub bounds-sizes-n : goal.bounds-sizes-n
bounds-sizes-n c = omega (arith, c.bus_number-n.ensures, number-below c.args.bus)

pub overflow_add-end : goal.overflow_add-end
overflow_add-end c =
    let b = c.args.bus in
    let e = c.bus_number-n.ensures in
    omega (arith, e, number-below b, length_at b _ e c.lengths-sizes.result c.lengths-sizes.ensures.1, name-most b)

pub slice_bounds-put_word-end : goal.slice_bounds-put_word-end
slice_bounds-put_word-end c =
    let b = c.args.bus in
    let e = c.bus_number-n.ensures in
    omega (arith, e, number-below b, length_at b _ e c.lengths-sizes.result c.lengths-sizes.ensures.1, name-most b, c.names-bytes.ensures.0)

pub put_word-requires : goal.put_word-requires
put_word-requires c =
    let b = c.args.bus in
    let s = c.lengths-sizes in
    let t = c.names-bytes in
    omega (arith, name-most b, ap length (name-at b _ c.bus_number-n.ensures s.result s.ensures.1 t.result t.ensures.1))

pub returns : goal.returns
returns c =
    let b = c.args.bus in
    let s = c.lengths-sizes in
    let t = c.names-bytes in
    let p = c.put_word.ensures in
    let q = name-at b _ c.bus_number-n.ensures s.result s.ensures.1 t.result t.ensures.1 in
    (puts-as p.0 (ap (λ (w : List ℕ). spaced (w ∷ [])) q), omega (arith, p.1, ap length q, name-most b))
