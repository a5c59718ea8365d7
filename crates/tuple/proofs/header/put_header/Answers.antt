-- `tuple::header::put_header` meets its contract: four stores in a row.
use native.Mathlib.Omega.{arith}
use lib.ListN.{length-set}
use Rattle.tuple.specs.Tuple.{bus_number, side_number}
use Rattle.tuple.proofs.Words.{stores-four}
use Rattle.tuple.proofs.header.put_header.Goals as goal

pub bounds-out-at-2 : goal.bounds-out-at-2
bounds-out-at-2 c = simp length-set (omega arith)

pub bounds-out-at-3 : goal.bounds-out-at-3
bounds-out-at-3 c = simp length-set (omega arith)

pub bounds-out-at-4 : goal.bounds-out-at-4
bounds-out-at-4 c = simp length-set (omega arith)

pub shape_of-out : goal.shape_of-out
shape_of-out c = simp length-set

pub returns : goal.returns
returns c =
    let a = c.args in
    let t = a.tuple in
    rw (c.bus_number.ensures, c.side_number.ensures)
    (stores-four a.out.now a.at (bus_number t.bus) (side_number t.side) t.length t.multiplicity)
