-- `op_sums::sum_up` meets its contract: the heights and the multiples of n.
use Prim.Native.Nat.{◌*◌}
use native.Mathlib.Omega.{arith}
use Rattle.keccak.proofs.Height.{height-ge, height-le}
use Rattle.op_file.specs.Reader.{counts_of}
use Rattle.op_sums.proofs.sum_up.Goals as goal

pub padding-requires : goal.padding-requires
padding-requires c =
    let h = c.table_height-round_rows.ensures in
    let n = c.args.n in
    let floor = c.args.floor in
    let pre = c.requires in
    (pre.1, omega (arith, h, height-ge floor (n * 24)), omega (arith, h, height-le floor (n * 24), pre.0, pre.1))

pub returns : goal.returns
unfolding counts_of
returns c = let e = c.padding.ensures.0 _ c.table_height-round_rows.ensures in cc
