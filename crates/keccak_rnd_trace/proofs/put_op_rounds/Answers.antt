use mathlib.Core.Path.{sym, ap, ◌∙◌}
use mathlib.Core.List.{List}
use Prim.Native.Nat.{ℕ, ◌-◌, ◌*◌}
use native.Mathlib.Nat.{zero-add}
use native.Mathlib.Omega.{arith}
use lib.Seq.{sets}
use Rattle.lists.specs.Tab.{table_of}
use Rattle.lists.proofs.Laws.{filled_row_lem, filled-rows, length-table, table-blocks}
use Rattle.keccak.specs.Row.{op_at}
use Rattle.keccak_rnd.specs.Row.{op_row}
use Rattle.keccak_rnd.specs.Parts.{row_after}
use Rattle.keccak_rnd.proofs.Rows.{op-block}
use Rattle.keccak_rnd_trace.proofs.Words.{no_blocks}
use Rattle.keccak_rnd_trace.proofs.put_op_rounds.Invariants.{block_of}
use Rattle.keccak_rnd_trace.proofs.put_op_rounds.Goals as goal

pub loop-i-init : goal.loop-i-init
loop-i-init c = no_blocks _ _ _ _

pub loop-i-preserved : goal.loop-i-preserved
unfolding op_at
loop-i-preserved c =
    let nr = c.args.nr in
    let ops = c.args.ops.now in
    let i = c.loop-i.i in
    let t = c.loop-i.table in
    let w = nr * 1480 in
    filled_row_lem _ w (block_of nr ops) i c.loop-i.invariant c.loop-i-test.true (length-table nr 1480 (op_row nr (op_at ops i))) (sym (zero-add (i * w)))
    (c.put_rounds.ensures
    ∙ ap (λ (z : List ℕ). sets t (i * w) (table_of nr 1480 (row_after (24 - nr) (op_at ops i).timestamp z))) c.lanes_at-lanes.ensures
    ∙ ap (sets t (i * w)) (op-block nr (op_at ops i)))

pub returns : goal.returns
returns c =
    let nr = c.args.nr in
    let ops = c.args.ops.now in
    filled-rows _ (nr * 1480) (block_of nr ops) c.loop-i.i c.loop-i.invariant c.loop-i-test.false
    ∙ ap (sets c.args.table.now 0) (table-blocks c.args.n nr 1480 (λ i j. op_row nr (op_at ops i) j) c.requires.0 (omega arith))
