-- `put_theta` meets its contract: the tables are those of the state, so the row's front is.
use mathlib.Core.Path.{ap, ◌∙◌}
use Prim.Native.Nat.{ℕ}
use lib.ListN.{get_or}
use lib.Seq.{sets}
use mir.Syntax.{w64}
use mir.Val.{Fits}
use borrow.Author.Rules.{rules}
use Rattle.bits.specs.Bits.{word_at}
use Rattle.keccak_rnd.proofs.Tables.{left_is, right_is, joins_of, d-is, front_same}
use Rattle.keccak_rnd_row.proofs.put_theta.Goals as goal

pub d_table-d-requires : goal.d_table-d-requires
d_table-d-requires c =
    let s = c.args.s in
    let fits : (i : ℕ) → Fits w64 (get_or s i 0) = λ i. search rules in
    let q = c.cxz_table-cxz.ensures in
    joins_of s (λ i h. (fits i).fits) (left_is s q c.left_table-left.ensures) (right_is s q c.right_table-right.ensures)

pub returns : goal.returns
returns c =
    let s = c.args.s in
    let q = c.cxz_table-cxz.ensures in
    let l = left_is s q c.left_table-left.ensures in
    let r = right_is s q c.right_table-right.ensures in
    let d = d-is s q l r c.d_table-d.ensures in
    record { row = c.put_front.ensures ∙ ap (sets c.args.row.now c.args.at) (front_same (word_at c.args.timestamp) c.args.round s q l r d); d = d }
