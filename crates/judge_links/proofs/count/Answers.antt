use mathlib.Core.Logic.{inl, inr}
use native.Mathlib.Omega.{arith}
use Rattle.judge_scan.proofs.Scan.{wide, rows_as}
use Rattle.judge_tuples.proofs.Ports.{front_fits}
use Rattle.judge_links.proofs.Counting.{counts_start, sends-fit, receives-fit, counts-small, row-added, row-passed, counted_is}
use Rattle.judge_links.proofs.count.Goals as goal

pub nonzero_div-rows : goal.nonzero_div-rows
nonzero_div-rows c = let g = wide c.args.table in omega (arith, c.width_of.ensures)

pub loop-row-init : goal.loop-row-init
loop-row-init c = (counts_start _ _ _, counts_start _ _ _)

pub of_call-requires : goal.of_call-requires
of_call-requires c =
    let h = front_fits _ _ c.requires.1 in
    (omega arith, omega (arith, rows_as _ _ c.width_of.ensures c.args.words.now))

pub row_at-y-requires : goal.row_at-y-requires
row_at-y-requires c = omega (arith, rows_as _ _ c.width_of.ensures c.args.words.now)

pub add-first-requires : goal.add-first-requires
add-first-requires c =
    let y = c.row_at-y.ensures in
    let h = c.requires in
    let l = rows_as _ _ c.width_of.ensures c.args.words.now in
    let n = counts-small _ _ _ _ _ _ _ c.loop-row.invariant.0 (omega arith) (omega arith) in
    (sends-fit _ _ _ _ y _ _ c.sent_by-send.ensures, receives-fit _ _ _ _ y _ c.received_by-receive.ensures, h.1, n.0, n.1)

pub add-second-requires : goal.add-second-requires
add-second-requires c =
    let y = c.row_at-y.ensures in
    let h = c.requires in
    let l = rows_as _ _ c.width_of.ensures c.args.words.now in
    let n = counts-small _ _ _ _ _ _ _ c.loop-row.invariant.1 (omega arith) (omega arith) in
    (sends-fit _ _ _ _ y _ _ c.sent_by-send.ensures, receives-fit _ _ _ _ y _ c.received_by-receive.ensures, h.2, n.0, n.1)

pub loop-row-preserved : goal.loop-row-preserved
loop-row-preserved c =
    let v = c.loop-row.invariant in
    let b = c.of_call.ensures in
    let s = c.sent_by-send.ensures in
    let r = c.received_by-receive.ensures in
    elim c.if-of_call.branch-raw [
      | inl z ↦ (
        row-added _ _ _ _ _ _ b _ _ _ _ v.0 _ z.row_at-y.ensures _ _ s r _ z.if-of_call.true z.first-is z.add-first.ensures,
        row-added _ _ _ _ _ _ b _ _ _ _ v.1 _ z.row_at-y.ensures _ _ s r _ z.if-of_call.true z.second-is z.add-second.ensures,
      )
      | inr z ↦ (
        row-passed _ _ _ _ _ _ b _ _ _ _ v.0 z.if-of_call.false z.first-is,
        row-passed _ _ _ _ _ _ b _ _ _ _ v.1 z.if-of_call.false z.second-is,
      )
    ]

pub returns : goal.returns
returns c =
    let v = c.loop-row.invariant in
    let h = c.requires in
    let e = rows_as _ _ c.width_of.ensures c.args.words.now in
    (counted_is _ _ _ _ _ _ _ _ h.0 (omega arith) (omega arith) v.0, counted_is _ _ _ _ _ _ _ _ h.0 (omega arith) (omega arith) v.1)
