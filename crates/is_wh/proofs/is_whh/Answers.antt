-- `is_whh` meets its contract: one of the template's two tuples.
use Rattle.tuple.proofs.Call.{fits, as-tuple}
use Rattle.is_wh.proofs.Tuples.{pair-sent, low-sent}
use Rattle.is_wh.proofs.is_whh.Goals as goal

pub pair-requires : goal.pair-requires
pair-requires c =
    let args = c.args in
    fits _ (pair-sent args.row.now args.start args.cond args.index c.if-index-eq0.true) c.requires.1

pub send_one-requires : goal.send_one-requires
send_one-requires c =
    let args = c.args in
    fits _ (low-sent args.row.now args.start args.cond args.index c.if-index-eq0.false) c.requires.1

pub returns-then-index-eq0 : goal.returns-then-index-eq0
returns-then-index-eq0 c =
    let args = c.args in
    let t = as-tuple _ (pair-sent args.row.now args.start args.cond args.index c.if-index-eq0.true) c.pair.ensures.answer c.pair.ensures.words in
    record { answer = t.0; words = t.1 }

pub returns-else-index-eq0 : goal.returns-else-index-eq0
returns-else-index-eq0 c =
    let args = c.args in
    let t = as-tuple _ (low-sent args.row.now args.start args.cond args.index c.if-index-eq0.false) c.send_one.ensures.answer c.send_one.ensures.words in
    record { answer = t.0; words = t.1 }
