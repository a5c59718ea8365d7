-- As many operations are read as were written: there is one, and all of them fit the list, which is as long as before.
use Rattle.std.proofs.Common.{length, sym, ◌∙◌, arith}
use lib.Seq.{length-take-le}
use Rattle.message.proofs.Refusals.{number-told}
use Rattle.vectors.proofs.print_written.Goals as goal

pub overflow_mul-n : goal.overflow_mul-n
overflow_mul-n g c =
    let h = number-told (length c.args.ops.now) c.args.message.now 4096 5 (sym c.in-Ok.is ∙ c.message_operations.ensures.answer) in
    omega (arith, h.0, h.1.long)

pub slice_bounds-judge_message-end : goal.slice_bounds-judge_message-end
slice_bounds-judge_message-end g c =
    let h = number-told (length c.args.ops.now) c.args.message.now 4096 5 (sym c.in-Ok.is ∙ c.message_operations.ensures.answer) in
    omega (arith, h.0, h.1.long)

pub slice_bounds-judge_message-end-in-Ok : goal.slice_bounds-judge_message-end-in-Ok
slice_bounds-judge_message-end-in-Ok g c =
    let h = number-told (length c.args.ops.now) c.args.message.now 4096 5 (sym c.in-Ok.is ∙ c.message_operations.ensures.answer) in
    sym (length-take-le _ _ (omega (arith, h.0, h.1.long)))

pub print_last-requires : goal.print_last-requires
print_last-requires g c =
    let h = number-told (length c.args.ops.now) c.args.message.now 4096 5 (sym c.in-Ok.is ∙ c.message_operations.ensures.answer) in
    (omega (arith, h.0), omega (arith, h.0, h.1.long))
