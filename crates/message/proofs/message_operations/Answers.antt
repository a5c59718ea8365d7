-- `message_operations` meets its contract: the checks, then the list.
use mathlib.Core.Path.{sym, ◌∙◌}
use native.Mathlib.Omega.{arith}
use lib.ListN.{length}
use Rattle.answer.proofs.Laws.{handed-on, number-refused, number_is, kept, written, is-refused, is-done, sets-overwrite}
use Rattle.message.specs.Message.{message_list}
use Rattle.message.proofs.Message.{length-list}
use Rattle.message.proofs.Refusals.{message-accepted}
use Rattle.message.proofs.message_operations.Goals as goal

pub returns-in_err-check_message : goal.returns-in_err-check_message
returns-in_err-check_message c =
    let e = is-refused _ (sym c.in_err-check_message.was ∙ c.check_message.ensures) in
    record { answer = handed-on _ c.from_residual.ensures.1 ∙ number-refused _ e; words = kept _ _ e }

pub put_list-requires : goal.put_list-requires
put_list-requires c =
    let a = c.args in
    let k = (message-accepted (length a.ops.now) a.message.now a.address a.timestamp).0 (is-done _ (sym c.in_ok-check_message.was ∙ c.check_message.ensures)) in
    (omega (arith, k.long), omega (arith, k.stamps))

pub returns : goal.returns
returns c =
    let a = c.args in
    let clear = is-done _ (sym c.in_ok-check_message.was ∙ c.check_message.ensures) in
    let k = (message-accepted (length a.ops.now) a.message.now a.address a.timestamp).0 clear in
    record {
      answer = number_is clear c.block_count.ensures;
      words =
          written _ clear
          (c.put_list.ensures
          ∙ sets-overwrite a.ops.now (message_list a.message.now a.address a.timestamp) (omega (arith, k.long, length-list a.message.now a.address a.timestamp)));
    }
