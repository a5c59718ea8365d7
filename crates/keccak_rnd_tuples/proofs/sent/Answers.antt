-- `keccak_rnd_tuples::sent` meets its contract: the state after the round at ROUND + 1.
use mathlib.Core.Path.{sym, ap, ◌∙◌}
use Prim.Native.Nat.{ℕ}
use Rattle.lists.specs.Tab.{word}
use Rattle.answer.specs.Refusal.{overwrite}
use Rattle.keccak.specs.Tuples.{keccak_values}
use Rattle.tuple.proofs.Call.{as-tuple}
use Rattle.keccak_rnd_tuples.specs.States.{state_word}
use Rattle.keccak_rnd_tuples.proofs.Tuples.{at-sent, sent-interaction}
use Rattle.keccak_rnd_tuples.proofs.sent.Goals as goal

pub returns : goal.returns
returns c =
    let row = c.args.row.now in
    let t = as-tuple _ (at-sent row) (sym (sent-interaction row))
    (c.put_keccak.ensures ∙ ap (λ (r : ℕ). overwrite (keccak_values (word row 0) (word row 1) r (state_word row 1471 1263)) c.args.out.now) c.add-next.ensures.sum) in record { answer = t.0; words = t.1 }
