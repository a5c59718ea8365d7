-- `keccak_rnd_tuples::received` meets its contract: START at ROUND.
use mathlib.Core.Path.{sym}
use Rattle.tuple.proofs.Call.{as-tuple}
use Rattle.keccak_rnd_tuples.proofs.Tuples.{at-received, received-interaction}
use Rattle.keccak_rnd_tuples.proofs.received.Goals as goal

pub returns : goal.returns
returns c = let t = as-tuple _ (at-received c.args.row.now) (sym (received-interaction c.args.row.now)) c.put_keccak.ensures in record { answer = t.0; words = t.1 }
