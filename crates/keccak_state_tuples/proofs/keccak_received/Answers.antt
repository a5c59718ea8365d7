-- `keccak_state_tuples::keccak_received` meets its contract: the values of OUTPUT.
use Rattle.keccak_state_tuples.proofs.Tuples.{received-answer}
use Rattle.keccak.specs.Tuples.{core_received}
use Rattle.keccak_state_tuples.proofs.keccak_received.Goals as goal

pub returns : goal.returns
unfolding core_received
returns c = record { answer = received-answer c.args.row.now; words = c.put_keccak_values.ensures }
