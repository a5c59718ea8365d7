-- `keccak_rnd_byte_tuples::alu_tuple` meets its contract: a byte of each operand of its lane is read and sent.
use Rattle.keccak_rnd_byte_tuples.proofs.Places.{alu-sent}
use Rattle.tuple.proofs.Call.{as-tuple}
use Rattle.keccak_rnd_byte_tuples.proofs.alu_tuple.Goals as goal

pub returns : goal.returns
returns c = let t = as-tuple _ (alu-sent _ _ c.lane_operands-op.ensures c.op_number-number.ensures c.operand_byte-first.ensures c.operand_byte-second.ensures) c.send_alu.ensures.answer c.send_alu.ensures.words in record { answer = t.0; words = t.1 }
