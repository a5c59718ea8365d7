-- `record::put_words` meets its contract: after k turns k bytes are stored.
use Rattle.lists.proofs.Laws.{Filled}
use Rattle.op_list.specs.Record.{word_byte, words_from}
use Rattle.op_list.proofs.record.put_words.Given as goal

abbrev pub invariant-loop-k : goal.invariant-loop-k
invariant-loop-k l = Filled l.initial.bytes l.to l.count (word_byte (words_from l.ops l.at)) l.bytes l.k
