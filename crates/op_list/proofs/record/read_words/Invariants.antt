-- `record::read_words` meets its contract: after j turns j words are stored.
use lib.ListN.{drop}
use Rattle.lists.proofs.Laws.{Filled}
use Rattle.op_file.specs.File.{record_word}
use Rattle.op_list.proofs.record.read_words.Given as goal

abbrev pub invariant-loop-j : goal.invariant-loop-j
invariant-loop-j l = Filled l.initial.ops l.at 52 (record_word (drop l.from l.bytes)) l.ops l.j
