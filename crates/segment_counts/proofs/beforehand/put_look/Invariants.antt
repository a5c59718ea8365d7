-- `segment_counts::beforehand::put_look` meets its contract: after j turns the first j words are stored.
use Rattle.lists.proofs.Laws.{Filled}
use Rattle.segment_counts.specs.Kinds.{look_word}
use Rattle.segment_counts.proofs.beforehand.put_look.Given as goal

abbrev pub invariant-loop-j : goal.invariant-loop-j
invariant-loop-j l = Filled l.initial.out 0 20 (look_word l.sums l.most) l.out l.j
