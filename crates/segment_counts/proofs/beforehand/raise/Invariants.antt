-- `segment_counts::beforehand::raise` meets its contract: after k turns the first k are raised.
use Prim.Native.Nat.{◌+◌}
use Rattle.lists.specs.Tab.{word}
use Rattle.lists.proofs.Laws.{Filled}
use Rattle.segment_counts.specs.Kinds.{larger}
use Rattle.segment_counts.proofs.beforehand.raise.Given as goal

abbrev pub invariant-loop-k : goal.invariant-loop-k
invariant-loop-k l = Filled l.initial.most 0 10 (λ j. larger (word l.initial.most j) (word l.counters (l.at + j))) l.most l.k
