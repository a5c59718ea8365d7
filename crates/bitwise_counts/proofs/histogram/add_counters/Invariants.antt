-- `bitwise_counts::histogram::add_counters` meets its contract: after k turns the first k are summed.
use Rattle.lists.specs.Tab.{word}
use Rattle.lists.proofs.Laws.{Filled}
use Rattle.field.specs.Field.{fadd}
use Rattle.bitwise_counts.proofs.histogram.add_counters.Given as goal

abbrev pub invariant-loop-k : goal.invariant-loop-k
invariant-loop-k l = Filled l.initial.counters 0 10485760 (λ j. fadd (word l.initial.counters j) (word l.other j)) l.counters l.k
