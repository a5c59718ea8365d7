-- `keccak_rnd_terms::put_not_pi` meets its contract: after k turns the first k bytes are stored, behind those that are read.
use Prim.Native.Nat.{◌+◌}
use Rattle.field.specs.Field.{fsub}
use Rattle.lists.proofs.Laws.{Filled}
use Rattle.lists.specs.Tab.{word}
use Rattle.keccak_rnd_terms.proofs.put_not_pi.Given as goal

abbrev pub invariant-loop-k : goal.invariant-loop-k
invariant-loop-k l = Filled l.initial.out 240 200 (λ j. fsub 255 (word l.initial.out (40 + j))) l.out l.k
