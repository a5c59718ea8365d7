-- `keccak_counts::charge_pointers` meets its contract: after i turns the first i pointers are charged.
use Rattle.keccak_counts.specs.Places.{pointer_place}
use Rattle.keccak_counts.proofs.Rows.{Hit}
use Rattle.keccak_counts.proofs.charge_pointers.Given as goal

abbrev pub invariant-loop-i : goal.invariant-loop-i
invariant-loop-i l = Hit (pointer_place l.address) l.initial.counters l.counters 25 l.i
