-- `keccak_counts::charge_pairs` meets its contract: after i turns the first i pairs are charged.
use Rattle.keccak_counts.specs.Places.{pair_place}
use Rattle.keccak_counts.proofs.Rows.{Hit}
use Rattle.keccak_counts.proofs.charge_pairs.Given as goal

abbrev pub invariant-loop-i : goal.invariant-loop-i
invariant-loop-i l = Hit (pair_place l.address) l.initial.counters l.counters 4 l.i
