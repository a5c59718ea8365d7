-- `keccak_rnd_counts::lanes::charge_halves` meets its contract: after h turns the first h halfwords are charged.
use Prim.Native.Nat.{◌+◌, ◌*◌}
use Rattle.bits.specs.Bits.{byte_at}
use Rattle.keccak_rnd_counts.specs.Lanes.{one}
use Rattle.keccak_rnd_counts.proofs.Charging.{Parts}
use Rattle.keccak_rnd_counts.proofs.lanes.charge_halves.Given as goal

abbrev pub invariant-loop-h : goal.invariant-loop-h
invariant-loop-h l = Parts 4 (λ h. one ((byte_at l.a (2 * h) + byte_at l.a (2 * h + 1) * 256) * 10 + 3)) l.initial.counters l.counters l.h
