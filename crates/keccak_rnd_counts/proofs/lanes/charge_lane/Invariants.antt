-- `keccak_rnd_counts::lanes::charge_lane` meets its contract: after z turns the first z bytes are charged.
use Prim.Native.Nat.{◌+◌, ◌*◌, ◌<◌}
use Rattle.bits.specs.Bits.{byte_at}
use Rattle.keccak_rnd_counts.specs.Lanes.{one}
use Rattle.keccak_rnd_counts.proofs.Charging.{Parts}
use Rattle.keccak_rnd_counts.proofs.lanes.charge_lane.Given as goal

abbrev pub invariant-loop-z : goal.invariant-loop-z
invariant-loop-z l = (l.kind < 10) × Parts 8 (λ z. one ((byte_at l.a z + byte_at l.b z * 256) * 10 + l.kind)) l.initial.counters l.counters l.z
