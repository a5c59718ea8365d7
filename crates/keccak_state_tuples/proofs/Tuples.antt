-- What a function answers that wrote the values of a Keccak or a Memw tuple.
use mathlib.Core.Path.{◌≡◌, refl, ap}
use mathlib.Core.List.{List}
use Prim.Native.Nat.{ℕ}
use Rattle.lists.specs.Tab.{word}
use Rattle.tuple.specs.Tuple.{sender, receiver}
use Rattle.tuple.specs.Call.{interaction_of}
use Rattle.tuple.specs.declared.BusInteraction.{BusInteraction}
use Rattle.tuple.specs.declared.Bus.{Bus}
use Rattle.tuple.specs.declared.Bus.TheVariants.{Keccak, Memw}
use Rattle.tuple.specs.declared.Side.{Side}
use Rattle.tuple.specs.declared.Side.TheVariants.{Sender, Receiver}
use Rattle.keccak.specs.Columns.{MU}
use Rattle.keccak.specs.Tuples.{core_sent, core_received, addr_memw, lane_memw}
use Rattle.keccak.proofs.Tuples.{sent-length, received-length, lane-length}

module _ (row : List ℕ) where
  abbrev given : Bus → Side → ℕ → BusInteraction
  given b s n = record { bus = b; side = s; length = n; multiplicity = word row MU }

  pub sent-answer : (nr : ℕ) → given Keccak Sender 203 ≡ interaction_of (sender Keccak (word row MU) (core_sent nr row))
  sent-answer nr = ap (given Keccak Sender) (sent-length row nr)

  pub received-answer : given Keccak Receiver 203 ≡ interaction_of (receiver Keccak (word row MU) (core_received row))
  received-answer = ap (given Keccak Receiver) (received-length row)

  pub addr-answer : given Memw Sender 24 ≡ interaction_of (addr_memw row)
  unfolding addr_memw
  addr-answer = refl

  pub lane-answer : (i : ℕ) → given Memw Sender 24 ≡ interaction_of (lane_memw row i)
  unfolding lane_memw
  lane-answer i = ap (given Memw Sender) (lane-length row i)
