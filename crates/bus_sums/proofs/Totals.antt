-- Which of the five tables are left in the sum of a side of a bus, by the lines of specs/Buses.antt.
--     sent-total         only the core table, the round table and the IS_WH table send
--     bitwise-total, is-wh-total, constants-total   on a looked-up bus one table alone receives
--     keccak-total       the Keccak bus is between the core table and the round table
use mathlib.Core.List.{List}
use mathlib.Core.Path.{◌≡◌, refl}
use Prim.Native.Nat.{ℕ, ◌+◌}
use native.Mathlib.Omega.{arith}
use Rattle.tuple.specs.declared.Bus.{Bus}
use Rattle.tuple.specs.declared.Bus.TheVariants.{ByteAlu, AreBytes, IsHalfword, IsWh, KeccakRc, Keccak, IsB20}
use Rattle.tuple.specs.declared.Side.{Side}
use Rattle.tuple.specs.declared.Side.TheVariants.{Sender, Receiver}
use Rattle.verdict.specs.CoreAndRound.{core_kind, round_kind}
use Rattle.bus_sums.specs.Buses.{core_line, round_line, is_wh_line, constant_line}
use Rattle.bus_sums.specs.Sums.{Fillings, table_share, bitwise_share, constants_share, is_wh_kind, bus_total}
use Rattle.bus_sums.proofs.Buses.{no-core, no-round, no-is-wh, no-bitwise, no-constants}

-- core rows and round rows receive nothing on a bus
pub record Quiet (b : Bus) : Type 0 where
  pub core : (m : ℕ) → core_line Receiver b m ≡ 0
  pub round : (m : ℕ) → round_line Receiver b m ≡ 0

-- and of the tables that are looked up the bitwise table alone does: so it is on ByteAlu, AreBytes, IsHalfword and IsB20
pub record OnBitwise (b : Bus) : Type 0 where
  pub quiet : Quiet b
  pub is-wh : (m : ℕ) → is_wh_line Receiver b m ≡ 0
  pub constants : (m : ℕ) → constant_line Receiver b m ≡ 0

pub alu-alone : OnBitwise ByteAlu
alu-alone = record { quiet = record { core = λ m. refl; round = λ m. refl }; is-wh = λ m. refl; constants = λ m. refl }

pub bytes-alone : OnBitwise AreBytes
bytes-alone = record { quiet = record { core = λ m. refl; round = λ m. refl }; is-wh = λ m. refl; constants = λ m. refl }

pub half-alone : OnBitwise IsHalfword
half-alone = record { quiet = record { core = λ m. refl; round = λ m. refl }; is-wh = λ m. refl; constants = λ m. refl }

pub twenty-alone : OnBitwise IsB20
twenty-alone = record { quiet = record { core = λ m. refl; round = λ m. refl }; is-wh = λ m. refl; constants = λ m. refl }

module _ (nr : ℕ) (core round : List ℕ) (w : Fillings) (v : List ℕ) where
  abbrev total : Side → Bus → ℕ
  total s b = bus_total nr core round w s b v

  pub sent-total : (b : Bus) → total Sender b ≡ table_share Sender b v (core_kind nr) core + table_share Sender b v round_kind round + table_share Sender b v is_wh_kind w.is-wh
  unfolding bus_total
  sent-total b = omega (arith, no-bitwise Sender b v (λ mu. refl) w.bitwise, no-constants Sender b v (λ m. refl) w.constants)

  pub bitwise-total : (b : Bus) → OnBitwise b → total Receiver b ≡ bitwise_share Receiver b v w.bitwise
  unfolding bus_total
  bitwise-total b o =
      omega (
        arith,
        no-core Receiver b v o.quiet.core nr core,
        no-round Receiver b v o.quiet.round round,
        no-is-wh Receiver b v o.is-wh w.is-wh,
        no-constants Receiver b v o.constants w.constants,
      )

  pub is-wh-total : total Receiver IsWh ≡ table_share Receiver IsWh v is_wh_kind w.is-wh
  unfolding bus_total
  is-wh-total =
      omega (
        arith,
        no-core Receiver IsWh v (λ m. refl) nr core,
        no-round Receiver IsWh v (λ m. refl) round,
        no-bitwise Receiver IsWh v (λ mu. refl) w.bitwise,
        no-constants Receiver IsWh v (λ m. refl) w.constants,
      )

  pub constants-total : total Receiver KeccakRc ≡ constants_share Receiver KeccakRc v w.constants
  unfolding bus_total
  constants-total =
      omega (
        arith,
        no-core Receiver KeccakRc v (λ m. refl) nr core,
        no-round Receiver KeccakRc v (λ m. refl) round,
        no-is-wh Receiver KeccakRc v (λ m. refl) w.is-wh,
        no-bitwise Receiver KeccakRc v (λ mu. refl) w.bitwise,
      )

  pub keccak-total : (s : Side) → total s Keccak ≡ table_share s Keccak v (core_kind nr) core + table_share s Keccak v round_kind round
  unfolding bus_total
  keccak-total Sender = let a = sent-total Keccak in omega (arith, a, no-is-wh Sender Keccak v (λ m. refl) w.is-wh)
  keccak-total Receiver =
      omega (
        arith,
        no-is-wh Receiver Keccak v (λ m. refl) w.is-wh,
        no-bitwise Receiver Keccak v (λ mu. refl) w.bitwise,
        no-constants Receiver Keccak v (λ m. refl) w.constants,
      )
