-- Who sends and who receives on each bus, table by table: to be held beside the five `bus_interactions` of the Rust.
-- A line is what the tuples of one row add to a side of a bus, whatever their values are. proofs/Buses.antt: that each is
-- the sum over the tuples of the row, so on a side of a bus that its line does not name a table has no tuple.
use Rattle.std.specs.Prelude.{ℕ, ◌+◌, ◌*◌, []}
use Rattle.tuple.specs.Tuple.{sender, receiver, on_bus}
use Rattle.tuple.specs.declared.Bus.{Bus}
use Rattle.tuple.specs.declared.Bus.TheVariants.{ByteAlu, AreBytes, IsHalfword, IsWh, KeccakRc, Keccak, Memw}
use Rattle.tuple.specs.declared.Bus.TheVariants.{Ecall, Msb8, Msb16, Zero, IsB20, Hwsl}
use Rattle.tuple.specs.declared.Side.{Side}

module _ (s : Side) (b : Bus) where
  -- what is added by a tuple that is sent m times on the bus c, and by one that is received m times
  abbrev pub sends : Bus → ℕ → ℕ
  sends c m = on_bus s b (sender c m [])

  abbrev pub receives : Bus → ℕ → ℕ
  receives c m = on_bus s b (receiver c m [])

  -- tables/keccak.rs, a core row whose MU is m: 84 tuples. Memw: register x10, then 25 lanes; IsWh and IsHalfword: 25
  -- pointers; ByteAlu: the alignment; AreBytes: the 8 address bytes
  abbrev pub core_line : ℕ → ℕ
  core_line m =
      receives Ecall m + 26 * sends Memw m
      + sends Keccak m + receives Keccak m
      + 25 * sends IsWh m + 25 * sends IsHalfword m
      + sends ByteAlu m + 4 * sends AreBytes m

  -- tables/keccak_rnd.rs, a round row whose MU is m: 1,031 tuples. ByteAlu: 160 of C, 40 of D, 200 of theta, 200 AND and
  -- 200 XOR of chi, 8 of iota; AreBytes: 20 of CXZ_LEFT, 200 of ROT_LEFT and ROT_RIGHT, once each whatever MU is
  abbrev pub round_line : ℕ → ℕ
  round_line m =
      receives Keccak m + sends Keccak m
      + sends KeccakRc m + 808 * sends ByteAlu m + 220 * sends AreBytes 1

  -- tables/is_wh.rs, an IS_WH row whose MU is m: 5 tuples. "IS_B20[μ] ×1: bounds μ", "IS_HALF[value[i]] ×μ", and the pair
  abbrev pub is_wh_line : ℕ → ℕ
  is_wh_line m = sends IsB20 1 + 3 * sends IsHalfword m + receives IsWh m

  -- tables/bitwise.rs, a bitwise row whose multiplicity of kind k is mu k: 10 tuples
  abbrev pub bitwise_line : (ℕ → ℕ) → ℕ
  bitwise_line mu =
      receives Msb8 (mu 0) + receives Msb16 (mu 1) + receives Zero (mu 2)
      + receives AreBytes (mu 3) + receives IsHalfword (mu 4) + receives IsB20 (mu 5) + receives Hwsl (mu 6)
      + receives ByteAlu (mu 7) + receives ByteAlu (mu 8) + receives ByteAlu (mu 9)

  -- tables/keccak_rc.rs, a row of constants whose MU is m: "Single receiver on the KeccakRc bus."
  abbrev pub constant_line : ℕ → ℕ
  constant_line m = receives KeccakRc m
