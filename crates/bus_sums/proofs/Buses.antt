-- The lines of specs/Buses.antt are what the tuples of a row have on a side of a bus, and which tables they leave in a sum.
--     core-line .. constant-line       a line is the sum over the tuples of a row
--     core-most, round-most, is-wh-most   and its most, by MU; bitwise-none, constant-none   nothing where nothing is looked up
--     no-core, no-round, no-is-wh, no-bitwise, no-constants   a table whose line is 0 adds nothing
use mathlib.Core.Bool.{◌&&◌}
use mathlib.Core.List.{List}
use mathlib.Core.Path.{◌≡◌, refl, ap, ◌∙◌}
use Prim.Native.Nat.{ℕ, ◌+◌, ◌*◌, ◌≤◌, ◌<◌}
use native.Mathlib.Omega.{arith}
use Rattle.lists.specs.Tab.{word, tab, tab_from}
use Rattle.lists.specs.Sum.{sum_below}
use Rattle.lists.proofs.Sum.{sum-part, sum-const}
use Rattle.tuple.specs.Tuple.{Tuple, on_bus, bus_sum, same_side, same_bus}
use Rattle.tuple.specs.declared.Bus.{Bus}
use Rattle.tuple.specs.declared.Bus.TheVariants.{ByteAlu, AreBytes, IsHalfword, IsWh, KeccakRc, Keccak, Memw, Ecall, Msb8, Msb16, Zero, IsB20, Hwsl}
use Rattle.tuple.specs.declared.Side.{Side}
use Rattle.tuple.specs.declared.Side.TheVariants.{Sender, Receiver}
use Rattle.is_wh.specs.Tuples.{is_wh_tuple}
use Rattle.bitwise.specs.Row.{bitwise_row, row_of_xyz}
use Rattle.bitwise.specs.Tuples.{kind_at}
use Rattle.keccak_rc.specs.Tuples.{rc_tuple}
use Rattle.keccak_rc.proofs.Found.{rc-tuple}
use Rattle.keccak.specs.Tuples.{core_tuple}
use Rattle.keccak.proofs.Sums.{row-sum as core-sum}
use Rattle.keccak_rnd.specs.Tuples.{round_tuple}
use Rattle.keccak_rnd.proofs.Sums.{row-sum as round-sum}
use Rattle.verdict.specs.CoreAndRound.{core_kind, round_kind}
use Rattle.bus_sums.specs.Buses.{sends, receives, core_line, round_line, is_wh_line, bitwise_line, constant_line}
use Rattle.bus_sums.specs.Sums.{tuple_at, table_share, bitwise_at, bitwise_share, constant_at, constants_share, is_wh_kind}
use Rattle.bus_sums.proofs.Shares.{pick-le, no_line}

module _ (s : Side) (b : Bus) where
  -- ---- the lines
  pub core-line : (nr : ℕ) (x : List ℕ) → bus_sum s b 84 (core_tuple nr 0 x) ≡ core_line s b (word x 485)
  core-line nr x = core-sum s b x nr 0 ∙ omega arith

  pub round-line : (x : List ℕ) → bus_sum s b 1031 (round_tuple x) ≡ round_line s b (word x 1479)
  round-line x = round-sum s b x

  pub is-wh-line : (x : List ℕ) → bus_sum s b 5 (is_wh_tuple x) ≡ is_wh_line s b (word x 3)
  unfolding bus_sum is_wh_tuple
  is-wh-line x =
      sum-part (on_bus s b) 1 4 _ _ _ _ (λ i. refl)
      (sum-part (on_bus s b) 3 1 _ _ _ _ (λ i. refl)
      (sum-const 1 (receives s b IsWh (word x 3))))
      ∙ omega arith

  pub bitwise-line : (mu : ℕ → ℕ → ℕ) (i : ℕ) → bus_sum s b 10 (bitwise_at mu i) ≡ bitwise_line s b (mu i)
  unfolding bus_sum sum_below bitwise_at kind_at bitwise_row row_of_xyz tab tab_from
  bitwise-line mu i = omega arith

  pub constant-line : (mu : ℕ → ℕ) (r : ℕ) → bus_sum s b 1 (constant_at mu r) ≡ constant_line s b (mu r)
  unfolding bus_sum sum_below constant_at rc_tuple
  constant-line mu r = ap (λ (t : Tuple). 0 + on_bus s b t) (rc-tuple _ (mu r)) ∙ omega arith

  -- ---- their most
  sends-le : (c : Bus) (m : ℕ) → sends s b c m ≤ m
  sends-le c m = pick-le (same_side s Sender && same_bus b c) m

  receives-le : (c : Bus) (m : ℕ) → receives s b c m ≤ m
  receives-le c m = pick-le (same_side s Receiver && same_bus b c) m

  pub core-most : (m : ℕ) → m < 2 → core_line s b m ≤ 84
  core-most m l = omega (arith, receives-le Ecall m, sends-le Memw m, sends-le Keccak m, receives-le Keccak m, sends-le IsWh m, sends-le IsHalfword m, sends-le ByteAlu m, sends-le AreBytes m)

  pub round-most : (m : ℕ) → m < 2 → round_line s b m ≤ 1031
  round-most m l = omega (arith, receives-le Keccak m, sends-le Keccak m, sends-le KeccakRc m, sends-le ByteAlu m, sends-le AreBytes 1)

  pub is-wh-most : (m c : ℕ) → m ≤ c → is_wh_line s b m ≤ 1 + 4 * c
  is-wh-most m c l = omega (arith, sends-le IsB20 1, sends-le IsHalfword m, receives-le IsWh m)

  pub bitwise-none : bitwise_line s b (λ k. 0) ≡ 0
  bitwise-none = omega (arith, receives-le Msb8 0, receives-le Msb16 0, receives-le Zero 0, receives-le AreBytes 0, receives-le IsHalfword 0, receives-le IsB20 0, receives-le Hwsl 0, receives-le ByteAlu 0)

  pub constant-none : constant_line s b 0 ≡ 0
  constant-none = let a = receives-le KeccakRc 0 in omega (arith, a)

  -- ---- tables that add nothing
  module _ (v : List ℕ) where
    pub no-core : ((m : ℕ) → core_line s b m ≡ 0) → (nr : ℕ) (core : List ℕ) → table_share s b v (core_kind nr) core ≡ 0
    unfolding tuple_at
    no-core h nr core = no_line s b v _ 84 (tuple_at (core_kind nr) core) (λ r l. core-line nr _ ∙ h _)

    pub no-round : ((m : ℕ) → round_line s b m ≡ 0) → (round : List ℕ) → table_share s b v round_kind round ≡ 0
    unfolding tuple_at
    no-round h round = no_line s b v _ 1031 (tuple_at round_kind round) (λ r l. round-line _ ∙ h _)

    pub no-is-wh : ((m : ℕ) → is_wh_line s b m ≡ 0) → (ws : List ℕ) → table_share s b v is_wh_kind ws ≡ 0
    unfolding tuple_at
    no-is-wh h ws = no_line s b v _ 5 (tuple_at is_wh_kind ws) (λ r l. is-wh-line _ ∙ h _)

    pub no-bitwise : ((mu : ℕ → ℕ) → bitwise_line s b mu ≡ 0) → (mu : ℕ → ℕ → ℕ) → bitwise_share s b v mu ≡ 0
    no-bitwise h mu = no_line s b v 1048576 10 (bitwise_at mu) (λ r l. bitwise-line mu r ∙ h (mu r))

    pub no-constants : ((m : ℕ) → constant_line s b m ≡ 0) → (mu : ℕ → ℕ) → constants_share s b v mu ≡ 0
    no-constants h mu = no_line s b v 32 1 (constant_at mu) (λ r l. constant-line mu r ∙ h (mu r))
