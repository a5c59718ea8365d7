-- The buses as a prover checks them: on each, and for every list of values, the multiplicities with which it is sent
-- and those with which it is received have the same sum mod p. All tables on these buses are added up: the core
-- table, the round table, and the three tables that are looked up, whose multiplicities a prover chooses.
--     share, shares     what a tuple, and what the rows of a table, add to a sum
--     Fillings          what a prover writes into the tables that are looked up
--     Agree             the sums of a bus agree for given values
--     SumsHold          what is supposed: constraints, sums, and few rows
--     Filled            there are words to write there for which it holds
-- Who sends and receives on which bus: Buses.antt. What follows: proofs/Receipt.antt (both tables pass their lookups
-- and the Keccak bus balances; and where they do, there are such fillings). Why IsB20, MU a bit and few rows are asked
-- for: bus_sums_needs/proofs.
use Rattle.std.specs.Prelude.{◌≡◌, List, [], ◌∷◌, ◌++◌, ℕ, ◌+◌, ◌%◌, ◌^◌, ◌≤◌, ◌<◌}
use Rattle.lists.specs.Tab.{pick, tab}
use Rattle.lists.specs.Sum.{sum_below}
use Rattle.lists.specs.Select.{words_test}
use Rattle.field.specs.Field.{p}
use Rattle.tuple.specs.Tuple.{Tuple, on_bus}
use Rattle.tuple.specs.declared.Bus.{Bus}
use Rattle.tuple.specs.declared.Bus.TheVariants.{ByteAlu, AreBytes, IsHalfword, IsWh, KeccakRc, Keccak, IsB20}
use Rattle.tuple.specs.declared.Bus.TheVariants.{Memw, Ecall, Msb8, Msb16, Zero, Hwsl}
use Rattle.tuple.specs.declared.Side.{Side}
use Rattle.tuple.specs.declared.Side.TheVariants.{Sender, Receiver}
use Rattle.bitwise.specs.Columns.{NUM-ROWS, NUM-LOOKUP-TYPES}
use Rattle.bitwise.specs.Row.{bitwise_row}
use Rattle.bitwise.specs.Tuples.{bitwise_tuple}
use Rattle.keccak_rc.specs.Columns.{NUM-ROWS as RC-ROWS}
use Rattle.keccak_rc.specs.Row.{rc_row}
use Rattle.keccak_rc.specs.Tuples.{rc_tuple, NUM-TUPLES as RC-TUPLES}
use Rattle.is_wh.specs.Columns.{NUM-COLUMNS, MU}
use Rattle.is_wh.specs.Tuples.{is_wh_tuple, NUM-TUPLES as IS-WH-TUPLES}
use Rattle.verdict.specs.Kind.{Layout, Kind, rows, row, Whole, Elements, Values}
use Rattle.verdict.specs.CoreAndRound.{core_kind, round_kind}

-- ---- sums
-- what a tuple adds to the sum of a side of a bus for the values v: its multiplicity, if it is there and has these values
unfoldable pub share : Side → Bus → List ℕ → Tuple → ℕ
share s b v t = pick (words_test v t.values) (on_bus s b t) 0

-- what n rows of m tuples each add, tuple i of row r being t r i
unfoldable pub shares : Side → Bus → List ℕ → ℕ → ℕ → (ℕ → ℕ → Tuple) → ℕ
shares s b v n m t = sum_below n (λ r. sum_below m (λ i. share s b v (t r i)))

-- tuple i of row r of a table of some kind, and what the table adds
unfoldable pub tuple_at : Kind → List ℕ → ℕ → ℕ → Tuple
tuple_at K ws r i = K.tuple (row K.layout ws r) i

abbrev pub table_share : Side → Bus → List ℕ → Kind → List ℕ → ℕ
table_share s b v K ws = shares s b v (rows K.layout ws) K.tuples (tuple_at K ws)

-- ---- the tables that are looked up
-- What a prover writes there: the ten multiplicities of each bitwise row, that of each row of constants, and the whole
-- IS_WH table. Nothing is asked of them. (The other columns of the first two are fixed beforehand.)
pub record Fillings : Type 0 where
  pub bitwise : ℕ → ℕ → ℕ
  pub constants : ℕ → ℕ
  pub is-wh : List ℕ

-- tuple j of bitwise row i, which has 11 fixed columns and these multiplicities, and what the table adds
unfoldable pub bitwise_at : (ℕ → ℕ → ℕ) → ℕ → ℕ → Tuple
bitwise_at mu i j = bitwise_tuple (bitwise_row i ++ tab NUM-LOOKUP-TYPES (mu i)) j

abbrev pub bitwise_share : Side → Bus → List ℕ → (ℕ → ℕ → ℕ) → ℕ
bitwise_share s b v mu = shares s b v NUM-ROWS NUM-LOOKUP-TYPES (bitwise_at mu)

-- the tuple of row r of the constants, which has 9 fixed columns and this multiplicity, and what the table adds
unfoldable pub constant_at : (ℕ → ℕ) → ℕ → ℕ → Tuple
constant_at mu r j = rc_tuple (rc_row r ++ (mu r ∷ [])) j

abbrev pub constants_share : Side → Bus → List ℕ → (ℕ → ℕ) → ℕ
constants_share s b v mu = shares s b v RC-ROWS RC-TUPLES (constant_at mu)

-- the IS_WH table: rows of four words, none of whose values has to be 0
abbrev pub is_wh_layout : Layout
is_wh_layout = record { width = NUM-COLUMNS; mu = MU }

abbrev pub is_wh_kind : Kind
is_wh_kind = record { layout = is_wh_layout; values = 0; value = λ x i. 0; tuples = IS-WH-TUPLES; tuple = is_wh_tuple }

-- ---- all tables
-- the sum of one side of a bus over the five tables
unfoldable pub bus_total : ℕ → List ℕ → List ℕ → Fillings → Side → Bus → List ℕ → ℕ
bus_total nr core round w s b v =
    table_share s b v (core_kind nr) core
    + table_share s b v round_kind round
    + table_share s b v is_wh_kind w.is-wh
    + bitwise_share s b v w.bitwise
    + constants_share s b v w.constants

-- v is sent as often as received on b, mod p. Other tables of a prover may send too: `others b v` is how often they send
-- v on b, their multiplicities, words below p, added up as whole numbers.
abbrev pub Agree : ℕ → List ℕ → List ℕ → Fillings → (Bus → List ℕ → ℕ) → Bus → List ℕ → Type 0
Agree nr core round w others b v =
    (bus_total nr core round w Sender b v + others b v) % p ≡ bus_total nr core round w Receiver b v % p

-- The buses whose sums are supposed to agree: those on which no table but these receives. (Ecall and Memw end in tables
-- outside; on Msb8, Msb16, Zero and Hwsl none of these tables sends.)
abbrev pub Ours : Bus → Type 0
Ours ByteAlu = Unit {0}
Ours AreBytes = Unit {0}
Ours IsHalfword = Unit {0}
Ours IsWh = Unit {0}
Ours KeccakRc = Unit {0}
Ours Keccak = Unit {0}
Ours IsB20 = Unit {0}
Ours Memw = ⊥
Ours Ecall = ⊥
Ours Msb8 = ⊥
Ours Msb16 = ⊥
Ours Zero = ⊥
Ours Hwsl = ⊥

-- ---- what is supposed
-- Most rows of a core table or a round table, most rows of an IS_WH table, and most sends of other tables for one list
-- of values. (The field has "FFT up to 2^32 rows", so these are eight full tables of a kind, and 256; a core row needs at
-- most 25 rows of the IS_WH table.)
abbrev pub MAX-ROWS : ℕ
MAX-ROWS = 2 ^ 35

abbrev pub MAX-PAIRS : ℕ
MAX-PAIRS = 2 ^ 40

abbrev pub MAX-SENDS : ℕ
MAX-SENDS = 2 ^ 62

-- a table of whole rows of words below p, every value 0, with at most 2^35 rows: nothing is said of its lookups
pub record Constrained (K : Kind) (ws : List ℕ) : Type 0 where
  pub whole : Whole K.layout ws
  pub below : Elements ws
  pub values : Values K ws
  pub few : rows K.layout ws ≤ MAX-ROWS

pub record SumsHold (nr : ℕ) (core round : List ℕ) (w : Fillings) (others : Bus → List ℕ → ℕ) : Type 0 where
  pub core-constrained : Constrained (core_kind nr) core
  pub round-constrained : Constrained round_kind round
  pub few-pairs : rows is_wh_layout w.is-wh ≤ MAX-PAIRS
  pub few-others : (b : Bus) (v : List ℕ) → others b v ≤ MAX-SENDS
  -- the Keccak bus is between these two tables alone
  pub no-others : (v : List ℕ) → others Keccak v ≡ 0
  pub agree : (b : Bus) → Ours b → (v : List ℕ) → Agree nr core round w others b v

-- ---- the other way
-- what is written is words below p, and whole rows of the IS_WH table
pub record InField (w : Fillings) : Type 0 where
  pub bitwise-below : (i j : ℕ) → w.bitwise i j < p
  pub constants-below : (r : ℕ) → w.constants r < p
  pub is-wh-whole : Whole is_wh_layout w.is-wh
  pub is-wh-below : Elements w.is-wh

-- no other table sends
abbrev pub nobody : Bus → List ℕ → ℕ
nobody b v = 0

-- there are words to write into the tables that are looked up, for which the sums of every bus agree
abbrev pub Filled : ℕ → List ℕ → List ℕ → Type 0
Filled nr core round = (w : Fillings) × InField w × SumsHold nr core round w nobody
