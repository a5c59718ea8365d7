-- The one sum of a prover over all tables: the tuples of the five tables, and those of other tables, as entries (crate challenge).
--     entry         a tuple, its bus as the first word
--     bus_width      how many values the tuples of a bus have
--     all_entries    all of them
--     Others        what is supposed of other tables
--     sent_by        how often other tables send a tuple
--     PassesOften   the check passes at more pairs of challenges than the bound
-- proofs/Receipt.antt: where the check passes at more pairs of challenges than the bound, SumsHold (`challenge-sums`).
use Rattle.std.specs.Prelude.{◌≡◌, List, [], ◌∷◌, ◌++◌, ℕ, zero, suc, ◌+◌, ◌*◌, ◌≤◌, ◌<◌, length}
use Rattle.field.specs.Field.{p}
use Rattle.tuple.specs.Tuple.{Tuple, bus_number}
use Rattle.tuple.specs.declared.Bus.{Bus}
use Rattle.tuple.specs.declared.Bus.TheVariants.{ByteAlu, AreBytes, IsHalfword, IsWh, KeccakRc, Keccak, Memw}
use Rattle.tuple.specs.declared.Bus.TheVariants.{Ecall, Msb8, Msb16, Zero, IsB20, Hwsl}
use Rattle.tuple.specs.declared.Side.TheVariants.{Sender, Receiver}
use Rattle.bitwise.specs.Columns.{NUM-ROWS, NUM-LOOKUP-TYPES}
use Rattle.keccak_rc.specs.Columns.{NUM-ROWS as RC-ROWS}
use Rattle.keccak_rc.specs.Tuples.{NUM-TUPLES as RC-TUPLES}
use Rattle.verdict.specs.Kind.{Kind, rows}
use Rattle.verdict.specs.CoreAndRound.{core_kind, round_kind}
use Rattle.bus_sums.specs.Sums.{Fillings, tuple_at, bitwise_at, constant_at, is_wh_kind, Ours, MAX-SENDS}
use Rattle.challenge.specs.Domain.{Domain}
use Rattle.challenge.specs.Check.{Distinct, Entry, AllFit, passing, total}

abbrev pub entry : Tuple → Entry
entry t = record { side = t.side; multiplicity = t.multiplicity; words = bus_number t.bus ∷ t.values }

-- the entries of m tuples t 0 .. t (m - 1), and of n rows of m tuples each, the last first: a sum does not see the order
unfoldable pub row_entries : ℕ → (ℕ → Tuple) → List Entry
row_entries zero t = []
row_entries (suc m) t = entry (t m) ∷ row_entries m t

unfoldable pub entries : ℕ → ℕ → (ℕ → ℕ → Tuple) → List Entry
entries zero m t = []
entries (suc n) m t = row_entries m (t n) ++ entries n m t

abbrev pub table_entries : Kind → List ℕ → List Entry
table_entries K ws = entries (rows K.layout ws) K.tuples (tuple_at K ws)

unfoldable pub all_entries : ℕ → List ℕ → List ℕ → Fillings → List Entry → List Entry
all_entries nr core round w more =
    table_entries (core_kind nr) core
    ++ (table_entries round_kind round
    ++ (table_entries is_wh_kind w.is-wh
    ++ (entries NUM-ROWS NUM-LOOKUP-TYPES (bitwise_at w.bitwise)
    ++ (entries RC-ROWS RC-TUPLES (constant_at w.constants) ++ more))))

-- how many values a tuple of a bus has
abbrev pub bus_width : Bus → ℕ
bus_width ByteAlu = 4
bus_width AreBytes = 2
bus_width IsHalfword = 1
bus_width IsWh = 2
bus_width KeccakRc = 9
bus_width Keccak = 203
bus_width Memw = 24
bus_width Ecall = 4
bus_width Msb8 = 2
bus_width Msb16 = 2
bus_width Zero = 2
bus_width IsB20 = 1
bus_width Hwsl = 4

-- Other tables, whose tuples may be on these and on other buses: on every bus they are equally long, with at most K values, all words
-- below p. On the seven buses they receive nothing, they send nothing on Keccak, and one tuple at most 2^62 times.
pub record Others (width : ℕ → ℕ) (K : ℕ) (more : List Entry) : Type 0 where
  pub ours : (b : Bus) → width (bus_number b) ≡ bus_width b
  pub long : 203 ≤ K
  pub fit : AllFit p width K more
  pub received : (b : Bus) → Ours b → (v : List ℕ) → total Receiver (bus_number b ∷ v) more ≡ 0
  pub few : (b : Bus) (v : List ℕ) → total Sender (bus_number b ∷ v) more ≤ MAX-SENDS
  pub not-keccak : (v : List ℕ) → total Sender (bus_number Keccak ∷ v) more ≡ 0

abbrev pub sent_by : List Entry → Bus → List ℕ → ℕ
sent_by more b v = total Sender (bus_number b ∷ v) more

abbrev pub PassesOften : Domain p → ℕ → List Entry → Type 0
PassesOften D K es =
    (A : List D.F) × (Z : List D.F) × Distinct A × Distinct Z
    × (length es * K * length Z + length A * length es < passing D es A Z)
