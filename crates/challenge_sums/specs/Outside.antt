-- What is left to other tables: the Memw and Ecall tuples of the core rows, which end there.
--     outside     these tuples
--     Answers     other tables answer them
--     mirrored    tables that do: the same tuples on the other side
--     Idle        no bitwise row counts a lookup that none of the five tables sends
use Rattle.std.specs.Prelude.{◌≡◌, Bool, ◌||◌, List, ◌++◌, map, ℕ, ◌<◌, eqb}
use Rattle.lists.specs.Tab.{word}
use Rattle.lists.specs.Select.{selected}
use Rattle.field.specs.Field.{p}
use Rattle.tuple.specs.Tuple.{bus_number}
use Rattle.tuple.specs.declared.Bus.TheVariants.{Memw, Ecall}
use Rattle.tuple.specs.declared.Side.{Side}
use Rattle.tuple.specs.declared.Side.TheVariants.{Sender, Receiver}
use Rattle.bitwise.specs.Columns.{NUM-ROWS}
use Rattle.verdict.specs.CoreAndRound.{core_kind}
use Rattle.challenge.specs.Check.{Entry, TotalsAgree}
use Rattle.challenge_sums.specs.Entries.{table_entries}

-- words of a bus that ends in other tables
abbrev pub outward : List ℕ → Bool
outward ws = eqb (word ws 0) (bus_number Memw) || eqb (word ws 0) (bus_number Ecall)

unfoldable pub outside : ℕ → List ℕ → List Entry
outside nr core = selected (λ e. outward e.words) (table_entries (core_kind nr) core)

-- together with these tuples, the other tables send everything as often as they receive it, mod p
abbrev pub Answers : ℕ → List ℕ → List Entry → Type 0
Answers nr core more = TotalsAgree p (outside nr core ++ more)

abbrev pub other_side : Side → Side
other_side Sender = Receiver
other_side Receiver = Sender

abbrev pub mirrored : List Entry → List Entry
mirrored es = map (λ (e : Entry). record { side = other_side e.side; multiplicity = e.multiplicity; words = e.words }) es

pub record Idle (mu : ℕ → ℕ → ℕ) : Type 0 where
  pub msb8 : (i : ℕ) → i < NUM-ROWS → mu i 0 ≡ 0
  pub msb16 : (i : ℕ) → i < NUM-ROWS → mu i 1 ≡ 0
  pub zeros : (i : ℕ) → i < NUM-ROWS → mu i 2 ≡ 0
  pub hwsl : (i : ℕ) → i < NUM-ROWS → mu i 6 ≡ 0
