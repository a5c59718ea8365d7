-- A verdict as one English line, in bytes: "`core` or `round`, `row R`, then `value I`, `timestamp 0`, `lookup I` or
-- `balance I`, for the last two the bus's name and the tuple's values in order; or `holds N`: decimals without leading
-- zeros, single spaces, no line end."
--     shown_by         the tuple that a verdict on two tables shows: that of its lookup or balance
--     words_of         the words of a verdict, `shown_words` those of the tuple
--     line_of          all of them, joined by single spaces
--     line_by, refusal_by, answer_by, after_by   of a verdict on two tables: its line, and what a call that has it refuses,
--                     answers and leaves in the lent bytes
--     line_at, line_refusal, line_answer, line_after   the same of the verdict of `verdict`
--     within_line_refusal, within_line_answer, within_line_after   of the line in lent memory, `within_line_left` what it leaves in a slice of that
use Rattle.std.specs.Prelude.{ℕ, List, [], ◌∷◌, ◌++◌, map, length}
use Rattle.std.proofs.Math.Option.{Option, none, some}
use Rattle.lists.specs.Tab.{tab}
use Rattle.text.specs.Text.{decimal_of, joined}
use Rattle.text.specs.Names.{bus_name}
use Rattle.answer.specs.Refusal.{accepted, not_rounds, too_short, number_of, overwrite, afterwards}
use Rattle.answer.specs.declared.Refusal.{Refusal}
use Rattle.tuple.specs.Tuple.{Tuple}
use Rattle.tuple.specs.declared.Bus.{Bus}
use Rattle.verdict.specs.Kind.{row}
use Rattle.verdict.specs.CoreAndRound.{core_layout, round_layout, core_kind, round_kind, verdict_for}
use Rattle.verdict.specs.declared.Table.{Table}
use Rattle.verdict.specs.declared.Table.TheVariants.{Core, Round}
use Rattle.verdict.specs.declared.Verdict.{Verdict}
use Rattle.verdict.specs.declared.Verdict.TheVariants.{Refused, Value, Lookup, Repeated, Unbalanced, Holds}
use Rattle.judge.specs.Checks.{not_rows, not_words}
use Rattle.sort_places.specs.Places.{place_count}
use Rattle.std.specs.Prelude.{Result}

-- ---- the tuple that is shown
-- tuple i of row r of a table, for nr rounds, which the tuple that a core row sends names
unfoldable pub tuple_at : ℕ → List ℕ → List ℕ → Table → ℕ → ℕ → Tuple
tuple_at nr core round Core r i = (core_kind nr).tuple (row core_layout core r) i
tuple_at nr core round Round r i = round_kind.tuple (row round_layout round r) i

-- what is shown of a tuple: "the bus's name and the tuple's values in order"
pub record Shown : Type 0 where
  pub bus : Bus
  pub values : List ℕ

abbrev pub shown_of : Tuple → Shown
shown_of t = record { bus = t.bus; values = t.values }

-- "for the last two": a lookup and a balance show the tuple that the verdict names, the others none
unfoldable pub shown_by : ℕ → List ℕ → List ℕ → Verdict → Option Shown
shown_by nr core round (Lookup t r i) = some (shown_of (tuple_at nr core round t r i))
shown_by nr core round (Unbalanced t r i) = some (shown_of (tuple_at nr core round t r i))
shown_by nr core round (Value t r i) = none
shown_by nr core round (Repeated r) = none
shown_by nr core round (Holds n) = none
shown_by nr core round (Refused r) = none

-- ---- the words
-- "core", "round"
abbrev pub table_name : Table → List ℕ
table_name Core = 99 ∷ 111 ∷ 114 ∷ 101 ∷ []
table_name Round = 114 ∷ 111 ∷ 117 ∷ 110 ∷ 100 ∷ []

-- "row"
abbrev pub row-name : List ℕ
row-name = 114 ∷ 111 ∷ 119 ∷ []

-- "value"
abbrev pub value-name : List ℕ
value-name = 118 ∷ 97 ∷ 108 ∷ 117 ∷ 101 ∷ []

-- "timestamp"
abbrev pub timestamp-name : List ℕ
timestamp-name = 116 ∷ 105 ∷ 109 ∷ 101 ∷ 115 ∷ 116 ∷ 97 ∷ 109 ∷ 112 ∷ []

-- "lookup"
abbrev pub lookup-name : List ℕ
lookup-name = 108 ∷ 111 ∷ 111 ∷ 107 ∷ 117 ∷ 112 ∷ []

-- "balance"
abbrev pub balance-name : List ℕ
balance-name = 98 ∷ 97 ∷ 108 ∷ 97 ∷ 110 ∷ 99 ∷ 101 ∷ []

-- "holds"
abbrev pub holds-name : List ℕ
holds-name = 104 ∷ 111 ∷ 108 ∷ 100 ∷ 115 ∷ []

-- the table, `row R`, what failed, and its index
unfoldable pub place_words : Table → ℕ → List ℕ → ℕ → List (List ℕ)
place_words t r what i = table_name t ∷ row-name ∷ decimal_of r ∷ what ∷ decimal_of i ∷ []

-- a refusal has no line
unfoldable pub words_of : Verdict → List (List ℕ)
words_of (Value t r i) = place_words t r value-name i
words_of (Repeated r) = place_words Core r timestamp-name 0
words_of (Lookup t r i) = place_words t r lookup-name i
words_of (Unbalanced t r i) = place_words t r balance-name i
words_of (Holds n) = holds-name ∷ decimal_of n ∷ []
words_of (Refused r) = []

unfoldable pub shown_words : Option Shown → List (List ℕ)
shown_words none = []
shown_words (some s) = bus_name s.bus ∷ map decimal_of s.values

-- ---- the line
unfoldable pub line_of : Verdict → Option Shown → List ℕ
line_of v s = joined (words_of v ++ shown_words s)

-- of a verdict on two tables, for nr rounds
abbrev pub line_by : ℕ → List ℕ → List ℕ → Verdict → List ℕ
line_by nr core round v = line_of v (shown_by nr core round v)

-- of the verdict of `verdict`
unfoldable pub shown_at : ℕ → List ℕ → List ℕ → Option Shown
shown_at nr core round = shown_by nr core round (verdict_for nr core round)

abbrev pub line_at : ℕ → List ℕ → List ℕ → List ℕ
line_at nr core round = line_by nr core round (verdict_for nr core round)

-- The most bytes of a line: 5 of the table, 4 of `row`, 21 of its number, 10 of what failed, 21 of its index, 11 of the
-- bus, and 21 of each of 203 values, spaces included.
abbrev pub LINE-MOST : ℕ
LINE-MOST = 4335

-- ---- the call
-- a verdict that is no refusal
abbrev pub Judged : Verdict → Type 0
Judged (Refused r) = ⊥
Judged (Value t r i) = Unit {0}
Judged (Lookup t r i) = Unit {0}
Judged (Repeated r) = Unit {0}
Judged (Unbalanced t r i) = Unit {0}
Judged (Holds n) = Unit {0}

-- refused as the verdict is, else what the later checks say
unfoldable pub refused_by : Verdict → Option Refusal → Option Refusal
refused_by (Refused r) later = some r
refused_by (Value t r i) later = later
refused_by (Lookup t r i) later = later
refused_by (Repeated r) later = later
refused_by (Unbalanced t r i) later = later
refused_by (Holds n) later = later

-- "A line that doesn't fit the lent bytes is a short slice, refused after 5."
unfoldable pub refusal_by : ℕ → List ℕ → List ℕ → Verdict → ℕ → Option Refusal
refusal_by nr core round v room = refused_by v (too_short room (length (line_by nr core round v)) accepted)

-- it "answers the line's length"
abbrev pub answer_by : ℕ → List ℕ → List ℕ → Verdict → List ℕ → Result ℕ Refusal
answer_by nr core round v bytes = number_of (length (line_by nr core round v)) (refusal_by nr core round v (length bytes))

abbrev pub after_by : ℕ → List ℕ → List ℕ → Verdict → List ℕ → List ℕ
after_by nr core round v bytes =
    afterwards (refusal_by nr core round v (length bytes)) (overwrite (line_by nr core round v) bytes) bytes

-- by the verdict of `verdict`: 8, 2, 5, then 3
abbrev pub line_refusal : ℕ → List ℕ → List ℕ → ℕ → Option Refusal
line_refusal nr core round room = refusal_by nr core round (verdict_for nr core round) room

abbrev pub line_answer : ℕ → List ℕ → List ℕ → List ℕ → Result ℕ Refusal
line_answer nr core round bytes = answer_by nr core round (verdict_for nr core round) bytes

abbrev pub line_after : ℕ → List ℕ → List ℕ → List ℕ → List ℕ
line_after nr core round bytes = after_by nr core round (verdict_for nr core round) bytes

-- In lent memory (judge_within/specs/Within.antt), slices of `scratch` and of `spare` words, the room of the line is checked before anything is
-- judged, and so that every line fits: 8, 2, 3 of the line, of `scratch` and of `spare`, then 5
unfoldable pub within_line_refusal : ℕ → List ℕ → List ℕ → ℕ → ℕ → ℕ → Option Refusal
within_line_refusal nr core round room scratch spare =
    not_rounds nr
    (not_rows core round
    (too_short room LINE-MOST
    (too_short scratch (place_count core round)
    (too_short spare (place_count core round)
    (not_words core round accepted)))))

-- the length of the line, the line, and in each of the two slices zeros in the words that are used
unfoldable pub within_line_answer : ℕ → List ℕ → List ℕ → ℕ → ℕ → ℕ → Result ℕ Refusal
within_line_answer nr core round room scratch spare =
    number_of (length (line_at nr core round)) (within_line_refusal nr core round room scratch spare)

unfoldable pub within_line_after : ℕ → List ℕ → List ℕ → ℕ → ℕ → List ℕ → List ℕ
within_line_after nr core round scratch spare bytes =
    afterwards (within_line_refusal nr core round (length bytes) scratch spare) (overwrite (line_at nr core round) bytes) bytes

unfoldable pub within_line_left : ℕ → List ℕ → List ℕ → ℕ → ℕ → ℕ → List ℕ → List ℕ
within_line_left nr core round room scratch spare old =
    afterwards (within_line_refusal nr core round room scratch spare) (overwrite (tab (place_count core round) (λ k. 0)) old) old
