-- A few lines, byte by byte.
use mathlib.Core.Path.{◌≡◌, refl}
use mathlib.Core.Option.{none, some}
use mathlib.Core.List.{[], ◌∷◌}
use Rattle.text.specs.Text.{digits_of, decimal_of, spaced, joined}
use Rattle.tuple.specs.declared.Bus.TheVariants.{ByteAlu}
use Rattle.verdict.specs.declared.Table.TheVariants.{Core, Round}
use Rattle.verdict.specs.declared.Verdict.TheVariants.{Value, Lookup, Repeated, Holds}
use Rattle.verdict_line.specs.Line.{place_words, words_of, shown_words, line_of}

-- `holds 3`
pub line-holds : line_of (Holds 3) none ≡ 104 ∷ 111 ∷ 108 ∷ 100 ∷ 115 ∷ 32 ∷ 51 ∷ []
unfolding line_of words_of shown_words joined spaced decimal_of digits_of
line-holds = refl

-- `core row 0 value 12`
pub line-value :
    line_of (Value Core 0 12) none
    ≡ 99 ∷ 111 ∷ 114 ∷ 101 ∷ 32 ∷ 114 ∷ 111 ∷ 119 ∷ 32 ∷ 48 ∷ 32 ∷ 118 ∷ 97 ∷ 108 ∷ 117 ∷ 101 ∷ 32 ∷ 49 ∷ 50 ∷ []
unfolding line_of words_of place_words shown_words joined spaced decimal_of digits_of
line-value = refl

-- `core row 4 timestamp 0`
pub line-timestamp :
    line_of (Repeated 4) none
    ≡ 99 ∷ 111 ∷ 114 ∷ 101 ∷ 32 ∷ 114 ∷ 111 ∷ 119 ∷ 32 ∷ 52 ∷ 32 ∷ 116 ∷ 105 ∷ 109 ∷ 101 ∷ 115 ∷ 116 ∷ 97 ∷ 109
    ∷ 112 ∷ 32 ∷ 48 ∷ []
unfolding line_of words_of place_words shown_words joined spaced decimal_of digits_of
line-timestamp = refl

-- `round row 7 lookup 223 ByteAlu 2 17 5 20`
pub line-lookup :
    line_of (Lookup Round 7 223) (some (record { bus = ByteAlu; values = 2 ∷ 17 ∷ 5 ∷ 20 ∷ [] }))
    ≡ 114 ∷ 111 ∷ 117 ∷ 110 ∷ 100 ∷ 32 ∷ 114 ∷ 111 ∷ 119 ∷ 32 ∷ 55 ∷ 32 ∷ 108 ∷ 111 ∷ 111 ∷ 107 ∷ 117 ∷ 112 ∷ 32 ∷ 50
    ∷ 50 ∷ 51 ∷ 32 ∷ 66 ∷ 121 ∷ 116 ∷ 101 ∷ 65 ∷ 108 ∷ 117 ∷ 32 ∷ 50 ∷ 32 ∷ 49 ∷ 55 ∷ 32 ∷ 53 ∷ 32 ∷ 50 ∷ 48 ∷ []
unfolding line_of words_of place_words shown_words joined spaced decimal_of digits_of
line-lookup = refl
