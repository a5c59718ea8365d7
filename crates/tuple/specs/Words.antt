-- The tuples of a row as words, one tuple after the other: what a call that gives all of them writes.
use Rattle.std.specs.Prelude.{ℕ, zero, suc, List, [], ◌∷◌, ◌++◌}
use Rattle.tuple.specs.Tuple.{Tuple, bus_number, side_number}
use Rattle.tuple.specs.Call.{interaction_of}
use Rattle.tuple.specs.declared.BusInteraction.{BusInteraction}

-- bus and side by number, how many values, the multiplicity
abbrev pub header_words : BusInteraction → List ℕ
header_words t = bus_number t.bus ∷ side_number t.side ∷ t.length ∷ t.multiplicity ∷ []

-- a tuple: those four words, then the values
unfoldable pub tuple_words : Tuple → List ℕ
tuple_words t = header_words (interaction_of t) ++ t.values

-- tuples t 0 .. t (n - 1), one after the other
unfoldable pub tuples_words : (ℕ → Tuple) → ℕ → List ℕ
tuples_words t zero = []
tuples_words t (suc n) = tuples_words t n ++ tuple_words (t n)
