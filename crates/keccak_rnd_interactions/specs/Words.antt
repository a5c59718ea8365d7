-- All tuples of a round row at once: how many words they take, and what the call leaves.
use Rattle.std.specs.Prelude.{ℕ, List, length}
use Rattle.answer.specs.Refusal.{overwrite, afterwards}
use Rattle.tuple.specs.Words.{tuples_words}
use Rattle.tuple.specs.Values.{values_refusal}
use Rattle.keccak_rnd.specs.Columns.{NUM-COLUMNS}
use Rattle.keccak_rnd.specs.Tuples.{NUM-TUPLES, round_tuple}

-- four for each of the 1,031 tuples, and their 4,087 values
abbrev pub NUM-WORDS : ℕ
NUM-WORDS = 8211

-- of these, those of the first three
abbrev pub CXZ-WORDS : ℕ
CXZ-WORDS = 427

-- what `bus_interactions` leaves in the slice that it is lent: the row is refused as by a call for its values
abbrev pub round_tuples_after : List ℕ → List ℕ → List ℕ
round_tuples_after row out =
    afterwards (values_refusal NUM-COLUMNS NUM-WORDS row (length out))
    (overwrite (tuples_words (round_tuple row) NUM-TUPLES) out) out
