-- tables/is_wh.rs: the five tuples of a row of the IS_WH table, and the two of the template IS_WHH.
use Rattle.std.specs.Prelude.{ℕ, zero, suc, ◌+◌, ◌^◌, List, [], ◌∷◌}
use Rattle.lists.specs.Tab.{word, followed_by}
use Rattle.field.specs.Field.{fadd, fmul}
use Rattle.tuple.specs.Tuple.{Tuple, sender, receiver}
use Rattle.tuple.specs.declared.Bus.TheVariants.{IsWh, IsHalfword, IsB20}
use Rattle.is_wh.specs.Columns.{value, MU}

-- How many tuples a row has.
abbrev pub NUM-TUPLES : ℕ
NUM-TUPLES = 5

-- The word of the pair that a row receives: value[1] + 2^16 value[2] mod p.
abbrev pub pair_word : List ℕ → ℕ
pair_word row = fadd (word row (value 1)) (fmul (2 ^ 16) (word row (value 2)))

-- `bus_interactions`, by index. 0: MU has 20 bits, sent once whatever MU is. 1 to 3: each value is a halfword. 4: the
-- pair of a word and a half, received.
unfoldable pub is_wh_tuple : List ℕ → ℕ → Tuple
is_wh_tuple row =
    followed_by 1 (λ i. sender IsB20 1 (word row MU ∷ []))
    (followed_by 3 (λ i. sender IsHalfword (word row MU) (word row (value i) ∷ []))
    (λ i. receiver IsWh (word row MU) (pair_word row ∷ word row (value 0) ∷ [])))

-- `is_whh`, by index, on a pointer's three limbs from column k on, with multiplicity cond. 0: the word and the middle
-- half. 1: the low half.
abbrev pub is-whh : List ℕ → ℕ → ℕ → ℕ → Tuple
is-whh row k cond zero = sender IsWh cond (word row (k + 2) ∷ word row (k + 1) ∷ [])
is-whh row k cond (suc i) = sender IsHalfword cond (word row k ∷ [])
