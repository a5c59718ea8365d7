-- What the arguments of `tally` say. "`tally` takes it" (the floor) "as a decimal argument (digits only, zeros may lead),
-- 4 when absent; it may stand before or after `shipped`, the last floor counts, and an argument that is neither, or a decimal
-- above 2^64 − 1, is floor 0."
use Rattle.std.specs.Prelude.{ℕ, Bool, true, false, List, [], ◌∷◌, ltb, leb}
use Rattle.lists.specs.Tab.{pick}
use Rattle.lists.specs.Select.{words_test}
use Rattle.text.specs.Text.{number_in}
use Rattle.tally_arguments.specs.declared.Call.{Call}

-- ---- one word
-- "shipped"
abbrev pub shipped-word : List ℕ
shipped-word = 115 ∷ 104 ∷ 105 ∷ 112 ∷ 112 ∷ 101 ∷ 100 ∷ []

unfoldable pub is_shipped : List ℕ → Bool
is_shipped w = words_test w shipped-word

-- a byte from "0" to "9"
unfoldable pub is_digit : ℕ → Bool
is_digit b = pick (leb 48 b) (ltb b 58) false

unfoldable pub digits_only : List ℕ → Bool
digits_only [] = true
digits_only (b ∷ s) = pick (is_digit b) (digits_only s) false

-- digits only, and at least one
unfoldable pub is_decimal : List ℕ → Bool
is_decimal [] = false
is_decimal (b ∷ s) = digits_only (b ∷ s)

-- 2^64 − 1
abbrev pub MOST : ℕ
MOST = 18446744073709551615

-- the floor that a word other than `shipped` tells
unfoldable pub floor_in : List ℕ → ℕ
floor_in w = pick (is_decimal w) (pick (leb (number_in w) MOST) (number_in w) 0) 0

-- ---- all words, one after the other
-- "4 when absent"
abbrev pub plain : Call
plain = record { floor = 4; shipped = false }

-- one more word
unfoldable pub argument_of : Call → List ℕ → Call
argument_of c w = pick (is_shipped w) (record { floor = c.floor; shipped = true }) (record { floor = floor_in w; shipped = c.shipped })

unfoldable pub arguments_from : Call → List (List ℕ) → Call
arguments_from c [] = c
arguments_from c (w ∷ ws) = arguments_from (argument_of c w) ws

unfoldable pub arguments_of : List (List ℕ) → Call
arguments_of ws = arguments_from plain ws
