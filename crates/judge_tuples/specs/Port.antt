-- The four Keccak tuples of core rows and round rows, and the columns that they are made of. What a core row sends depends
-- on the number of rounds, nr.
use Rattle.std.specs.Prelude.{Bool, not, ◌&&◌, List, ℕ, ◌+◌, ◌-◌}
use Rattle.lists.specs.Tab.{word}
use Rattle.lists.specs.First.{any_below}
use Rattle.lists.specs.Select.{words_differ}
use Rattle.field.specs.Field.{fadd}
use Rattle.keccak.specs.Columns as core
use Rattle.keccak.specs.Tuples.{core_sent, core_received}
use Rattle.keccak_rnd.specs.Columns as round
use Rattle.keccak_rnd.specs.Tuples.{round_received, round_sent}
use Rattle.verdict.specs.declared.Table.{Table}
use Rattle.verdict.specs.declared.Table.TheVariants.{Core, Round}
use Rattle.judge_scan.specs.Tables.{layout_of}
use Rattle.judge_tuples.specs.declared.Port.{Port}
use Rattle.judge_tuples.specs.declared.Port.TheVariants.{CoreSend, CoreReceive, RoundReceive, RoundSend}

-- the values of the tuple, as the bus has them
unfoldable pub tuple_of : Port → List ℕ → List ℕ
tuple_of (CoreSend nr) x = core_sent nr x
tuple_of CoreReceive x = core_received x
tuple_of RoundReceive x = round_received x
tuple_of RoundSend x = round_sent x

-- the table whose rows have it, and how many words such a row has
unfoldable pub table_of : Port → Table
table_of (CoreSend nr) = Core
table_of CoreReceive = Core
table_of RoundReceive = Round
table_of RoundSend = Round

unfoldable pub width_of : Port → ℕ
width_of s = (layout_of (table_of s)).width

-- the round that it names
unfoldable pub round_of : Port → List ℕ → ℕ
round_of (CoreSend nr) x = 24 - nr
round_of CoreReceive x = 24
round_of RoundReceive x = word x round.ROUND
round_of RoundSend x = fadd (word x round.ROUND) 1

-- where its state stands: the first eight words, lane (0, 0), and the others, counted from where the first would stand
unfoldable pub lane_at : Port → ℕ
lane_at (CoreSend nr) = core.INPUT-STATE
lane_at CoreReceive = core.OUTPUT-STATE
lane_at RoundReceive = round.START
lane_at RoundSend = round.IOTA

unfoldable pub rest_at : Port → ℕ
rest_at (CoreSend nr) = core.INPUT-STATE
rest_at CoreReceive = core.OUTPUT-STATE
rest_at RoundReceive = round.START
rest_at RoundSend = round.CHI

-- whether the states of two tuples have the same words, by their columns
unfoldable pub same_state : Port → List ℕ → Port → List ℕ → Bool
same_state s x q y =
    not (any_below (words_differ x (lane_at s) y (lane_at q)) 8) && not (any_below (words_differ x (rest_at s + 8) y (rest_at q + 8)) 192)
