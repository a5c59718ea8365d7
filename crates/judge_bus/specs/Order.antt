-- The two tuples of a row on the Keccak bus of nr rounds, in the order of their indexes: "a core row's send before its
-- receive, a round row's receive before its send".
--     first_port, second_port    the two
--     first_index               the index of the first among all tuples of its row; the second is the next
use Rattle.std.specs.Prelude.{ℕ}
use Rattle.verdict.specs.declared.Table.{Table}
use Rattle.verdict.specs.declared.Table.TheVariants.{Core, Round}
use Rattle.judge_tuples.specs.declared.Port.{Port}
use Rattle.judge_tuples.specs.declared.Port.TheVariants.{CoreSend, CoreReceive, RoundReceive, RoundSend}

unfoldable pub first_port : ℕ → Table → Port
first_port nr Core = CoreSend nr
first_port nr Round = RoundReceive

unfoldable pub second_port : Table → Port
second_port Core = CoreReceive
second_port Round = RoundSend

unfoldable pub first_index : Table → ℕ
first_index Core = 2
first_index Round = 0
