-- What rows send and receive on the Keccak bus of nr rounds, and what is owed in the chain of a core row.
--     Even       the first rows of both tables send and receive the same tuples, each equally often
--     owed_by     the tuple that the next row of a chain has to receive; `takes_at`, `ends_at`, whether a row does
--     on_place    what follows from the answer of a search
use Rattle.std.specs.Prelude.{◌≡◌, Bool, ◌&&◌, List, ℕ, ◌+◌, ◌<◌}
use Rattle.lists.specs.First.{count_below}
use Rattle.lists.specs.Select.{words_test}
use Rattle.verdict.specs.Kind.{Layout, rows, row, active}
use Rattle.verdict.specs.CoreAndRound.{core_layout, round_layout}
use Rattle.judge_tuples.specs.Port.{tuple_of}
use Rattle.judge_tuples.specs.declared.Port.{Port}
use Rattle.judge_tuples.specs.declared.Port.TheVariants.{CoreSend, CoreReceive, RoundReceive, RoundSend}
use Rattle.std.specs.Prelude.{Some, None}
use Rattle.lists.specs.First.{Place}

-- whether row r of a table is active and has, as its tuple `port`, the tuple v
unfoldable pub has_tuple : Layout → Port → List ℕ → List ℕ → ℕ → Bool
has_tuple A port ws v r = active A ws r && words_test v (tuple_of port (row A ws r))

-- each tuple is sent as often as received by the first a core rows and the first b round rows
unfoldable pub Even : ℕ → List ℕ → List ℕ → ℕ → ℕ → Type 0
Even nr core round a b =
    (v : List ℕ) → count_below (has_tuple core_layout (CoreSend nr) core v) a + count_below (has_tuple round_layout RoundSend round v) b
    ≡ count_below (has_tuple core_layout CoreReceive core v) a + count_below (has_tuple round_layout RoundReceive round v) b

-- the tuple that is owed in the chain of core row a: what the last round row of the chain sent, or what row a sent
unfoldable pub owed_by : ℕ → List ℕ → ℕ → List ℕ → Place → List ℕ
owed_by nr core a round None = tuple_of (CoreSend nr) (row core_layout core a)
owed_by nr core a round (Some r) = tuple_of RoundSend (row round_layout round r)

-- the last round row of a chain, where there is one, is in the table
unfoldable pub Started : List ℕ → Place → Type 0
Started round None = Unit {0}
Started round (Some r) = r < rows round_layout round

-- whether round row q receives what is owed, and whether core row a receives what round row q sends
abbrev pub takes_at : ℕ → List ℕ → ℕ → List ℕ → Place → ℕ → Bool
takes_at nr core a round last q = words_test (owed_by nr core a round last) (tuple_of RoundReceive (row round_layout round q))

abbrev pub ends_at : List ℕ → ℕ → List ℕ → ℕ → Bool
ends_at core a round q = words_test (tuple_of RoundSend (row round_layout round q)) (tuple_of CoreReceive (row core_layout core a))

-- f of the place that a search found, or d where it found none
unfoldable pub on_place : {A : Type 0} → (ℕ → A) → A → Place → A
on_place f d None = d
on_place f d (Some k) = f k
