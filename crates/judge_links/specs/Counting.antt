-- How often the rows of a table send a tuple on the Keccak bus of nr rounds, and receive it.
--     sent_by, received_by    the tuples that a row of a table sends and receives
--     counts_to              the counts of the rows from one on and before another
use Rattle.std.specs.Prelude.{Bool, List, ℕ, ◌+◌, ◌-◌}
use Rattle.lists.specs.Tab.{pick}
use Rattle.lists.specs.First.{count_below}
use Rattle.verdict.specs.declared.Table.{Table}
use Rattle.verdict.specs.declared.Table.TheVariants.{Core, Round}
use Rattle.judge_scan.specs.Tables.{layout_of}
use Rattle.judge_tuples.specs.declared.Port.{Port}
use Rattle.judge_tuples.specs.declared.Port.TheVariants.{CoreSend, CoreReceive, RoundReceive, RoundSend}
use Rattle.judge_links.specs.Even.{has_tuple}
use Rattle.judge_links.specs.declared.Counts.{Counts}

unfoldable pub sent_by : ℕ → Table → Port
sent_by nr Core = CoreSend nr
sent_by nr Round = RoundSend

unfoldable pub received_by : Table → Port
received_by Core = CoreReceive
received_by Round = RoundReceive

-- counts of rows that send and of rows that receive, with one row more
unfoldable pub with_row : Counts → Bool → Bool → Counts
with_row t sends receives =
    record {
      sent = pick sends (t.sent + 1) t.sent;
      received = pick receives (t.received + 1) t.received;
    }

-- how many indexes from `from` on and before n pass a test
unfoldable pub count_from : (ℕ → Bool) → ℕ → ℕ → ℕ
count_from f from n = count_below (λ k. f (from + k)) (n - from)

-- how many active rows from `from` on and before n send the tuple v, and how many receive it
unfoldable pub counts_to : ℕ → Table → List ℕ → List ℕ → ℕ → ℕ → Counts
counts_to nr t ws v from n =
    record {
      sent = count_from (has_tuple (layout_of t) (sent_by nr t) ws v) from n;
      received = count_from (has_tuple (layout_of t) (received_by t) ws v) from n;
    }
