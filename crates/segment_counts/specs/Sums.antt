-- The sums that a look shows, as they are computed from the number of operations and the height of the round table.
--     kind_sum   of a kind, of nr rounds and tables of at least `floor` rows
-- proofs/Sums.antt: `kind-sums-at`, it is what the tuples of the rows add to all counters of that kind.
use Rattle.std.specs.Prelude.{ℕ, ◌+◌, ◌*◌, Bool, eqb}
use Rattle.lists.specs.Tab.{pick}
use Rattle.keccak_rnd.specs.Row.{round_height}
use Rattle.segment_counts.specs.Segment.{sent_rows}

-- 3 AreBytes: 4 of each operation, and 220 of each round row, padding rows too. 4 IsHalfword: 25 of each operation. 7 AND: 1 of
-- each operation and 200 of each of its rounds. 9 XOR: 608 of each of its rounds.
unfoldable pub kind_sum : ℕ → ℕ → Bool → ℕ → ℕ → ℕ
kind_sum nr floor shipped n k =
    pick (eqb k 3) (4 * n + 220 * sent_rows shipped n (round_height nr floor n))
    (pick (eqb k 4) (25 * n)
    (pick (eqb k 7) (n + 200 * (n * nr))
    (pick (eqb k 9) (608 * (n * nr)) 0)))
