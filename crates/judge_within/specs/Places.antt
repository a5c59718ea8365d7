-- What the verdict asks of a place.
--     active_place     whether its row is active
--     sends           whether it is sent; else it is received
--     place_index      its index among all tuples of its row
--     bad_place        whether it is unbalanced, its row being active
--     unbalanced_at    the verdict that names it
--     balance_of       the verdict from the balance on
-- And which places are sorted.
--     wanted          those of active rows: both tuples of each, or for timestamps a core row's first tuple alone
--     arranged        these, in the order of their tuples, or of their timestamps
use Rattle.std.specs.Prelude.{Bool, true, ◌&&◌, List, ℕ, ◌+◌, ◌%◌, eqb, ltb}
use Rattle.lists.specs.Tab.{pick, followed_by}
use Rattle.lists.specs.First.{first_at}
use Rattle.verdict.specs.Kind.{active, actives}
use Rattle.verdict.specs.Verdict.{uneven, stage}
use Rattle.verdict.specs.CoreAndRound.{core_layout, core_kind, round_kind}
use Rattle.verdict.specs.declared.Table.{Table}
use Rattle.verdict.specs.declared.Table.TheVariants.{Core, Round}
use Rattle.verdict.specs.declared.Verdict.{Verdict}
use Rattle.verdict.specs.declared.Verdict.TheVariants.{Unbalanced, Holds}
use Rattle.judge_scan.specs.Tables.{layout_of}
use Rattle.judge_bus.specs.Order.{first_index}
use Rattle.sort.specs.Sorted.{sorted_by}
use Rattle.sort_places.specs.Order.{key_width, before}
use Rattle.sort_places.specs.Places.{core_places, place_count, place_table, place_words, place_row, place_tuple}
use Rattle.judge_within.specs.Chosen.{chosen}

unfoldable pub active_place : List ℕ → List ℕ → ℕ → Bool
active_place core round p = active (layout_of (place_table core p)) (place_words core round p) (place_row core p)

-- of a row's two tuples a core row sends the first, a round row the second
unfoldable pub sends_at : Table → ℕ → Bool
sends_at Core k = eqb (k % 2) 0
sends_at Round k = eqb (k % 2) 1

unfoldable pub sends : List ℕ → ℕ → Bool
sends core = followed_by (core_places core) (sends_at Core) (sends_at Round)

unfoldable pub place_index : List ℕ → ℕ → ℕ
place_index core = followed_by (core_places core) (λ k. first_index Core + k % 2) (λ k. first_index Round + k % 2)

unfoldable pub bad_place : ℕ → List ℕ → List ℕ → ℕ → Bool
bad_place nr core round p = active_place core round p && uneven (core_kind nr) round_kind core round (place_tuple nr core round p)

unfoldable pub unbalanced_at : List ℕ → ℕ → Verdict
unbalanced_at core p = Unbalanced (place_table core p) (place_row core p) (place_index core p)

-- "unbalanced tuple": the first place, or the tables hold (proofs/Balance.antt: `balance-is`)
unfoldable pub balance_of : ℕ → List ℕ → List ℕ → Verdict
balance_of nr core round = stage (first_at (bad_place nr core round) (place_count core round)) (unbalanced_at core) (Holds (actives core_layout core))

unfoldable pub stamp_place : List ℕ → ℕ → Bool
stamp_place core p = ltb p (core_places core) && eqb (p % 2) 0

unfoldable pub wanted : Bool → List ℕ → List ℕ → ℕ → Bool
wanted whole core round p = pick whole true (stamp_place core p) && active_place core round p

unfoldable pub arranged : Bool → ℕ → List ℕ → List ℕ → List ℕ
arranged whole nr core round = sorted_by (before (key_width whole) nr core round) (chosen (wanted whole core round) (place_count core round))
