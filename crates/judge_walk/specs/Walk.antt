-- The walk along the Keccak bus of nr rounds over rows in the writer's order, by recursion on the rows that are left.
--     chain_from     the round row after the chain of core row a that begins at row b
--     active_from    the first active round row from one on, or the end
--     walked        how far the walk comes: it stops at the first active core row that has no chain where it should begin
use Rattle.std.specs.Prelude.{List, ℕ, zero, suc, ◌+◌, ◌-◌}
use Rattle.lists.specs.Tab.{pick}
use Rattle.verdict.specs.Kind.{rows, active}
use Rattle.verdict.specs.CoreAndRound.{core_layout, round_layout}
use Rattle.judge_links.specs.Even.{takes_at, ends_at, on_place}
use Rattle.judge_walk.specs.declared.Walked.{Walked}
use Rattle.std.specs.Prelude.{Some, None}
use Rattle.lists.specs.First.{Place}

-- each active row from q on receives what the one before it sent, until core row a receives what one sends
unfoldable pub chain_to : ℕ → List ℕ → ℕ → List ℕ → Place → ℕ → ℕ → Place
chain_to nr core a round last q zero = None
chain_to nr core a round last q (suc n) =
    pick (active round_layout round q)
    (pick (takes_at nr core a round last q)
    (pick (ends_at core a round q) (Some (q + 1)) (chain_to nr core a round (Some q) (q + 1) n))
    None)
    (chain_to nr core a round last (q + 1) n)

abbrev pub chain_from : ℕ → List ℕ → ℕ → List ℕ → ℕ → Place
chain_from nr core a round b = chain_to nr core a round None b (rows round_layout round - b)

unfoldable pub active_to : List ℕ → ℕ → ℕ → ℕ
active_to round q zero = q
active_to round q (suc n) = pick (active round_layout round q) q (active_to round (q + 1) n)

abbrev pub active_from : List ℕ → ℕ → ℕ
active_from round b = active_to round b (rows round_layout round - b)

-- the walk from core row a and round row b on, n core rows being left
unfoldable pub walk_to : ℕ → List ℕ → List ℕ → ℕ → ℕ → ℕ → Walked
walk_to nr core round a b zero = record { core = a; round = b }
walk_to nr core round a b (suc n) =
    pick (active core_layout core a)
    (on_place (λ next. walk_to nr core round (a + 1) next n) (record { core = a; round = b }) (chain_from nr core a round b))
    (walk_to nr core round (a + 1) b n)

-- round rows behind it that are not active are passed too
unfoldable pub skipped : List ℕ → Walked → Walked
skipped round w = record { core = w.core; round = active_from round w.round }

abbrev pub walked : ℕ → List ℕ → List ℕ → Walked
walked nr core round = skipped round (walk_to nr core round 0 0 (rows core_layout core))
