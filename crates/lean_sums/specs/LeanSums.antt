-- The buses as a prover checks them (bus_sums/specs/Sums.antt), where the rows of the round table send the kept tuples alone (keccak_rnd_lean/specs/Lean.antt).
--     kept_tuple      tuple i of a round row; one that is not kept is sent no times
--     kept_kind       the round tables, with these tuples
--     LeanSumsHold   what is supposed: as `SumsHold`, but that the round table adds what its kept tuples add
--     LeanFilled     there are words to write into the tables that are looked up for which it holds
-- proofs/LeanSums.antt: what follows, and that it can be met.
use Rattle.std.specs.Prelude.{List, [], ◌≡◌, ℕ, ◌+◌, ◌%◌, ◌≤◌}
use Rattle.lists.specs.Tab.{pick}
use Rattle.field.specs.Field.{p}
use Rattle.tuple.specs.Tuple.{Tuple}
use Rattle.tuple.specs.declared.Bus.{Bus}
use Rattle.tuple.specs.declared.Bus.TheVariants.{Keccak}
use Rattle.tuple.specs.declared.Side.{Side}
use Rattle.tuple.specs.declared.Side.TheVariants.{Sender, Receiver}
use Rattle.keccak_rnd.specs.Values.{NUM-VALUES, round_value}
use Rattle.keccak_rnd.specs.Tuples.{NUM-TUPLES, round_tuple}
use Rattle.keccak_rnd_lean.specs.Lean.{kept}
use Rattle.verdict.specs.Kind.{Kind, rows}
use Rattle.verdict.specs.CoreAndRound.{round_layout, core_kind, round_kind}
use Rattle.bus_sums.specs.Sums.{Fillings, table_share, is_wh_layout, bus_total, Ours, Constrained, InField, nobody, MAX-PAIRS, MAX-SENDS}

-- a tuple that is not sent
abbrev pub unsent : Tuple → Tuple
unsent t = record { bus = t.bus; side = t.side; multiplicity = 0; values = t.values }

unfoldable pub kept_tuple : List ℕ → ℕ → Tuple
kept_tuple row i = pick (kept i) (round_tuple row i) (unsent (round_tuple row i))

abbrev pub kept_kind : Kind
kept_kind = record { layout = round_layout; values = NUM-VALUES; value = round_value; tuples = NUM-TUPLES; tuple = kept_tuple }

-- the sum of one side of a bus: the other four tables', which is the sum with an empty round table, and what the kept tuples add
unfoldable pub lean_total : ℕ → List ℕ → List ℕ → Fillings → Side → Bus → List ℕ → ℕ
lean_total nr core round w s b v = bus_total nr core [] w s b v + table_share s b v kept_kind round

pub record LeanSumsHold (nr : ℕ) (core round : List ℕ) (w : Fillings) (others : Bus → List ℕ → ℕ) : Type 0 where
  pub core-constrained : Constrained (core_kind nr) core
  pub round-constrained : Constrained round_kind round
  pub few-pairs : rows is_wh_layout w.is-wh ≤ MAX-PAIRS
  pub few-others : (b : Bus) (v : List ℕ) → others b v ≤ MAX-SENDS
  pub no-others : (v : List ℕ) → others Keccak v ≡ 0
  pub agree : (b : Bus) → Ours b → (v : List ℕ) → (lean_total nr core round w Sender b v + others b v) % p ≡ lean_total nr core round w Receiver b v % p

abbrev pub LeanFilled : ℕ → List ℕ → List ℕ → Type 0
LeanFilled nr core round = (w : Fillings) × InField w × LeanSumsHold nr core round w nobody
