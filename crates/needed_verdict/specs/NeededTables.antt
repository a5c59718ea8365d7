-- Without rule j of a round row (keccak_rnd_needed/specs/Needed.antt) demand 3 would be false.
--     TableBut      a round table of active rows, all whose rules hold but rule j, of which nothing is said
--     Deceives      it balances the Keccak bus with a core table that is as demand 3 supposes, and whose active row 0 is not computed
--     false_round    the rows of k rounds as they are written, and that of round 23 bent at rule j
--     false_core     the written core table of one operation whose output is what that row sends
-- proofs/NeededTables.antt: `each-deceives`, for each needed j, for 1 to 24 rounds, any timestamp, address and INPUT.
use Rattle.std.specs.Prelude.{List, ℕ, suc, ◌+◌, ◌-◌, ◌<◌}
use Rattle.lists.specs.Tab.{followed_by, table_of}
use Rattle.bits.specs.Bits.{word_at}
use Rattle.fips202.specs.Lanes.{rounds_l}
use Rattle.keccak.specs.Row.{core_table}
use Rattle.keccak.specs.declared.KeccakOperation.{KeccakOperation}
use Rattle.keccak_rnd.specs.Columns.{NUM-COLUMNS}
use Rattle.keccak_rnd.specs.Row.{round_row}
use Rattle.keccak_rnd.specs.Tuples.{out_lanes}
use Rattle.keccak_rnd_needed.specs.Needed.{PassesBut}
use Rattle.keccak_rnd_needed.specs.Bent.{bent_row}
use Rattle.verdict.specs.Kind.{rows, row, Whole, Active, Balanced}
use Rattle.verdict.specs.CoreAndRound.{core_layout, round_layout, core_kind, round_kind}
use Rattle.verdict.specs.Claims.{Computed, SupposedAt}

pub record TableBut (j : ℕ) (round : List ℕ) : Type 0 where
  pub whole : Whole round_layout round
  pub each : (r : ℕ) → r < rows round_layout round → PassesBut j (row round_layout round r)

pub record Deceives (j nr : ℕ) (core round : List ℕ) : Type 0 where
  pub supposed : SupposedAt nr core
  pub passes : TableBut j round
  pub balanced : Balanced (core_kind nr) round_kind core round
  pub on : Active core_layout core 0
  pub wrong : Computed nr (row core_layout core 0) → ⊥

-- ---- suc k rounds, from round 23 - k on, at timestamp t from the state s
unfoldable pub before : ℕ → List ℕ → ℕ → List ℕ
before k s q = rounds_l (24 - suc k) q s

abbrev pub last_row : ℕ → ℕ → ℕ → List ℕ → List ℕ
last_row j k t s = bent_row j (word_at t) 23 (before k s k)

unfoldable pub false_row : ℕ → ℕ → ℕ → List ℕ → ℕ → List ℕ
false_row j k t s = followed_by k (λ q. round_row (word_at t) (23 - k + q) (before k s q)) (λ q. last_row j k t s)

unfoldable pub false_round : ℕ → ℕ → ℕ → List ℕ → List ℕ
false_round j k t s = table_of (suc k) NUM-COLUMNS (false_row j k t s)

abbrev pub false_operation : ℕ → ℕ → ℕ → ℕ → List ℕ → KeccakOperation
false_operation j k t a s = record { timestamp = t; state_addr = a; input = s; output = out_lanes (last_row j k t s); segment = 0 }

unfoldable pub false_core : ℕ → ℕ → ℕ → ℕ → List ℕ → List ℕ
false_core j k t a s = core_table 1 1 (λ i. false_operation j k t a s)
