-- A round table of which only the 911 kept tuples of a row are asked for (keccak_rnd_lean/specs/Lean.antt), in every row, active or not.
--     LeanTable     whole rows of words below p, each of which passes these
--     LeanAnswers   and it balances the Keccak bus with a core table
-- proofs/LeanTables.antt: such a table exists exactly where one exists that passes all 1,031, and has the same active rows.
use Rattle.std.specs.Prelude.{List, ℕ, ◌<◌}
use Rattle.keccak_rnd_lean.specs.Lean.{LeanPasses}
use Rattle.verdict.specs.Kind.{rows, row, Whole, Elements, Balanced}
use Rattle.verdict.specs.CoreAndRound.{round_layout, core_kind, round_kind}

pub record LeanTable (round : List ℕ) : Type 0 where
  pub whole : Whole round_layout round
  pub below : Elements round
  pub each : (r : ℕ) → r < rows round_layout round → LeanPasses (row round_layout round r)

-- the two Keccak tuples of a row are among the kept ones, so that the bus is the same
pub record LeanAnswers (nr : ℕ) (core round : List ℕ) : Type 0 where
  pub passes : LeanTable round
  pub balanced : Balanced (core_kind nr) round_kind core round
