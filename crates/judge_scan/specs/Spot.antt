-- The answer of a scan over rows and the indices of a row, as code gives it.
use Rattle.std.proofs.Math.Option.{Option, none, some}
use Rattle.std.specs.Prelude.{ℕ, Some, None}
use Rattle.std.specs.declared.option.Option as code
use Rattle.judge_scan.specs.declared.Spot.{Spot}

abbrev pub spot : ℕ → ℕ → Spot
spot row index = record { row = row; index = index }

abbrev pub spot_of : Option (ℕ × ℕ) → code.Option Spot
spot_of none = None
spot_of (some x) = Some (spot x.0 x.1)
