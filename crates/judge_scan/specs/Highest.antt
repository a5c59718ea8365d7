-- The highest timestamp of the active rows that a scan has passed.
use Rattle.std.specs.Prelude.{Bool, ℕ, ◌+◌, ◌*◌, ◌^◌, leb}
use Rattle.lists.specs.Tab.{pick}
use Rattle.judge_scan.specs.declared.Highest.{Highest}

-- the least key above it; a timestamp's key is high · 2^64 + low
unfoldable pub bound_of : Highest → ℕ
bound_of t = pick t.some (t.high * 2 ^ 64 + t.low + 1) 0

-- whether a timestamp is above it
unfoldable pub exceeds : Highest → ℕ → ℕ → Bool
exceeds t high low = leb (bound_of t) (high * 2 ^ 64 + low)
