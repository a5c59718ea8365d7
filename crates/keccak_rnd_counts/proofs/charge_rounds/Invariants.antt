-- `keccak_rnd_counts::charge_rounds` meets its contract: after j turns j rows are charged, and the lanes are those after j
-- rounds.
use mathlib.Core.Path.{◌≡◌}
use Prim.Native.Nat.{ℕ, ◌+◌, ◌-◌}
use Rattle.bitwise.specs.Charge.{charged_row}
use Rattle.fips202.specs.Lanes.{rounds_l}
use Rattle.keccak_rnd.specs.Row.{round_row}
use Rattle.keccak_rnd.specs.Tuples.{round_tuple}
use Rattle.keccak_rnd_counts.proofs.Charging.{Parts}
use Rattle.keccak_rnd_counts.proofs.charge_rounds.Given as goal

abbrev pub invariant-loop-j : goal.invariant-loop-j
invariant-loop-j l =
    (l.lanes ≡ rounds_l (24 - l.nr) l.j l.fn.first)
    × ((stamp : ℕ → ℕ) → Parts l.nr (λ j. charged_row 1031 (round_tuple (round_row stamp (24 - l.nr + j) (rounds_l (24 - l.nr) j l.fn.first)))) l.initial.counters l.counters l.j)
