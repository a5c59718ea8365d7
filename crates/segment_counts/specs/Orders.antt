-- What operations charge one after the other.
--     operation_charged   what the rows of one operation add to counter c
--     padding_charged     what the padding rows of both tables add to it
--     charged_each        the counters after n operations, charged one after the other
-- proofs/Orders.antt: `one_by_one`, charging a list is charging its operations and then the padding of the whole.
use Rattle.std.specs.Prelude.{ℕ, zero, suc, ◌+◌, ◌-◌, ◌*◌, Bool, List}
use Rattle.bitwise.specs.Charge.{charged_row, charged, charged_counters}
use Rattle.keccak.specs.Height.{height}
use Rattle.keccak.specs.Row.{core_row, core_pad}
use Rattle.keccak.specs.Tuples.{core_tuple, NUM-TUPLES as CORE-TUPLES}
use Rattle.keccak.specs.declared.KeccakOperation.{KeccakOperation}
use Rattle.keccak_rnd.specs.Row.{round_height, op_row, round_pad}
use Rattle.keccak_rnd.specs.Tuples.{round_tuple, NUM-TUPLES as ROUND-TUPLES}
use Rattle.segment_counts.specs.Segment.{sent_rows}

-- its core row, and its nr round rows
unfoldable pub operation_charged : ℕ → KeccakOperation → ℕ → ℕ
operation_charged nr o c =
    charged_row CORE-TUPLES (core_tuple nr 0 (core_row o)) c + charged nr ROUND-TUPLES (λ j. round_tuple (op_row nr o j)) c

-- the rows that send and are no operation's
unfoldable pub padding_charged : ℕ → ℕ → Bool → ℕ → ℕ → ℕ
padding_charged nr floor shipped n c =
    charged (sent_rows shipped n (height floor n) - n) CORE-TUPLES (λ r. core_tuple nr 0 core_pad) c
    + charged (sent_rows shipped n (round_height nr floor n) - n * nr) ROUND-TUPLES (λ q. round_tuple round_pad) c

unfoldable pub charged_each : ℕ → (ℕ → KeccakOperation) → ℕ → List ℕ → List ℕ
charged_each nr op zero counters = counters
charged_each nr op (suc n) counters = charged_counters (charged_each nr op n counters) (operation_charged nr (op n))
