-- `keccak_tuples::tuple_length` meets its contract: the length of each.
use native.Mathlib.Omega.{arith}
use Rattle.tuple.proofs.Call.{length-of}
use Rattle.keccak.proofs.Tuples.{pointer-length, align-length, bytes-length, lane-length, is_pointer, is-align, is-bytes, is-lane}
use Rattle.keccak_tuples.proofs.tuple_length.Goals as goal

pub returns-then-index-lt-ALIGN_TUPLE : goal.returns-then-index-lt-ALIGN_TUPLE
returns-then-index-lt-ALIGN_TUPLE c nr syscall row = length-of (is_pointer nr syscall row _ (omega arith) c.if-index-lt-ALIGN_TUPLE.true) (pointer-length row _ _ (omega arith))

pub returns-then-index-eq-ALIGN_TUPLE : goal.returns-then-index-eq-ALIGN_TUPLE
returns-then-index-eq-ALIGN_TUPLE c nr syscall row = length-of (is-align nr syscall row _ c.if-index-eq-ALIGN_TUPLE.true) (align-length row)

pub returns-then-index-lt-LANE_TUPLES : goal.returns-then-index-lt-LANE_TUPLES
returns-then-index-lt-LANE_TUPLES c nr syscall row = length-of (is-bytes nr syscall row _ (omega arith) c.if-index-lt-LANE_TUPLES.true) (bytes-length row _)

pub returns-else-index-lt-LANE_TUPLES : goal.returns-else-index-lt-LANE_TUPLES
returns-else-index-lt-LANE_TUPLES c nr syscall row = length-of (is-lane nr syscall row _ c.if-index-lt-LANE_TUPLES.false) (lane-length row _)
