-- `keccak_tuples::tail_tuple` meets its contract: the tuple of the index, in three cases.
use native.Mathlib.Omega.{arith}
use Rattle.tuple.proofs.Call.{as-tuple, room}
use Rattle.keccak.proofs.Tuples.{align-length, bytes-length, lane-length, is-align, is-bytes, is-lane}
use Rattle.keccak_tuples.proofs.tail_tuple.Goals as goal

pub align_tuple-requires : goal.align_tuple-requires
align_tuple-requires c =
    (c.requires.0.long, room (is-align _ _ _ _ c.if-index-eq-ALIGN_TUPLE.true) (align-length _) c.requires.3)

pub returns-then-index-eq-ALIGN_TUPLE : goal.returns-then-index-eq-ALIGN_TUPLE
returns-then-index-eq-ALIGN_TUPLE c =
    let e = is-align c.args.nr c.args.syscall c.args.row.now c.args.index c.if-index-eq-ALIGN_TUPLE.true in
    let t = as-tuple _ e c.align_tuple.ensures.answer c.align_tuple.ensures.words in
    record { answer = t.0; words = t.1 }

pub addr_bytes_tuple-requires : goal.addr_bytes_tuple-requires
addr_bytes_tuple-requires c = (
  c.requires.0.long,
  omega arith,
  room (is-bytes _ _ _ _ (omega arith) c.if-index-lt-LANE_TUPLES.true) (bytes-length _ _) c.requires.3,
)

pub returns-then-index-lt-LANE_TUPLES : goal.returns-then-index-lt-LANE_TUPLES
returns-then-index-lt-LANE_TUPLES c =
    let e = is-bytes c.args.nr c.args.syscall c.args.row.now c.args.index (omega arith) c.if-index-lt-LANE_TUPLES.true in
    let t = as-tuple _ e c.addr_bytes_tuple.ensures.answer c.addr_bytes_tuple.ensures.words in
    record { answer = t.0; words = t.1 }

pub lane_memw-requires : goal.lane_memw-requires
lane_memw-requires c =
    (c.requires.0, omega arith, room (is-lane _ _ _ _ c.if-index-lt-LANE_TUPLES.false) (lane-length _ _) c.requires.3)

pub returns : goal.returns
returns c =
    let e = is-lane c.args.nr c.args.syscall c.args.row.now c.args.index c.if-index-lt-LANE_TUPLES.false in
    let t = as-tuple _ e c.lane_memw.ensures.answer c.lane_memw.ensures.words in
    record { answer = t.0; words = t.1 }
