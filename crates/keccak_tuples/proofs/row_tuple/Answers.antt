-- `keccak_tuples::row_tuple` meets its contract: the tuple of the index, in three cases.
use native.Mathlib.Omega.{arith}
use Rattle.tuple.proofs.Call.{fits, as-tuple}
use Rattle.keccak.proofs.Tuples.{is_pointer}
use Rattle.keccak_tuples.proofs.row_tuple.Goals as goal

pub pointer_tuple-requires : goal.pointer_tuple-requires
pointer_tuple-requires c =
    (c.requires.0.long, omega arith, fits _ (is_pointer _ _ _ _ (omega arith) c.if-index-lt-ALIGN_TUPLE.true) c.requires.2)

pub returns-then-index-lt-ALIGN_TUPLE : goal.returns-then-index-lt-ALIGN_TUPLE
returns-then-index-lt-ALIGN_TUPLE c =
    let a = c.args in
    let e = is_pointer a.nr a.syscall a.row.now a.index (omega arith) c.if-index-lt-ALIGN_TUPLE.true in
    let t = as-tuple _ e c.pointer_tuple.ensures.answer c.pointer_tuple.ensures.words in
    record { answer = t.0; words = t.1 }
