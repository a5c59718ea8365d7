-- `keccak_tuples::head_tuple` meets its contract: the tuple of the index, in four cases.
use native.Mathlib.Omega.{arith}
use Rattle.tuple.proofs.Call.{as-tuple, room}
use Rattle.keccak.proofs.Tuples.{addr-length, sent-length, received-length, is-ecall, is-addr, is-sent, is-received, ecall-length}
use Rattle.keccak_tuples.proofs.head_tuple.Goals as goal

pub ecall_tuple-requires : goal.ecall_tuple-requires
ecall_tuple-requires c = (c.requires.0.long, room (is-ecall _ _ _ _ c.if-index-eq0.true) (ecall-length _ _) c.requires.2)

pub returns-then-index-eq0 : goal.returns-then-index-eq0
returns-then-index-eq0 c =
    let e = is-ecall c.args.nr c.args.syscall c.args.row.now c.args.index c.if-index-eq0.true in
    let t = as-tuple _ e c.ecall_tuple.ensures.answer c.ecall_tuple.ensures.words in
    record { answer = t.0; words = t.1 }

pub addr_memw-requires : goal.addr_memw-requires
addr_memw-requires c = (c.requires.0, room (is-addr _ _ _ _ c.if-index-eq1.true) (addr-length _) c.requires.2)

pub returns-then-index-eq1 : goal.returns-then-index-eq1
returns-then-index-eq1 c =
    let e = is-addr c.args.nr c.args.syscall c.args.row.now c.args.index c.if-index-eq1.true in
    let t = as-tuple _ e c.addr_memw.ensures.answer c.addr_memw.ensures.words in
    record { answer = t.0; words = t.1 }

pub keccak_sent-requires : goal.keccak_sent-requires
keccak_sent-requires c =
    (c.requires.0.long, room (is-sent _ _ _ _ c.if-index-eq2.true) (sent-length _ c.args.nr) c.requires.2)

pub returns-then-index-eq2 : goal.returns-then-index-eq2
returns-then-index-eq2 c =
    let e = is-sent c.args.nr c.args.syscall c.args.row.now c.args.index c.if-index-eq2.true in
    let t = as-tuple _ e c.keccak_sent.ensures.answer c.keccak_sent.ensures.words in
    record { answer = t.0; words = t.1 }

pub keccak_received-requires : goal.keccak_received-requires
keccak_received-requires c =
    (c.requires.0.long, room (is-received _ _ _ _ (omega arith)) (received-length _) c.requires.2)

pub returns : goal.returns
returns c =
    let e = is-received c.args.nr c.args.syscall c.args.row.now c.args.index (omega arith) in
    let t = as-tuple _ e c.keccak_received.ensures.answer c.keccak_received.ensures.words in
    record { answer = t.0; words = t.1 }
