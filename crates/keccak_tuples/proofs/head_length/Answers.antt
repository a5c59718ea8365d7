-- `keccak_tuples::head_length` meets its contract: the length of each.
use native.Mathlib.Omega.{arith}
use Rattle.lists.proofs.Then.{by_le}
use Rattle.tuple.proofs.Call.{length-of}
use Rattle.keccak.proofs.Tuples.{addr-length, sent-length, received-length, is-ecall, is-addr, is-sent, is-received, ecall-length}
use Rattle.keccak_tuples.proofs.head_length.Goals as goal

pub returns-then-index-eq0 : goal.returns-then-index-eq0
returns-then-index-eq0 c nr syscall row = length-of (is-ecall nr syscall row _ c.if-index-eq0.true) (ecall-length row syscall)

pub returns-then-index-eq1 : goal.returns-then-index-eq1
returns-then-index-eq1 c nr syscall row = length-of (is-addr nr syscall row _ c.if-index-eq1.true) (addr-length row)

pub returns-else-index-eq1 : goal.returns-else-index-eq1
returns-else-index-eq1 c nr syscall row =
    let i = c.args.index in
    by_le i 2
    (λ h. length-of (is-sent nr syscall row i (omega arith)) (sent-length row nr))
    (λ h. length-of (is-received nr syscall row i (omega arith)) (received-length row))
