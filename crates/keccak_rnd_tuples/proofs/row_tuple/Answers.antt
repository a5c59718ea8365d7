-- `keccak_rnd_tuples::row_tuple` meets its contract: the index in four cases.
use native.Mathlib.Omega.{arith}
use Rattle.tuple.proofs.Call.{as-tuple}
use Rattle.keccak_rnd_tuples.proofs.Tuples.{at-rc, keccak-size, rc-size}
use Rattle.keccak_rnd_tuples.proofs.row_tuple.Goals as goal

pub received-requires : goal.received-requires
received-requires c =
    let a = c.args in
    (c.requires.0.long, omega (arith, keccak-size a.row.now a.index (omega arith), c.requires.2))

pub sent-requires : goal.sent-requires
sent-requires c =
    let a = c.args in
    (c.requires.0.long, c.requires.0.below 2 (omega arith), omega (arith, keccak-size a.row.now a.index (omega arith), c.requires.2))

pub constant-requires : goal.constant-requires
constant-requires c =
    let a = c.args in
    (c.requires.0.long, omega (arith, rc-size a.row.now a.index (omega arith), c.requires.2))

pub returns : goal.returns
returns c =
    let a = c.args in
    let t = as-tuple _ (at-rc a.row.now a.index (omega arith)) c.constant.ensures.answer c.constant.ensures.words in record { answer = t.0; words = t.1 }
