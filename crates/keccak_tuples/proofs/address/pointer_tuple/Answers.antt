-- `keccak_tuples::address::pointer_tuple` meets its contract: IS_WHH from the pointer's first column.
use native.Mathlib.Omega.{arith}
use Rattle.tuple.proofs.Call.{fits, as-tuple}
use Rattle.keccak.proofs.Tuples.{pointer_is}
use Rattle.keccak_tuples.proofs.address.pointer_tuple.Goals as goal

pub is_whh-requires : goal.is_whh-requires
is_whh-requires c = (omega arith, fits _ (pointer_is c.args.row.now c.args.i c.args.j) c.requires.2)

pub returns : goal.returns
returns c =
    let t = as-tuple _ (pointer_is c.args.row.now c.args.i c.args.j) c.is_whh.ensures.answer c.is_whh.ensures.words in
    record { answer = t.0; words = t.1 }
