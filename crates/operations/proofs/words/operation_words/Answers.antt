-- `operation_words` meets its contract: each field is stored at its place, one behind the other.
use mathlib.Core.Path.{refl}
use lib.ListN.{replicate}
use borrow.Author.Rules.{rules}
use Rattle.keccak.proofs.Listed.{words-stored}
use Rattle.operations.proofs.words.operation_words.Goals as goal

pub returns : goal.returns
returns c =
    words-stored c.args.op (record { input = search rules; output = search rules }) (replicate 53 0) _ _ refl c.put_words.ensures c.put_words-2.ensures
