-- `put_operation` meets its contract: what is stored is the operation's words.
use mathlib.Core.Path.{◌≡◌, sym, ap, ◌∙◌}
use lib.ListN.{length}
use lib.Seq.{sets}
use Rattle.lists.proofs.Laws.{list-tab}
use borrow.Author.Rules.{rules}
use Rattle.operations.proofs.words.put_operation.Goals as goal

pub returns : goal.returns
returns c =
    let words = c.operation_words-words in
    let n : length words.result ≡ 53 = search rules in
    c.put_words.ensures ∙ ap (sets c.args.ops.now c.args.at) (sym (list-tab words.result 53 n) ∙ words.ensures)
