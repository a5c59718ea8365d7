-- `same_operation` meets its contract: what is compared is the operation's words.
use mathlib.Core.Path.{ap, ◌∙◌}
use mathlib.Core.Bool.{not}
use mathlib.Core.List.{List}
use Prim.Native.Nat.{ℕ}
use Rattle.lists.specs.First.{any_below}
use Rattle.lists.specs.Select.{words_differ}
use Rattle.operations.proofs.words.same_operation.Goals as goal

pub returns : goal.returns
returns c =
    c.same_words.ensures
    ∙ ap (λ (w : List ℕ). not (any_below (words_differ c.args.ops.now c.args.at w 0) 53)) c.operation_words-words.ensures
