-- `read_arguments`: before the first argument there is no word, and each argument is one word more.
use Rattle.std.proofs.Common.{ℕ, ◌≡◌, List, [], ◌∷◌, ◌++◌, sym, ap, ◌∙◌}
use Rattle.tally_arguments.specs.Arguments.{argument_of, arguments_from, arguments_of}
use Rattle.tally_arguments.specs.declared.Call.{Call}
use Rattle.tally_arguments.proofs.Laws.{from-append}
use Rattle.tally.proofs.read_arguments.Goals as goal

-- there are words that say this
abbrev Said : Call → Type 0
Said c = (words : List (List ℕ)) × (c ≡ arguments_of words)

-- and one word more
said_more : {c d : Call} (w : List ℕ) → Said c → d ≡ argument_of c w → Said d
unfolding arguments_of arguments_from
said_more w (ws, e) h =
    (ws ++ (w ∷ []), h ∙ ap (λ (x : Call). argument_of x w) e ∙ sym (from-append _ ws (w ∷ [])))

pub loop-i-init : goal.loop-i-init
unfolding arguments_of arguments_from
loop-i-init g c = ([], c.no_arguments-call.ensures)

pub loop-i-preserved : goal.loop-i-preserved
loop-i-preserved g c = said_more _ c.loop-i.invariant c.read_argument-call.ensures
