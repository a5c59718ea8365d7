-- `read_arguments`: there are words that say what the arguments so far say.
use Rattle.std.proofs.Common.{ℕ, ◌≡◌, List}
use Rattle.tally_arguments.specs.Arguments.{arguments_of}
use Rattle.tally.proofs.read_arguments.Given as goal

abbrev pub invariant-loop-i : goal.invariant-loop-i
invariant-loop-i g l = (words : List (List ℕ)) × (l.call ≡ arguments_of words)
