-- `judge_rows::or_of` meets its contract: after i turns it is the OR of the first i.
use mathlib.Core.Path.{◌≡◌}
use Rattle.lists.specs.Tab.{word}
use Rattle.residue.specs.Residue.{or_all}
use Rattle.judge_rows.proofs.or_of.Given as goal

abbrev pub invariant-loop-i : goal.invariant-loop-i
invariant-loop-i l = l.all ≡ or_all l.i (word l.words)
