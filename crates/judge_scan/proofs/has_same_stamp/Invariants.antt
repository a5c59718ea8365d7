-- `judge_scan::has_same_stamp` meets its contract: no active row before q has the timestamp.
use mathlib.Core.Path.{◌≡◌}
use mathlib.Core.Option.{none}
use Rattle.lists.specs.First.{first, at_index}
use Rattle.verdict.specs.Verdict.{same_stamp_at}
use Rattle.verdict.specs.CoreAndRound.{core_layout}
use Rattle.judge_scan.proofs.has_same_stamp.Given as goal

abbrev pub invariant-loop-q : goal.invariant-loop-q
invariant-loop-q l = first (at_index (same_stamp_at core_layout l.core l.r)) l.q ≡ none
