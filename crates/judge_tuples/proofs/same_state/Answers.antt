-- `judge_tuples::same_state` meets its contract: the first lane decides, then the others.
use mathlib.Core.Path.{ap}
use Prim.Native.Nat.{ℕ, ◌+◌}
use native.Mathlib.Omega.{arith}
use Rattle.judge_tuples.proofs.Ports.{lane-fits, rest-fits, rest-small, lane-apart, by-rest}
use Rattle.judge_tuples.proofs.same_state.Goals as goal

pub same_words-requires : goal.same_words-requires
same_words-requires c = (lane-fits _ _ _ c.lane_at-here.ensures c.requires.0, lane-fits _ _ _ c.lane_at-there.ensures c.requires.1)

pub returns-then-not-same_words : goal.returns-then-not-same_words
returns-then-not-same_words c = lane-apart _ _ _ _ _ _ c.lane_at-here.ensures c.lane_at-there.ensures _ c.same_words.ensures c.if-not-same_words.true

pub overflow_add-from : goal.overflow_add-from
overflow_add-from c = let h = rest-small _ _ c.rest_at-from.ensures in omega arith

pub overflow_add-to : goal.overflow_add-to
overflow_add-to c = let h = rest-small _ _ c.rest_at-to.ensures in omega arith

pub same_words-requires-2 : goal.same_words-requires-2
same_words-requires-2 c = (rest-fits _ _ _ c.rest_at-from.ensures c.requires.0, rest-fits _ _ _ c.rest_at-to.ensures c.requires.1)

pub returns : goal.returns
returns c = by-rest _ _ _ _ _ _ c.lane_at-here.ensures c.lane_at-there.ensures _ c.same_words.ensures c.if-not-same_words.false _ _ _ (ap (λ (n : ℕ). n + 8) c.rest_at-from.ensures) (ap (λ (n : ℕ). n + 8) c.rest_at-to.ensures) c.same_words-2.ensures
