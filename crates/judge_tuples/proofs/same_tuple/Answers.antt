-- `judge_tuples::same_tuple` meets its contract, one test after the other.
use native.Mathlib.Omega.{arith}
use mathlib.Core.Path.{sym, ◌∙◌}
use Rattle.judge_tuples.proofs.Ports.{front_fits, stamp-apart, round-apart, by_state}
use Rattle.judge_tuples.proofs.same_tuple.Goals as goal

pub same_stamp-requires : goal.same_stamp-requires
same_stamp-requires c =
    let h = front_fits _ _ c.requires.0 in
    let g = front_fits _ _ c.requires.1 in (omega arith, omega arith)

pub returns-then-not-same_stamp : goal.returns-then-not-same_stamp
returns-then-not-same_stamp c = sym (stamp-apart _ _ _ _ (sym c.same_stamp.ensures ∙ c.if-not-same_stamp.true))

pub round_of-requires : goal.round_of-requires
round_of-requires c = c.requires.0

pub round_of-requires-2 : goal.round_of-requires-2
round_of-requires-2 c = c.requires.1

pub returns-then-round_of : goal.returns-then-round_of
returns-then-round_of c = round-apart _ _ _ _ (sym c.same_stamp.ensures ∙ c.if-not-same_stamp.false) _ _ c.round_of.ensures c.round_of-2.ensures c.if-round_of.true

pub same_state-requires : goal.same_state-requires
same_state-requires c = c.requires

pub returns : goal.returns
returns c = c.same_state.ensures ∙ by_state _ _ _ _ (sym c.same_stamp.ensures ∙ c.if-not-same_stamp.false) _ _ c.round_of.ensures c.round_of-2.ensures c.if-round_of.false
