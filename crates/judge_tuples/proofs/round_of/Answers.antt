-- `judge_tuples::round_of` meets its contract, arm by arm.
use mathlib.Core.Path.{ap, ◌∙◌}
use native.Mathlib.Omega.{arith}
use Rattle.judge_scan.specs.Tables.{layout_of}
use Rattle.judge_tuples.specs.Port.{table_of, width_of, round_of}
use Rattle.judge_tuples.proofs.Ports.{told-round}
use Rattle.judge_tuples.proofs.round_of.Goals as goal

pub bounds-row-2 : goal.bounds-row-2
unfolding width_of table_of layout_of
bounds-row-2 c = omega (arith, c.requires, ap width_of c.in-RoundReceive.is)

pub bounds-row-2-in-RoundSend : goal.bounds-row-2-in-RoundSend
unfolding width_of table_of layout_of
bounds-row-2-in-RoundSend c = omega (arith, c.requires, ap width_of c.in-RoundSend.is)

pub returns-in-CoreSend : goal.returns-in-CoreSend
unfolding round_of
returns-in-CoreSend c = c.first_round.ensures ∙ told-round _ c.in-CoreSend.is

pub returns-in-CoreReceive : goal.returns-in-CoreReceive
unfolding round_of
returns-in-CoreReceive c = told-round _ c.in-CoreReceive.is

pub returns-in-RoundReceive : goal.returns-in-RoundReceive
unfolding round_of
returns-in-RoundReceive c = told-round _ c.in-RoundReceive.is

pub returns-in-RoundSend : goal.returns-in-RoundSend
unfolding round_of
returns-in-RoundSend c = c.next.ensures ∙ told-round _ c.in-RoundSend.is
