-- `tuple_at_lem` meets its contract: one table, then the other.
use mathlib.Core.Path.{ap, subst, ◌∙◌}
use Rattle.answer.specs.Refusal.{overwrite}
use Rattle.tuple.specs.Tuple.{Tuple}
use Rattle.tuple.specs.Call.{interaction_of}
use Rattle.verdict.specs.declared.Table.{Table}
use Rattle.judge_scan.specs.Tables.{layout_of}
use Rattle.verdict_line.specs.Named.{Named}
use Rattle.verdict_line.proofs.Asked.{core_is, core-asked, round_is, round-asked}
use Rattle.verdict_line.proofs.tuple_at.Goals as goal

pub row_at-words-requires : goal.row_at-words-requires
unfolding layout_of
row_at-words-requires c = (subst (λ (t : Table). Named c.args.core.now c.args.round.now t c.args.row c.args.index) c.in-Core.is c.requires.0).there.0

pub row_tuple-requires : goal.row_tuple-requires
unfolding layout_of
row_tuple-requires c = core-asked _ _ _ _ _ _ _ _ c.requires.1 c.requires.0 c.in-Core.is c.row_at-words.ensures

pub row_at-words-requires-in-Round : goal.row_at-words-requires-in-Round
unfolding layout_of
row_at-words-requires-in-Round c = (subst (λ (t : Table). Named c.args.core.now c.args.round.now t c.args.row c.args.index) c.in-Round.is c.requires.0).there.0

pub row_tuple-requires-in-Round : goal.row_tuple-requires-in-Round
unfolding layout_of
row_tuple-requires-in-Round c = round-asked c.args.nr _ _ _ _ _ _ _ c.requires.1 c.requires.0 c.in-Round.is c.row_at-words-in-Round.ensures

pub returns-in-Core : goal.returns-in-Core
unfolding layout_of
returns-in-Core c =
    let e = c.row_tuple.ensures in
    let q = core_is c.args.nr _ _ _ _ _ _ _ c.requires.1 c.requires.0 c.in-Core.is c.row_at-words.ensures in
    record { answer = e.answer ∙ ap interaction_of q; words = e.words ∙ ap (λ (t : Tuple). overwrite t.values c.args.out.now) q }

pub returns-in-Round : goal.returns-in-Round
unfolding layout_of
returns-in-Round c =
    let e = c.row_tuple-in-Round.ensures in
    let q = round_is c.args.nr _ _ _ _ _ _ _ c.requires.1 c.requires.0 c.in-Round.is c.row_at-words-in-Round.ensures in
    record { answer = e.answer ∙ ap interaction_of q; words = e.words ∙ ap (λ (t : Tuple). overwrite t.values c.args.out.now) q }
