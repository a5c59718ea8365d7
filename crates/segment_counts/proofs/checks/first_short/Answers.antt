-- `segment_counts::checks::first_short` meets its contract: one slice after the other.
use mathlib.Core.Path.{refl, sym, ◌∙◌}
use borrow.Author.Tests.{lt-ltb, le-ltb}
use Rattle.answer.proofs.Laws.{refuse-yes, refuse-no}
use Rattle.segment_counts.proofs.checks.first_short.Goals as goal

pub returns-then-counters-lt-NUM_COUNTERS : goal.returns-then-counters-lt-NUM_COUNTERS
returns-then-counters-lt-NUM_COUNTERS c = λ later. refuse-yes _ _ (lt-ltb _ _ c.if-counters-lt-NUM_COUNTERS.true) ∙ sym (refuse-yes _ _ (lt-ltb _ _ c.if-counters-lt-NUM_COUNTERS.true))

pub returns-then-copy-lt-NUM_COUNTERS : goal.returns-then-copy-lt-NUM_COUNTERS
returns-then-copy-lt-NUM_COUNTERS c =
    λ later. refuse-yes _ _ (lt-ltb _ _ c.if-copy-lt-NUM_COUNTERS.true) ∙ sym (refuse-no _ (le-ltb _ _ c.if-counters-lt-NUM_COUNTERS.false) (refuse-yes _ _ (lt-ltb _ _ c.if-copy-lt-NUM_COUNTERS.true)))

pub returns : goal.returns
returns c = λ later. sym (refuse-no _ (le-ltb _ _ c.if-counters-lt-NUM_COUNTERS.false) (refuse-no _ (le-ltb _ _ c.if-copy-lt-NUM_COUNTERS.false) refl))
