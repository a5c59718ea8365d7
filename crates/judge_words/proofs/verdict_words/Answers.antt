-- `judge_words::verdict_words` meets its contract: one case after the other.
use mathlib.Core.Path.{sym, ap, ◌∙◌}
use Rattle.verdict.specs.Verdict.{verdict_words}
use Rattle.judge_words.proofs.verdict_words.Goals as goal

pub returns-in-Holds : goal.returns-in-Holds
returns-in-Holds c = rw c.in-Holds.is

pub returns-in-Value : goal.returns-in-Value
returns-in-Value c = c.value_words.ensures ∙ ap verdict_words (sym c.in-Value.is)

pub returns-in-Lookup : goal.returns-in-Lookup
returns-in-Lookup c = c.lookup_words.ensures ∙ ap verdict_words (sym c.in-Lookup.is)

pub returns-in-Repeated : goal.returns-in-Repeated
returns-in-Repeated c = rw c.in-Repeated.is

pub returns-in-Unbalanced : goal.returns-in-Unbalanced
returns-in-Unbalanced c = c.unbalanced_words.ensures ∙ ap verdict_words (sym c.in-Unbalanced.is)

pub returns-in-Refused : goal.returns-in-Refused
returns-in-Refused c = rw (c.in-Refused.is, c.number.ensures, c.detail.ensures)
