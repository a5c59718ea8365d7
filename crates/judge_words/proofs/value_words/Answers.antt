-- `judge_words::value_words` meets its contract: one table, then the other.
use Rattle.judge_words.proofs.value_words.Goals as goal

pub returns-in-Core : goal.returns-in-Core
returns-in-Core c = rw c.in-Core.is

pub returns-in-Round : goal.returns-in-Round
returns-in-Round c = rw c.in-Round.is
