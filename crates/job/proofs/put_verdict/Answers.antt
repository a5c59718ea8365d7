-- `job::put_verdict` meets its contract: the verdict, its words, and where they are stored.
use Rattle.job.proofs.Words.{words-stored}
use Rattle.job.proofs.put_verdict.Goals as goal

pub verdict_by-requires : goal.verdict_by-requires
verdict_by-requires c = let h = c.requires in (h.0, h.1)

pub returns : goal.returns
returns c =
    words-stored _ _ _ _ _ c.verdict_words-words.ensures c.verdict_by.ensures c.put_words.ensures
