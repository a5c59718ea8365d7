-- `month::put_month` meets its contract: the eight words, those of the heights, and the last (Writing.antt).
use Rattle.month.proofs.Writing.{month-put, last_one, last_none}
use Rattle.month.proofs.put_month.Goals as goal

pub returns-then-counts-eq0 : goal.returns-then-counts-eq0
returns-then-counts-eq0 c =
    month-put _ _ _ _ _ _ _ _ c.requires.1 c.first_words-first.ensures c.file_counts-files.ensures (last_none _ _ _ c.if-counts-eq0.true) c.put_words.ensures c.put_words-2.ensures

pub returns-else-counts-eq0 : goal.returns-else-counts-eq0
returns-else-counts-eq0 c =
    month-put _ _ _ _ _ _ _ _ c.requires.1 c.first_words-first.ensures c.file_counts-files.ensures (last_one _ _ _ c.if-counts-eq0.false) c.put_words.ensures c.put_words-2.ensures
