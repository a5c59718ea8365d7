-- `segment_counts::beforehand::look_word` meets its contract.
use Rattle.segment_counts.proofs.Looking.{word_even, word-odd}
use Rattle.segment_counts.proofs.beforehand.look_word.Goals as goal

pub returns-then-j-eq0 : goal.returns-then-j-eq0
returns-then-j-eq0 c = word_even c.args.sums c.args.most c.args.j c.if-j-eq0.true

pub returns : goal.returns
returns c = word-odd c.args.sums c.args.most c.args.j c.if-j-eq0.false
