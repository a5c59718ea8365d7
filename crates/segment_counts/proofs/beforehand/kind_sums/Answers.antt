-- `segment_counts::beforehand::kind_sums` meets its contract: the numbers that the rows have of each kind.
use native.Mathlib.Omega.{arith}
use Rattle.keccak_rnd.proofs.Rows.{few-rows}
use Rattle.segment_counts.proofs.Segments.{sent-most}
use Rattle.segment_counts.proofs.Looking.{sums-listed}
use Rattle.segment_counts.proofs.beforehand.kind_sums.Goals as goal

pub overflow_mul-rounds : goal.overflow_mul-rounds
overflow_mul-rounds c = omega (arith, few-rows c.args.nr c.args.n c.requires.0 c.requires.2)

pub overflow_mul-result-2 : goal.overflow_mul-result-2
overflow_mul-result-2 c =
    omega (arith, c.sent_rows-sent.ensures, sent-most c.args.nr c.args.floor c.args.shipped c.args.n c.requires.0 c.requires.1 c.requires.2)

pub overflow_add-result : goal.overflow_add-result
overflow_add-result c =
    omega (arith, c.sent_rows-sent.ensures, sent-most c.args.nr c.args.floor c.args.shipped c.args.n c.requires.0 c.requires.1 c.requires.2)

pub overflow_mul-result-4 : goal.overflow_mul-result-4
overflow_mul-result-4 c = omega (arith, few-rows c.args.nr c.args.n c.requires.0 c.requires.2)

pub overflow_add-result-2 : goal.overflow_add-result-2
overflow_add-result-2 c = omega (arith, few-rows c.args.nr c.args.n c.requires.0 c.requires.2)

pub overflow_mul-result-5 : goal.overflow_mul-result-5
overflow_mul-result-5 c = omega (arith, few-rows c.args.nr c.args.n c.requires.0 c.requires.2)

pub returns : goal.returns
returns c = sums-listed _ _ _ _ _ c.sent_rows-sent.ensures
