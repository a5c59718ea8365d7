-- `op_sums::padding` meets its contract: none where there is no operation and no table is shipped.
use native.Mathlib.Omega.{arith}
use Rattle.op_file.proofs.Totals.{padding-shipped, padding-empty, padding-else}
use Rattle.op_sums.proofs.padding.Goals as goal

pub overflow_sub-sent : goal.overflow_sub-sent
overflow_sub-sent c = omega (arith, c.requires.1)

pub overflow_mul-sent-2 : goal.overflow_mul-sent-2
overflow_mul-sent-2 c = omega (arith, c.requires.2)

pub returns-then-shipped : goal.returns-then-shipped
returns-then-shipped c = ((λ floor e. padding-shipped floor _ c.if-shipped.true e), omega (arith, c.requires.2))

pub returns-then-n-eq0 : goal.returns-then-n-eq0
returns-then-n-eq0 c = ((λ floor e. padding-empty floor _ c.if-shipped.false c.if-n-eq0.true), omega arith)

pub returns : goal.returns
returns c = ((λ floor e. padding-else floor _ c.if-shipped.false c.if-n-eq0.false e), omega (arith, c.requires.2))
