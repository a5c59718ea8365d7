-- `compare::is_record` meets its contract: both halves of the timestamp, then the bytes.
use mathlib.Core.Path.{◌∙◌}
use native.Mathlib.Omega.{arith}
use Rattle.same_operations.proofs.Equal.{low-apart, high-apart, by_bytes}
use Rattle.same_operations.proofs.compare.is_record.Goals as goal

pub returns-then-core-at : goal.returns-then-core-at
returns-then-core-at c = low-apart _ _ _ _ _ c.requires.2 (λ b. omega (arith, c.shared_slice_known-2-1.given b)) c.if-core-at.true

pub returns-then-core-at-2 : goal.returns-then-core-at-2
returns-then-core-at-2 c = high-apart _ _ _ _ _ c.requires.2 (λ b. omega (arith, c.shared_slice_known-2-1.given b)) c.if-core-at-2.true

pub returns : goal.returns
returns c = c.same_cells.ensures ∙ by_bytes _ _ _ _ _ c.requires.2 (λ b. omega (arith, c.shared_slice_known-2-1.given b)) c.if-core-at.false c.if-core-at-2.false
