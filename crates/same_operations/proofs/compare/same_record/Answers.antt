-- `compare::same_record` meets its contract: the cells are equal where the bytes are.
use mathlib.Core.Path.{◌∙◌}
use native.Mathlib.Omega.{arith}
use Rattle.same_operations.proofs.Equal.{bytes-test}
use Rattle.same_operations.proofs.compare.same_record.Goals as goal

pub returns : goal.returns
returns c = c.same_bytes.ensures ∙ bytes-test _ _ _ (λ b. omega (arith, c.shared_slice_known-1.given b))
