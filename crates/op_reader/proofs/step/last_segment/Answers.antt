-- `step::last_segment` meets its contract: the upper half, where there is a number.
use Rattle.op_file.specs.Reader.{segment_by}
use Prim.Native.Nat.{ℕ, ◌/◌}
use mathlib.Core.Path.{ap}
use Rattle.op_reader.proofs.step.last_segment.Goals as goal

pub returns-then-marked : goal.returns-then-marked
unfolding segment_by
returns-then-marked c = simp c.if-marked.true (ap (λ (x : ℕ). x / 4294967296) c.shift_in.ensures)

pub returns : goal.returns
unfolding segment_by
returns c = simp c.if-marked.false
