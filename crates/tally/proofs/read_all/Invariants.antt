-- `read_all`: the reader stands where the bytes so far take it, and each read brings it nearer to the most bytes that a file
-- may have.
use Rattle.std.proofs.Common.{ℕ, ◌≡◌, List}
use Rattle.op_file.specs.Reader.{feed_of, file_start}
use Rattle.op_file.proofs.Laws.{bytes_left}
use Rattle.tally.proofs.read_all.Given as goal

abbrev pub invariant-loop-buf : goal.invariant-loop-buf
invariant-loop-buf g l = (file : List ℕ) × (l.c ≡ feed_of file_start file)

abbrev pub decreases-loop-buf : goal.decreases-loop-buf
decreases-loop-buf g l = bytes_left l.c
