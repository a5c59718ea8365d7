-- `step::segment_at` meets its contract: four bytes are the upper half of eight.
use Rattle.op_file.specs.File.{record_size}
use Rattle.op_file.proofs.Steps.{upper-half}
use Rattle.lists.specs.Tab.{word}
use Rattle.bits.specs.Bits.{pack}
use lib.ListN.{length}
use Prim.Native.Nat.{ℕ, ◌+◌, ◌/◌, ◌≤◌}
use native.Mathlib.Omega.{arith}
use mathlib.Core.Bool.{Bool, true}
use mathlib.Core.Path.{◌≡◌, ap, ◌∙◌}
use Rattle.op_reader.proofs.step.segment_at.Goals as goal

-- a marked record has its four bytes more
longer : (m : Bool) (from n : ℕ) → m ≡ true → from + record_size m ≤ n → from + 422 ≤ n
unfolding record_size
longer m from n e l = rw e at l

pub word_at-requires : goal.word_at-requires
word_at-requires c =
    omega (arith, longer c.args.marked c.args.from (length c.args.s.now) c.if-marked.true c.requires)

pub returns-then-marked : goal.returns-then-marked
returns-then-marked c =
    let e : c.args.from + 414 + 4 ≡ c.args.from + 418 = omega arith in
    simp c.if-marked.true
    (ap (λ (v : ℕ). v / 4294967296) c.word_at.ensures
    ∙ upper-half (c.args.from + 414) (word c.args.s.now) (λ b. omega (arith, c.shared_slice_known-1.given b))
    ∙ ap (λ (k : ℕ). pack 4 k (word c.args.s.now)) e)
