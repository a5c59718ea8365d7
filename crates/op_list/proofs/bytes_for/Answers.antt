use Prim.Native.Nat.{◌+◌}
use mathlib.Core.Path.{◌≡◌, refl, ap, ◌∙◌}
use native.Mathlib.Omega.{arith}
use Rattle.lists.specs.Sum.{sum_below}
use Rattle.op_file.specs.File.{record_size}
use Rattle.op_list.specs.Files.{bytes_for}
use Rattle.op_list.proofs.Files.{bytes-more, bytes_most}
use Rattle.op_list.proofs.bytes_for.Goals as goal

pub loop-i-init : goal.loop-i-init
unfolding bytes_for sum_below
loop-i-init c = refl

pub overflow_add-bytes : goal.overflow_add-bytes
overflow_add-bytes c =
    let ops = c.args.ops.now in
    let i = c.loop-i.i in
    let turn : c.loop-i.bytes + c.record_size-bytes.result ≡ bytes_for ops (i + 1) =
    (λ k. c.loop-i.invariant k + (c.record_size-bytes.ensures ∙ ap record_size c.is_numbered.ensures) k) ∙ bytes-more ops i
    in
    omega (arith, bytes_most ops (i + 1), c.requires.0)

pub loop-i-preserved : goal.loop-i-preserved
loop-i-preserved c =
    (λ k. c.loop-i.invariant k + (c.record_size-bytes.ensures ∙ ap record_size c.is_numbered.ensures) k) ∙ bytes-more c.args.ops.now c.loop-i.i

pub returns : goal.returns
returns c = c.loop-i.invariant ∙ ap (bytes_for c.args.ops.now) (omega arith)
