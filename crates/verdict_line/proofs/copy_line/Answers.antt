-- `copy_line` meets its contract: refused where the slice is too short, else the bytes.
use Prim.Native.Nat.{◌≤◌}
use mathlib.Core.Path.{refl, sym, ◌∙◌}
use native.Mathlib.Omega.{arith}
use lib.ListN.{length, take}
use lib.Seq.{length-take-le}
use Rattle.answer.specs.Refusal.{accepted}
use Rattle.answer.proofs.Laws.{number-refused, number_is, kept, written, sets-overwrite}
use Rattle.answer.proofs.Refusals.{room-accepted, room-refused}
use Rattle.verdict_line.proofs.copy_line.Goals as goal

pub slice_bounds-put-end : goal.slice_bounds-put-end
slice_bounds-put-end c = sym (length-take-le c.args.n c.args.text.now c.requires)

pub put-requires : goal.put-requires
put-requires c = omega (arith, length-take-le c.args.n c.args.text.now c.requires)

pub returns : goal.returns
returns c =
    let f : c.args.n ≤ length c.args.line.now = omega arith in
    let q = (room-accepted _ _).1 f in
    let l : length (take c.args.n c.args.text.now) ≤ length c.args.line.now = omega (arith, length-take-le c.args.n c.args.text.now c.requires, f) in
    record { answer = number_is q refl; bytes = written _ q (c.put.ensures.is ∙ sets-overwrite _ _ l) }

pub returns-then-line-n : goal.returns-then-line-n
returns-then-line-n c =
    let q = room-refused (length c.args.line.now) c.args.n accepted (omega arith) in
    record { answer = number-refused _ q; bytes = kept _ _ q }
