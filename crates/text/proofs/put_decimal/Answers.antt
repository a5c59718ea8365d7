-- `text::put_decimal` meets its contract: the digits, from the first on.
use Prim.Native.Nat.{◌+◌, ◌-◌, ◌≤◌}
use Rattle.text.proofs.Laws.{puts-as, rest_of}
use lib.ListN.{length, length-drop}
use native.Mathlib.Omega.{arith}
use mathlib.Core.Path.{ap, sym, ◌∙◌}
use Rattle.text.proofs.put_decimal.Goals as goal

pub returns : goal.returns
returns c =
    let p = c.put.ensures in
    let d = c.decimal-d in
    let l : length d.result.bytes ≤ 20 - d.result.from + d.result.from = omega (arith, d.ensures.0, d.ensures.1) in
    let q = puts-as p (rest_of d.result.bytes d.result.from (20 - d.result.from) l ∙ d.ensures.2) in
    (q, omega (arith, q.ends, ap length (sym d.ensures.2), length-drop d.result.from d.result.bytes, d.ensures.0))
