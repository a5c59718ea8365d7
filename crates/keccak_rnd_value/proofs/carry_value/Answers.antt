-- `keccak_rnd_value::carry_value` meets its contract: the carries stand one after the other.
use mathlib.Core.Path.{◌≡◌, ap, ◌∙◌}
use Prim.Native.Nat.{◌+◌, ◌*◌, ◌/◌, ◌%◌}
use native.Mathlib.Omega.{arith}
use Rattle.lists.specs.Tab.{word}
use Rattle.templates.specs.Templates.{is_bit}
use Rattle.keccak_rnd_value.proofs.carry_value.Goals as goal

pub returns : goal.returns
returns c =
    let i = c.args.i in
    let k : 403 + i ≡ 403 + i / 4 * 4 + i % 4 = omega arith in
    c.is_bit.ensures ∙ ap is_bit (c.element-carry.ensures.is ∙ ap (word c.args.row.now) k)
