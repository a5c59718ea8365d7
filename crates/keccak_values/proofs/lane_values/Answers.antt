-- `keccak_values::lane_values` meets its contract: ADD of the lane's operands, where MU is 1.
use mathlib.Core.Path.{◌∙◌}
use native.Mathlib.Omega.{arith}
use Rattle.add_template.proofs.Within.{when-in, constant-in, whh-in, made_in}
use Rattle.keccak_values.proofs.Values.{words-made, low_value, high_value}
use Rattle.keccak_values.proofs.lane_values.Goals as goal

pub add_words-offset-requires : goal.add_words-offset-requires
add_words-offset-requires c = let row = c.args.row.now in made_in row c.constant.ensures (constant-in row _)

pub add_words-pointer-requires : goal.add_words-pointer-requires
add_words-pointer-requires c =
    let row = c.args.row.now in
    made_in row c.from_dword_whh.ensures (whh-in row 486 c.requires.0 _ (omega arith))

pub emit_add_pair-requires : goal.emit_add_pair-requires
emit_add_pair-requires c =
    (when-in c.args.row.now 486 c.requires.0 485 (omega arith), c.requires.3, c.add_words-offset.ensures.below, c.add_words-pointer.ensures.below)

pub returns : goal.returns
returns c =
    let row = c.args.row.now in
    let o = words-made row c.constant.ensures c.add_words-offset.ensures.words in
    let q = words-made row c.from_dword_whh.ensures c.add_words-pointer.ensures.words in (
      c.emit_add_pair.ensures.low ∙ low_value row c.args.i c.requires.1 c.requires.2 o q,
      c.emit_add_pair.ensures.high ∙ high_value row c.args.i c.requires.1 c.requires.2 o q,
    )
