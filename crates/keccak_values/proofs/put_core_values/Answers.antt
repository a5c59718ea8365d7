-- `keccak_values::put_core_values` meets its contract: the values of the lanes, then the last two.
use mathlib.Core.Path.{◌∙◌}
use native.Mathlib.Omega.{arith}
use Rattle.keccak.specs.Values.{core_value}
use Rattle.add_template.proofs.Within.{always-in, bl-in, made_in}
use Rattle.keccak_values.proofs.Values.{words-made, value-50, value-51, last-two}
use Rattle.keccak_values.proofs.put_core_values.Goals as goal

pub add_words-addr-requires : goal.add_words-addr-requires
add_words-addr-requires c =
    made_in c.args.row.now c.from_dword_bl.ensures (bl-in c.args.row.now 486 c.requires.0 2 (omega arith))

pub top_value-top-requires : goal.top_value-top-requires
top_value-top-requires c =
    (c.requires.0, words-made _ c.from_dword_bl.ensures c.add_words-addr.ensures.words, c.add_words-addr.ensures.below)

pub emit_is_bit-last-requires : goal.emit_is_bit-last-requires
emit_is_bit-last-requires c = (omega arith, c.requires.0.below 485 (omega arith), always-in c.args.row.now)

pub put_lane_values-requires : goal.put_lane_values-requires
put_lane_values-requires c = (
  c.requires.0,
  omega arith,
  words-made _ c.from_dword_bl.ensures c.add_words-addr.ensures.words,
  c.add_words-addr.ensures.below,
)

pub returns : goal.returns
returns c =
    let row = c.args.row.now in
    last-two c.args.out.now _ (core_value row) c.put_lane_values.ensures (c.top_value-top.ensures ∙ value-50 row) (c.emit_is_bit-last.ensures ∙ value-51 row)
