-- `keccak_values::top_value` meets its contract: MU times the last lane's high carry.
use mathlib.Core.Path.{ap, ◌∙◌}
use native.Mathlib.Omega.{arith}
use Rattle.field.specs.Field.{fmul}
use Rattle.add_template.proofs.Within.{constant-in, whh-in, made_in}
use Rattle.keccak_values.proofs.Values.{words-made, top-value}
use Rattle.keccak_values.proofs.top_value.Goals as goal

pub add_words-offset-requires : goal.add_words-offset-requires
add_words-offset-requires c = let row = c.args.row.now in made_in row c.constant.ensures (constant-in row _)

pub add_words-pointer-requires : goal.add_words-pointer-requires
add_words-pointer-requires c =
    let row = c.args.row.now in
    made_in row c.from_dword_whh.ensures (whh-in row 486 c.requires.0 _ (omega arith))

pub add_pair_carry_hi-carry-requires : goal.add_pair_carry_hi-carry-requires
add_pair_carry_hi-carry-requires c =
    (c.requires.2, c.add_words-offset.ensures.below, c.add_words-pointer.ensures.below)

pub returns : goal.returns
returns c =
    let row = c.args.row.now in
    c.mul-product.ensures.product ∙ ap (fmul _) c.add_pair_carry_hi-carry.ensures.carry
    ∙ top-value row c.requires.0.below c.requires.1 (words-made row c.constant.ensures c.add_words-offset.ensures.words)
    (words-made row c.from_dword_whh.ensures c.add_words-pointer.ensures.words)
