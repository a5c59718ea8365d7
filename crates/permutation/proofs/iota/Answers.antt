-- `iota` meets its contract: lane (0, 0) alone changes.
use mathlib.Core.Path.{ap, ◌∙◌}
use lib.Bits.{bit_xor}
use lib.ListN.{get_or}
use borrow.Author.Rules.{rules}
use Rattle.fips202.proofs.Rounds.{iota-set}
use Rattle.fips202.proofs.Tables.{constant-below}
use Rattle.permutation.proofs.iota.Goals as goal

pub returns : goal.returns
returns c =
    let a = c.args.a in
    let r = c.args.r in
    iota-set r a _ (search rules) (ap (bit_xor (get_or a 0 0)) (c.round_constant.ensures ∙ constant-below r c.requires))
