use mathlib.Core.Path.{ap, ◌∙◌}
use native.Mathlib.Omega.{arith}
use Rattle.field.specs.Field.{fsub}
use Rattle.keccak_rnd_terms.proofs.Terms.{read-before, below}
use Rattle.lists.proofs.Laws.{filled_none, filled_more}
use Rattle.keccak_rnd_terms.proofs.put_not_pi.Goals as goal

pub loop-k-init : goal.loop-k-init
loop-k-init c = filled_none _ _ _ _

pub not_byte-requires : goal.not_byte-requires
not_byte-requires c = let out = c.loop-k in below (read-before out.invariant (omega arith)) (c.requires.1 _ c.loop-k-test.true)

pub loop-k-preserved : goal.loop-k-preserved
loop-k-preserved c = let out = c.loop-k in filled_more _ out.invariant c.loop-k-test.true (c.not_byte.ensures ∙ ap (fsub 255) (read-before out.invariant (omega arith)))
