-- `keccak_rnd_terms::term_at` meets its contract, group by group.
use mathlib.Core.Path.{sym, ◌∙◌}
use Rattle.keccak_rnd_terms.proofs.Terms.{at-not-pi, at-pi, at-rotated}
use Rattle.keccak_rnd_terms.proofs.term_at.Goals as goal

pub returns-then-k-lt-PI : goal.returns-then-k-lt-PI
returns-then-k-lt-PI c = c.rotated_c.ensures ∙ sym (at-rotated _ _ c.if-k-lt-PI.true)

pub returns-then-k-lt-NOT_PI : goal.returns-then-k-lt-NOT_PI
returns-then-k-lt-NOT_PI c = c.pi_at.ensures ∙ sym (at-pi _ _ c.if-k-lt-PI.false c.if-k-lt-NOT_PI.true)

pub returns : goal.returns
returns c = c.not_pi_at.ensures ∙ sym (at-not-pi _ _ c.if-k-lt-NOT_PI.false)
