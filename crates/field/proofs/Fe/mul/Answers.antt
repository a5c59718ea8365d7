-- `field::Fe::mul` meets its contract: the whole product, reduced.
use mathlib.Core.Path.{◌∙◌, ap, subst, sym}
use Prim.Native.Nat.{ℕ, ◌%◌, ◌<◌}
use Rattle.field.specs.Field.{p}
use Rattle.field.proofs.Field.{mod-p}
use Rattle.field.proofs.Fe.mul.Goals as goal

pub returns : goal.returns
returns c =
    record { product = c.reduced.ensures ∙ ap (λ (n : ℕ). n % p) c.product-w.ensures; below = subst (λ (n : ℕ). n < p) (sym c.reduced.ensures) (mod-p _) }
