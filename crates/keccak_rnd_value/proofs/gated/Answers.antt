-- `keccak_rnd_value::gated` meets its contract: where MU is 1 the value itself is the product.
use mathlib.Core.Path.{sym, ap, ◌∙◌}
use Prim.Native.Nat.{ℕ}
use Rattle.field.specs.Field.{fmul}
use Rattle.field.proofs.Field.{fmul-one}
use Rattle.keccak_rnd_value.proofs.gated.Goals as goal

pub returns-then-mu-eq1 : goal.returns-then-mu-eq1
returns-then-mu-eq1 c = sym (ap (λ (m : ℕ). fmul m c.args.value.value) c.if-mu-eq1.true ∙ fmul-one _ c.requires.1)
