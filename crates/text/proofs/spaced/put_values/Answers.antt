use Prim.Native.Nat.{ℕ, ◌<◌}
use mathlib.Core.Path.{◌≡◌, refl, sym, ap, ◌∙◌}
use mathlib.Core.List.{map}
use native.Mathlib.Numerals.{add-one}
use native.Mathlib.Omega.{arith}
use lib.ListN.{length, take}
use Rattle.text.specs.Text.{decimal_of, spaced}
use Rattle.text.proofs.Laws.{puts-as, puts-long}
use Rattle.text.proofs.Words.{puts-spaced, decimals-more}
use Rattle.text.proofs.spaced.put_values.Goals as goal

pub loop-i-init : goal.loop-i-init
unfolding spaced
loop-i-init c = (omega arith, refl, record { ends = omega arith; is = refl }, omega arith)

pub loop-i-preserved : goal.loop-i-preserved
loop-i-preserved c =
    let lp = c.loop-i in
    let a = c.args in
    let p = c.put_number-end.ensures in
    let l : lp.i < length a.values.now = omega arith in
    (omega arith, puts-long p.0 ∙ lp.invariant.1, puts-as (puts-spaced _ _ lp.invariant.2 p.0) (ap spaced (decimals-more a.values.now lp.i l ∙ ap (λ (k : ℕ). map decimal_of (take k a.values.now)) (sym (add-one lp.i)))), omega (arith, p.1))

pub shape_of-out : goal.shape_of-out
shape_of-out c = c.loop-i.invariant.1

pub returns : goal.returns
returns c =
    let lp = c.loop-i in
    let a = c.args in
    let e : lp.i ≡ a.n = omega arith in
    (puts-as lp.invariant.2 (ap (λ (k : ℕ). spaced (map decimal_of (take k a.values.now))) e), omega (arith, e))
