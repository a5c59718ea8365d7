use Prim.Native.Nat.{ℕ, ◌<◌, ◌-◌}
use native.Mathlib.Omega.{arith}
use borrow.Author.Tests.{lt-leb}
use lib.Bits.{bit_or, or_add_and, and_le_l, and_le_r}
use Rattle.lists.specs.Tab.{word}
use Rattle.lists.proofs.First.{first-start, at_more, at_none}
use Rattle.field.specs.Field.{p}
use Rattle.field.specs.Elements.{not_element}
use Rattle.field.proofs.elements.joined.Goals as goal

-- neither number is above their OR
left_below : (a b : ℕ) → bit_or a b < p → a < p
left_below a b h = omega (arith, h, or_add_and a b, and_le_r a b)

right-below : (a b : ℕ) → bit_or a b < p → b < p
right-below a b h = omega (arith, h, or_add_and a b, and_le_l a b)

pub loop-k-init : goal.loop-k-init
loop-k-init c = (omega arith, λ h. first-start _)

pub loop-k-preserved : goal.loop-k-preserved
unfolding not_element
loop-k-preserved c =
    let l = c.loop-k in
    let w = word c.args.words.now l.k in
    (omega arith, λ h. at_more _ _ (l.invariant.1 (left_below l.all w h)) (lt-leb p w (right-below l.all w h)))

pub returns : goal.returns
returns c =
    λ h. at_none _ _ _ c.loop-k.invariant.0 c.loop-k-test.false (c.loop-k.invariant.1 h)
