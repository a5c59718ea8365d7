-- `tally_text::put_unaligned` meets its contract: nothing of no record, else a line.
use Prim.Native.Nat.{ℕ, zero, suc}
use mathlib.Core.Path.{◌≡◌, refl}
use mathlib.Core.List.{[]}
use native.Mathlib.Omega.{arith}
use Rattle.text.specs.Text.{named_number}
use Rattle.text.proofs.Laws.{puts-as, puts-nothing}
use Rattle.tally_text.specs.Output.{unaligned-name, unaligned_line}
use Rattle.tally_text.proofs.put_unaligned.Goals as goal

-- the two cases of the definition
line-none : (n : ℕ) → n ≡ 0 → [] ≡ unaligned_line n
unfolding unaligned_line
line-none zero e = refl
line-none (suc k) e = absurd (omega arith)

line-some : (n : ℕ) → (n ≡ 0 → ⊥) → named_number unaligned-name n ≡ unaligned_line n
unfolding unaligned_line
line-some zero h = absurd (h refl)
line-some (suc k) h = refl

pub returns-then-left-eq0 : goal.returns-then-left-eq0
returns-then-left-eq0 c = (puts-as (puts-nothing _ _) (line-none _ c.if-left-eq0.true), omega arith)

pub returns : goal.returns
returns c =
    let p = c.put_line.ensures in
    (puts-as p.0 (line-some _ c.if-left-eq0.false), omega (arith, p.1))
