-- `lists::put_words` meets its contract: the part from the first word on.
use mathlib.Core.Path.{◌≡◌, ap, ◌∙◌}
use mathlib.Core.List.{List}
use Prim.Native.Nat.{ℕ, ◌+◌}
use native.Mathlib.Nat.{zero-add}
use native.Mathlib.Omega.{arith}
use lib.Seq.{sets}
use Rattle.lists.specs.Tab.{tab, word}
use Rattle.lists.proofs.Laws.{tab-same}
use Rattle.lists.proofs.put_words.Goals as goal

from_zero : (l words : List ℕ) (at n : ℕ) {out : List ℕ} → out ≡ sets l at (tab n (λ k. word words (0 + k))) → out ≡ sets l at (tab n (word words))
from_zero l words at n e = e ∙ ap (sets l at) (tab-same n _ _ (λ k h. ap (word words) (zero-add k)))

pub put_part-requires : goal.put_part-requires
put_part-requires c = (omega arith, omega arith)

pub returns : goal.returns
returns c =
    let a = c.args in
    from_zero a.row.now a.words.now a.at a.n c.put_part.ensures
