-- The search for a word that is no field element reads only the words that it is asked of.
use mathlib.Core.Path.{◌≡◌, ap}
use mathlib.Core.List.{List}
use Prim.Native.Nat.{ℕ}
use lib.Dec.{leb}
use Rattle.lists.specs.First.{when, at_index}
use Rattle.lists.proofs.First.{first-same}
use Rattle.lists.proofs.Reading.{Alike}
use Rattle.field.specs.Field.{p}
use Rattle.field.specs.Elements.{not_element, first_not_element}

pub elements-reads : (n : ℕ) (row other : List ℕ) → Alike n row other → first_not_element row n ≡ first_not_element other n
unfolding at_index not_element
elements-reads n row other same =
    first-same (at_index (not_element row)) (at_index (not_element other)) n (λ k h. ap (λ (w : ℕ). when (leb p w) k) (same k h))
