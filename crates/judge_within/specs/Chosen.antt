-- The numbers below n that pass a test, in their order: the places that are sorted.
use Rattle.std.specs.Prelude.{Bool, List, [], ◌++◌, ℕ, zero, suc}
use Rattle.lists.specs.Select.{cons_if}

unfoldable pub chosen : (ℕ → Bool) → ℕ → List ℕ
chosen t zero = []
chosen t (suc n) = chosen t n ++ cons_if (t n) n []
