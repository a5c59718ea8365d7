-- The search for a word that is no field element: where it finds none, and where it finds one.
use mathlib.Core.Path.{◌≡◌}
use mathlib.Core.List.{List}
use mathlib.Core.Option.{none, some}
use Prim.Native.Nat.{ℕ, ◌≤◌, ◌<◌}
use borrow.Author.Tests.{leb-false, le-leb, lt-leb}
use Rattle.lists.specs.Tab.{word}
use Rattle.lists.proofs.First.{at_clear, at-hit, at-nothing}
use Rattle.field.specs.Field.{p}
use Rattle.field.specs.Elements.{not_element, first_not_element}

module _ (ws : List ℕ) (n : ℕ) where
  pub all-elements : first_not_element ws n ≡ none → (k : ℕ) → k < n → word ws k < p
  unfolding not_element
  all-elements e k l = leb-false p (word ws k) (at_clear (not_element ws) n k e l)

  pub none_found : ((k : ℕ) → k < n → word ws k < p) → first_not_element ws n ≡ none
  unfolding not_element
  none_found h = at-nothing (not_element ws) n (λ k l. lt-leb p (word ws k) (h k l))

  -- word k is the first that is p or more
  pub first_found : (k : ℕ) → k < n → p ≤ word ws k → ((j : ℕ) → j < k → word ws j < p) → first_not_element ws n ≡ some k
  unfolding not_element
  first_found k l h lower =
      at-hit (not_element ws) k n l (at-nothing (not_element ws) k (λ j g. lt-leb p (word ws j) (lower j g))) (le-leb p (word ws k) h)
