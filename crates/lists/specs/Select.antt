-- Of a list: the elements that pass a test; of two lists of words: whether they are equal, and where they are not.
use Rattle.std.specs.Prelude.{Bool, true, false, not, ◌&&◌, List, [], ◌∷◌, ℕ, ◌+◌, eqb}
use Rattle.lists.specs.Tab.{word}

module _ {A : Type 0} where
  -- a list with x in front where the test passed
  abbrev pub cons_if : Bool → A → List A → List A
  cons_if true x xs = x ∷ xs
  cons_if false x xs = xs

  -- the elements that pass a test, in their order
  unfoldable pub selected : (A → Bool) → List A → List A
  selected act [] = []
  selected act (x ∷ xs) = cons_if (act x) x (selected act xs)

-- whether two lists of words are equal
unfoldable pub words_test : List ℕ → List ℕ → Bool
words_test [] [] = true
words_test [] (y ∷ ys) = false
words_test (x ∷ xs) [] = false
words_test (x ∷ xs) (y ∷ ys) = eqb x y && words_test xs ys

-- word k of a from i on is not word k of b from j on
unfoldable pub words_differ : List ℕ → ℕ → List ℕ → ℕ → ℕ → Bool
words_differ a i b j k = not (eqb (word a (i + k)) (word b (j + k)))
