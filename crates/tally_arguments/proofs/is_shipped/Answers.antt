-- `tally_arguments::is_shipped` meets its contract: the test of words says what `same` says.
use mathlib.Core.Bool.{Bool, true, false}
use mathlib.Core.List.{List}
use mathlib.Core.Path.{◌≡◌, refl, subst}
use Prim.Native.Nat.{ℕ}
use lib.Dec.{T}
use Rattle.lists.specs.Select.{words_test}
use Rattle.lists.proofs.Select.{words-sound, words_same_lem}
use Rattle.tally_arguments.specs.Arguments.{is_shipped}
use Rattle.tally_arguments.proofs.is_shipped.Goals as goal

same_test : (r : Bool) (a b : List ℕ) → (r ≡ true → a ≡ b) → (a ≡ b → r ≡ true) → r ≡ words_test a b
same_test true a b f g = by (words_test a b) (subst (λ (x : List ℕ). T (words_test a x)) (f refl) (words_same_lem a))
  where
    by : (t : Bool) → T t → true ≡ t
    by true u = refl
    by false u = absurd u
same_test false a b f g = by (words_test a b) (words-sound a b)
  where
    by : (t : Bool) → (T t → a ≡ b) → false ≡ t
    by true h = g (h tt)
    by false h = refl

pub returns : goal.returns
unfolding is_shipped
returns c = let e = c.same.ensures in same_test _ _ _ e.0 e.1
