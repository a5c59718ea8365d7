-- Two runs of elements, and which of the one have a partner of their own among the other: an equal element that no earlier one has.
--     Run                      the elements at the indices below a size that pass a test
--     alone, first_alone        by counts: an element without a partner, and the first of them
--     used, unpartnered, left  partners given out one by one, earliest first: what is given away, who gets none, what is left
-- proofs/Partners.antt: both ways say the same at every index (`alone-is`, `left_is`); none of either is alone exactly where every
-- element stands equally often in both (`none-alone`), and exactly where they can be matched one to one (`none-alone-matched`).
use Rattle.std.specs.Prelude.{ℕ, zero, suc, ◌+◌, ◌-◌, ◌≡◌, Bool, true, false, not, ◌&&◌, List, eqb, leb}
use Rattle.std.proofs.Math.Option.{Option, none, some}
use Rattle.lists.specs.Tab.{pick}
use Rattle.lists.specs.First.{first_at, count_below, is_some}
use Rattle.lists.specs.Select.{words_test}

pub record Run : Type 0 where
  pub size : ℕ
  -- whether the element at an index is one of the run
  pub chosen : ℕ → Bool
  pub element : ℕ → List ℕ

-- whether index k is one of the run and has the element x
unfoldable pub holds_at : Run → List ℕ → ℕ → Bool
holds_at A x k = A.chosen k && words_test x (A.element k)

-- how often x stands in a run before index k, and in all of it
abbrev pub copies_to : Run → List ℕ → ℕ → ℕ
copies_to A x k = count_below (holds_at A x) k

abbrev pub copies_in : Run → List ℕ → ℕ
copies_in A x = copies_to A x A.size

-- how many indices from `from` on and before n pass a test
unfoldable pub count_between : (ℕ → Bool) → ℕ → ℕ → ℕ
count_between f from n = count_below (λ k. f (from + k)) (n - from)

-- every element stands equally often before index a of A and before index b of B
abbrev pub EquallyOften : Run → Run → ℕ → ℕ → Type 0
EquallyOften A B a b = (x : List ℕ) → copies_to A x a ≡ copies_to B x b

-- ---- by counts
-- whether index i of A is without a partner in B: as many equal elements stand before it as there are equal ones in B, or more
unfoldable pub alone : Run → Run → ℕ → Bool
alone A B i = A.chosen i && leb (copies_in B (A.element i)) (copies_to A (A.element i) i)

abbrev pub first_alone : Run → Run → Option ℕ
first_alone A B = first_at (alone A B) A.size

-- ---- one by one, "Equal copies are partnered earliest first."
-- the earliest of B that has the element x and is not given away yet
unfoldable pub is_free : Run → (ℕ → Bool) → List ℕ → ℕ → Bool
is_free B given x k = not (given k) && holds_at B x k

abbrev pub partner_for : Run → (ℕ → Bool) → List ℕ → Option ℕ
partner_for B given x = first_at (is_free B given x) B.size

-- what is given away, with one more
abbrev pub also_given : Option ℕ → (ℕ → Bool) → ℕ → Bool
also_given none given k = given k
also_given (some j) given k = pick (eqb j k) true (given k)

-- what of B is given away to the first i of A
unfoldable pub used : Run → Run → ℕ → ℕ → Bool
used A B zero k = false
used A B (suc i) k =
    pick (A.chosen i) (also_given (partner_for B (used A B i) (A.element i)) (used A B i) k) (used A B i k)

-- whether index i of A finds no partner when its turn comes
unfoldable pub unpartnered : Run → Run → ℕ → Bool
unpartnered A B i = A.chosen i && not (is_some (partner_for B (used A B i) (A.element i)))

-- whether index k of B is left when all of A have had their turn
unfoldable pub left : Run → Run → ℕ → Bool
left A B k = B.chosen k && not (used A B A.size k)
