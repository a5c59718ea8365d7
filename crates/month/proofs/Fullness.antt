-- Fullness by products: of two tables at most one is fuller, what is not fuller than one that is not fuller than a third is not fuller than the
-- third, and two of which neither is fuller are equally full. Nothing is supposed of nr, floor and the counts.
use mathlib.Core.Path.{◌≡◌, refl, sym, ap, subst, ◌∙◌}
use mathlib.Core.Bool.{Bool, true, false}
use mathlib.Core.List.{List}
use mathlib.Core.Logic.{◌↔◌}
use mathlib.Core.Option.{Option, none, some}
use Prim.Native.Nat.{ℕ, ◌+◌, ◌*◌, ◌≤◌, ◌<◌}
use native.Mathlib.Nat.{le_trans, le_of_lt, le-max_right, le_antisymm, mul-le-mul_right, le_of_mul-le-mul_right, mul_right_comm}
use native.Mathlib.Omega.{arith}
use borrow.Author.Tests.{ltb-true, ltb-false, le-ltb}
use lib.ListN.{length}
use lib.Pow.{pow_pos}
use Rattle.keccak.specs.Height.{height, next-power-of-two}
use Rattle.keccak.proofs.Height.{Next, next-is}
use Rattle.keccak_rnd.specs.Row.{round_height}
use Rattle.lists.specs.Tab.{pick, word}
use Rattle.month.specs.Month.{fuller, first_unbeaten, fullest, emptiest, shown, Best}
use Rattle.month.proofs.Unbeaten.{first-is, best-start, best-keep, best-take, one-unbeaten, none-unbeaten}

-- a/s ≤ b/t and b/t ≤ c/u
chained : (a s b t c u : ℕ) → 0 < t → a * t ≤ b * s → b * u ≤ c * t → a * u ≤ c * s
chained a s b t c u pos h k =
    let first : a * t * u ≤ b * s * u = mul-le-mul_right u h in
    let second : b * u * s ≤ c * t * s = mul-le-mul_right s k in
    let turn : b * s * u ≡ b * u * s = mul_right_comm b s u in
    let left : a * t * u ≡ a * u * t = mul_right_comm a t u in
    let right : c * t * s ≡ c * s * t = mul_right_comm c t s in
    le_of_mul-le-mul_right {m = a * u} {n = c * s} {k = t} (omega arith) pos

pub total-pos : (nr floor n : ℕ) → 0 < round_height nr floor n
unfolding height
total-pos nr floor n =
    let x : Next (n * nr) (next-power-of-two (n * nr)) = next-is (n * nr) in
    le_trans (subst (λ (w : ℕ). 0 < w) (sym x.power) (pow_pos x.exponent)) (le-max_right floor (next-power-of-two (n * nr)))

module _ (nr floor : ℕ) where
  -- not fuller
  at_most : (n m : ℕ) → fuller nr floor n m ≡ false → n * nr * round_height nr floor m ≤ m * nr * round_height nr floor n
  unfolding fuller
  at_most n m e = ltb-false _ _ e

  pub fuller-turns : (n m : ℕ) → fuller nr floor n m ≡ true → fuller nr floor m n ≡ false
  unfolding fuller
  fuller-turns n m e = le-ltb _ _ (le_of_lt (ltb-true (m * nr * round_height nr floor n) (n * nr * round_height nr floor m) e))

  pub fuller-passes : (n m k : ℕ) → fuller nr floor n m ≡ false → fuller nr floor m k ≡ false → fuller nr floor n k ≡ false
  unfolding fuller
  fuller-passes n m k e f = le-ltb _ _ (chained (n * nr) (round_height nr floor n) (m * nr) (round_height nr floor m) (k * nr) (round_height nr floor k) (total-pos nr floor m) (at_most n m e) (at_most m k f))

  pub equally-full : (n m : ℕ) → fuller nr floor n m ≡ false → fuller nr floor m n ≡ false → n * nr * round_height nr floor m ≡ m * nr * round_height nr floor n
  equally-full n m e f = le_antisymm (at_most n m e) (at_most m n f)

-- ---- as an order of the files of a list, the fuller first or the emptier
unfoldable pub beaten : Bool → ℕ → ℕ → List ℕ → ℕ → ℕ → Bool
beaten full nr floor counts j i =
    pick full (fuller nr floor (word counts j) (word counts i)) (fuller nr floor (word counts i) (word counts j))

pub beaten-turns : (full : Bool) (nr floor : ℕ) (counts : List ℕ) (i j : ℕ) → beaten full nr floor counts i j ≡ true → beaten full nr floor counts j i ≡ false
unfolding beaten
beaten-turns true nr floor counts i j e = fuller-turns nr floor _ _ e
beaten-turns false nr floor counts i j e = fuller-turns nr floor _ _ e

pub beaten-passes : (full : Bool) (nr floor : ℕ) (counts : List ℕ) (i j k : ℕ) → beaten full nr floor counts i j ≡ false → beaten full nr floor counts j k ≡ false → beaten full nr floor counts i k ≡ false
unfolding beaten
beaten-passes true nr floor counts i j k e f = fuller-passes nr floor _ _ _ e f
beaten-passes false nr floor counts i j k e f = fuller-passes nr floor _ _ _ f e

-- a running best of the first i files, of which `best` is k: the next file takes its place, or does not
module _ (full : Bool) (nr floor : ℕ) (counts : List ℕ) where
  pub run-start : Best (beaten full nr floor counts) 1 0
  run-start = best-start (beaten full nr floor counts) (beaten-turns full nr floor counts) (beaten-passes full nr floor counts)

  module _ {i k : ℕ} (run : Best (beaten full nr floor counts) i k) {b : Bool} {m : ℕ}
      (told : b ≡ pick full (fuller nr floor (word counts i) (word counts k)) (fuller nr floor (word counts k) (word counts i))) where
    pub run_take : b ≡ true → m ≡ i → Best (beaten full nr floor counts) (i + 1) m
    unfolding beaten
    run_take e q =
        subst (Best (beaten full nr floor counts) (i + 1)) (sym q)
        (best-take (beaten full nr floor counts) (beaten-turns full nr floor counts) (beaten-passes full nr floor counts) run (sym told ∙ e))

    pub run-keep : b ≡ false → m ≡ k → Best (beaten full nr floor counts) (i + 1) m
    unfolding beaten
    run-keep e q =
        subst (Best (beaten full nr floor counts) (i + 1)) (sym q)
        (best-keep (beaten full nr floor counts) (beaten-turns full nr floor counts) (beaten-passes full nr floor counts) run (sym told ∙ e))

  -- what is shown is the best of all
  extreme : first_unbeaten (beaten full nr floor counts) (length counts) ≡ pick full (fullest nr floor counts) (emptiest nr floor counts)
  unfolding beaten fullest emptiest
  extreme = go full
    where
      go : (b : Bool) → first_unbeaten (beaten b nr floor counts) (length counts) ≡ pick b (fullest nr floor counts) (emptiest nr floor counts)
      go true = refl
      go false = refl

  pub shown-best : (k : ℕ) → (pick full (fullest nr floor counts) (emptiest nr floor counts) ≡ some k) ↔ Best (beaten full nr floor counts) (length counts) k
  shown-best k =
      let b = first-is (beaten full nr floor counts) (beaten-turns full nr floor counts) (beaten-passes full nr floor counts) (length counts) k in
      ((λ e. b.0 (extreme ∙ e)), λ h. sym extreme ∙ b.1 h)

  pub shown-one : 0 < length counts → (k : ℕ) × (pick full (fullest nr floor counts) (emptiest nr floor counts) ≡ some k)
  shown-one h =
      let x = one-unbeaten (beaten full nr floor counts) (beaten-turns full nr floor counts) (beaten-passes full nr floor counts) (length counts) h in
      (x.0, sym extreme ∙ x.1)

  pub shown-none : length counts ≡ 0 → pick full (fullest nr floor counts) (emptiest nr floor counts) ≡ none
  shown-none e = sym extreme ∙ ap (first_unbeaten (beaten full nr floor counts)) e ∙ none-unbeaten (beaten full nr floor counts)

  pub run-all : {i k : ℕ} → Best (beaten full nr floor counts) i k → i ≤ length counts → length counts ≤ i → pick full (fullest nr floor counts) (emptiest nr floor counts) ≡ some k
  run-all {i} {k} b l g = let e : i ≡ length counts = omega arith in (shown-best k).1 (subst (λ (n : ℕ). Best (beaten full nr floor counts) n k) e b)

pub shown-some : (f : ℕ → ℕ) (o : Option ℕ) {i v : ℕ} → o ≡ some i → v ≡ f i → v ≡ shown f o
shown-some f o e q = rw e q

-- ---- the fullest and the emptiest: none is fuller, or emptier, and each earlier file is less so
module _ (nr floor : ℕ) (counts : List ℕ) (k : ℕ) where
  pub fullest-is : (fullest nr floor counts ≡ some k) ↔ Best (λ j i. fuller nr floor (word counts j) (word counts i)) (length counts) k
  unfolding beaten
  fullest-is = shown-best true nr floor counts k

  pub emptiest-is : (emptiest nr floor counts ≡ some k) ↔ Best (λ j i. fuller nr floor (word counts i) (word counts j)) (length counts) k
  unfolding beaten
  emptiest-is = shown-best false nr floor counts k
