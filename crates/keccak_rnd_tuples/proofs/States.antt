-- The words of a Keccak tuple's state: what each copy of the code stores, and the tuple that they make.
use mathlib.Core.Path.{◌≡◌, refl, ap, ◌∙◌}
use mathlib.Core.Bool.{Bool}
use mathlib.Core.List.{List, ◌∷◌}
use Prim.Native.Nat.{ℕ, zero, suc, ◌+◌, ◌*◌, ◌/◌, ◌%◌, ◌≤◌, ◌<◌}
use native.Mathlib.Omega.{arith}
use borrow.Author.Tests.{eq-eqb, ne_eqb, eqb-true}
use lib.Dec.{eqb, eqb-suc-zero}
use lib.ListN.{length, set}
use lib.Seq.{sets}
use Rattle.lists.specs.Tab.{pick, tab, word}
use Rattle.lists.proofs.Tests.{false-and}
use Rattle.lists.proofs.Then.{at-three}
use Rattle.answer.specs.Refusal.{overwrite}
use Rattle.answer.proofs.Laws.{sets-overwrite}
use Rattle.keccak.specs.Columns.{lane_column, by_xyb}
use Rattle.keccak.specs.Tuples.{keccak_values}
use Rattle.keccak.proofs.Reading.{keccak-length}
use Rattle.keccak_rnd_tuples.specs.States.{lane_word, column_word, state_word}

module _ (row : List ℕ) where
  -- a lane of one x
  pub lane-of-x : (from y j : ℕ) → j < 8 → lane_word row from (y * 8 + j) ≡ word row (from + y * 40 + j)
  unfolding lane_word
  lane-of-x from y j h = let e : from + (y * 8 + j) / 8 * 40 + (y * 8 + j) % 8 ≡ from + y * 40 + j = omega arith in ap (word row) e

  -- the lanes of x + 1
  pub lanes-of-x : (base x j : ℕ) → j < 40 → by_xyb (column_word row base) (40 + (x * 40 + j)) ≡ lane_word row (base + 8 + x * 8) j
  unfolding lane_word column_word
  lanes-of-x base x j h =
      at-three (column_word row base) {x = x + 1} {y = j / 8} {z = j % 8} (omega arith) (omega arith) (omega arith)
      ∙ ap (word row) (flat base x (j / 8) (j % 8))
    where
      flat : (base x q r : ℕ) → base + (x + 1 + 5 * q) * 8 + r ≡ base + 8 + x * 8 + q * 40 + r
      flat base x q r = omega arith

  module _ (first base : ℕ) where
    -- lane (0, 0)
    pub state-first : (j : ℕ) → j < 8 → by_xyb (state_word row first base) (0 + j) ≡ word row (first + j)
    unfolding state_word
    state-first j h =
        rw (eq-eqb ((0 + j) / 40) 0 (omega arith)) rw (eq-eqb ((0 + j) / 8 % 5) 0 (omega arith))
        (let e : first + (0 + j) % 8 ≡ first + j = omega arith in ap (word row) e)

    -- the others
    pub state-other : (k : ℕ) → 8 ≤ k → by_xyb (state_word row first base) k ≡ by_xyb (column_word row base) k
    unfolding state_word column_word
    state-other k h =
        ap (λ (t : Bool). word row (pick t (first + k % 8) (lane_column base (k / 40) (k / 8 % 5) (k % 8))))
        (false-and (eqb (k / 40) 0) (eqb (k / 8 % 5) 0) (λ e. ne_eqb (k / 8 % 5) 0 (λ q. late (eqb-true (k / 40) 0 e) q)))
      where
        late : k / 40 ≡ 0 → k / 8 % 5 ≡ 0 → ⊥
        late e q = omega arith

    -- those of x = 0
    pub state-zero : (j : ℕ) → j < 32 → by_xyb (state_word row first base) (8 + j) ≡ lane_word row (base + 40) j
    unfolding lane_word column_word
    state-zero j h =
        state-other (8 + j) (omega arith)
        ∙ at-three (column_word row base) {x = 0} {y = j / 8 + 1} {z = j % 8} (omega arith) (omega arith) (omega arith)
        ∙ ap (word row) (flat base (j / 8) (j % 8))
      where
        flat : (base q r : ℕ) → base + (0 + 5 * (q + 1)) * 8 + r ≡ base + 40 + q * 40 + r
        flat base q r = omega arith

  -- a state whose lane (0, 0) stands where the state does
  pub state-whole : (base x y b : ℕ) → state_word row base base x y b ≡ word row (lane_column base x y b)
  unfolding state_word
  state-whole base zero zero b = let e : base + b ≡ base + (0 + 5 * 0) * 8 + b = omega arith in ap (word row) e
  state-whole base zero (suc y) b = rw (eqb-suc-zero y) refl
  state-whole base (suc x) y b = rw (eqb-suc-zero x) refl

pub keccak-words : (old : List ℕ) (lo hi r : ℕ) (f : ℕ → ℕ → ℕ → ℕ) → 203 ≤ length old
    → sets (set (set (set old 0 lo) 1 hi) 2 r) 3 (tab 200 (by_xyb f)) ≡ overwrite (keccak_values lo hi r f) old
unfolding keccak_values
keccak-words old lo hi r f h =
    sets-overwrite old (lo ∷ hi ∷ r ∷ tab 200 (by_xyb f)) (omega (arith, keccak-length lo hi r f, h))
