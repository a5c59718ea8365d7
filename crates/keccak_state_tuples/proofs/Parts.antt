-- The parts of which the values of a Keccak tuple are made.
use mathlib.Core.Path.{◌≡◌}
use mathlib.Core.List.{List}
use Prim.Native.Nat.{ℕ, ◌+◌, ◌*◌, ◌/◌, ◌%◌, ◌<◌}
use native.Mathlib.Omega.{arith}
use lib.ListN.{set}
use lib.Seq.{sets}
use Rattle.lists.specs.Tab.{tab, word}
use Rattle.lists.proofs.Then.{at-two, at-three}
use Rattle.keccak.specs.Columns.{lane_column, by_xyb}
use Rattle.keccak.specs.Tuples.{keccak_values}
use Rattle.keccak_state_tuples.specs.Parts.{sheet_word}

-- byte b of lane y in a sheet, and of sheet x in a state
pub sheet-lane : (row : List ℕ) (base x y b : ℕ) → b < 8 → sheet_word row base x (8 * y + b) ≡ word row (base + (x + 5 * y) * 8 + b)
unfolding sheet_word
sheet-lane row base x y b h =
    let q : (8 * y + b) / 8 ≡ y = omega arith in
    let r : (8 * y + b) % 8 ≡ b = omega arith in
    at-two (λ (u v : ℕ). word row (lane_column base x u v)) q r

pub state-sheet : (row : List ℕ) (base x k : ℕ) → k < 40 → by_xyb (λ (u v w : ℕ). word row (lane_column base u v w)) (40 * x + k) ≡ sheet_word row base x k
unfolding sheet_word
state-sheet row base x k h =
    let q : (40 * x + k) / 40 ≡ x = omega arith in
    let s : (40 * x + k) / 8 % 5 ≡ k / 8 = omega arith in
    let r : (40 * x + k) % 8 ≡ k % 8 = omega arith in
    at-three (λ (u v w : ℕ). word row (lane_column base u v w)) q s r

-- three words, then the state: the values of a Keccak tuple
pub keccak-stored : (l : List ℕ) (a b round : ℕ) (f : ℕ → ℕ → ℕ → ℕ) {out : List ℕ} → out ≡ sets (set (set (set l 0 a) 1 b) 2 round) 3 (tab 200 (by_xyb f)) → out ≡ sets l 0 (keccak_values a b round f)
unfolding keccak_values
keccak-stored l a b round f e = e
