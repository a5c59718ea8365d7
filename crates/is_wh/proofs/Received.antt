-- Why a pair is found exactly where it is a 32-bit word and a 16-bit half: those are the pairs that rows with halfwords in their three values receive.
-- And the row of a key receives what IS_WHH sends for the value of that key.
use mathlib.Core.Path.{◌≡◌, refl, sym, ap, ap₂, subst, ◌∙◌}
use mathlib.Core.List.{List, [], ◌∷◌}
use Prim.Native.Nat.{ℕ, zero, suc, ◌+◌, ◌*◌, ◌/◌, ◌%◌, ◌^◌, ◌<◌}
use native.Mathlib.Nat.{mod-eq_of_lt}
use native.Mathlib.Omega.{arith}
use Rattle.lists.specs.Tab.{word}
use Rattle.field.specs.Field.{fadd, fmul}
use Rattle.tuple.specs.Tuple.{Tuple}
use Rattle.is_wh.specs.Columns.{value}
use Rattle.is_wh.specs.Row.{pair_row}
use Rattle.is_wh.specs.Key.{of-dword}
use Rattle.is_wh.specs.Tuples.{is_wh_tuple, is-whh}
use Rattle.is_wh.specs.Found.{IsWhFound}
use Rattle.is_wh.proofs.Tuples.{pair-received}

-- two halves make the word
halves : (a b : ℕ) → a < 2 ^ 16 → b < 2 ^ 16 → fadd a (fmul 65536 b) ≡ a + 65536 * b
halves a b ha hb = ap (fadd a) (mod-eq_of_lt (omega arith)) ∙ mod-eq_of_lt (omega arith)

received : (row : List ℕ) → (is_wh_tuple row 4).values ≡ fadd (word row 1) (fmul 65536 (word row 2)) ∷ word row 0 ∷ []
received row = ap (λ (t : Tuple). t.values) (pair-received row 4 (omega arith))

pub row-receives : (w h mu : ℕ) → w < 2 ^ 32 → (is_wh_tuple (pair_row w h mu) 4).values ≡ w ∷ h ∷ []
row-receives w h mu l =
    received (pair_row w h mu)
    ∙ ap (λ (x : ℕ). x ∷ h ∷ []) (halves (w % 2 ^ 16) (w / 2 ^ 16) (omega arith) (omega arith) ∙ omega arith)

-- what is received is found, and what is found is received
pub received-found : (row : List ℕ) → ((i : ℕ) → i < 3 → word row (value i) < 2 ^ 16) → IsWhFound (is_wh_tuple row 4).values
unfolding IsWhFound
received-found row h =
    let b₀ = h 0 (omega arith) in
    let b₁ = h 1 (omega arith) in
    let b₂ = h 2 (omega arith) in
    subst IsWhFound (sym (received row)) (refl, omega (arith, halves (word row 1) (word row 2) b₁ b₂), b₀)

pub found-received : (vs : List ℕ) → IsWhFound vs → (row : List ℕ) × ((i : ℕ) → i < 3 → word row (value i) < 2 ^ 16) × ((is_wh_tuple row 4).values ≡ vs)
unfolding IsWhFound
found-received [] f = absurd (omega arith)
found-received (w ∷ []) f = absurd (omega arith)
found-received (w ∷ h ∷ []) f = (pair_row w h 0, small, row-receives w h 0 f.1)
  where
    small : (i : ℕ) → i < 3 → word (pair_row w h 0) (value i) < 2 ^ 16
    small zero l = f.2
    small (suc zero) l = omega arith
    small (suc (suc zero)) l = omega (arith, f.1)
    small (suc (suc (suc i))) l = absurd (omega arith)
found-received (a ∷ b ∷ c ∷ vs) f = absurd (omega arith)

-- a 64-bit value's upper limbs in a row at k + 1 and k + 2: its key's row receives what the template sends
pub key-received : (row : List ℕ) (k cond mu x : ℕ) → x < 2 ^ 64 → word row (k + 1) ≡ x / 2 ^ 16 % 2 ^ 16 → word row (k + 2) ≡ x / 2 ^ 32
    → (is_wh_tuple (pair_row (of-dword x).word (of-dword x).half mu) 4).values ≡ (is-whh row k cond 0).values
key-received row k cond mu x l e f =
    row-receives (of-dword x).word (of-dword x).half mu (omega arith) ∙ ap₂ (λ (a b : ℕ). a ∷ b ∷ []) (sym f) (sym e)
