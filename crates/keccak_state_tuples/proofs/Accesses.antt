-- The parts of which the values of a Memw tuple are made.
use mathlib.Core.Path.{◌≡◌, sym, ap, ap₂, ◌∙◌}
use mathlib.Core.List.{List, [], ◌∷◌, ◌++◌}
use Prim.Native.Nat.{ℕ, ◌+◌, ◌*◌, ◌/◌, ◌%◌, ◌≤◌}
use native.Mathlib.Omega.{arith}
use lib.ListN.{length}
use lib.Seq.{sets}
use Rattle.lists.specs.Tab.{tab, word}
use Rattle.lists.proofs.Laws.{sets-append, tab-same}
use Rattle.answer.specs.Refusal.{overwrite}
use Rattle.answer.proofs.Laws.{sets-overwrite}
use Rattle.keccak.specs.Columns.{ADDR, addr, state-ptr, lane_column}
use Rattle.keccak.specs.Values.{word_of_bytes, word_of_halves}
use Rattle.keccak.specs.Tuples.{addr_memw, lane_memw}
use Rattle.keccak.proofs.Tuples.{lane-length}

-- the 8 bytes of lane i, which code counts by 8 i
pub lane-words : (row : List ℕ) (base i : ℕ) → tab 8 (λ k. word row (base + 8 * i + k)) ≡ tab 8 (λ b. word row (lane_column base (i % 5) (i / 5) b))
lane-words row base i = tab-same 8 _ _ (λ k h. ap (word row) (e base i k))
  where
    e : (base i k : ℕ) → base + 8 * i + k ≡ base + (i % 5 + 5 * (i / 5)) * 8 + k
    e base i k = omega arith

-- the four parts of a Memw tuple
pub memw-parts : (l o₁ o₂ o₃ : List ℕ) {o₄ : List ℕ} (a b t : List ℕ) (x y z : ℕ) → length a ≡ 8 → length b ≡ 8 → o₁ ≡ sets l 0 a → o₂ ≡ sets o₁ 8 (x ∷ y ∷ z ∷ [])
    → o₃ ≡ sets o₂ 11 b → o₄ ≡ sets o₃ 19 t → o₄ ≡ sets l 0 (a ++ (x ∷ y ∷ z ∷ (b ++ t)))
memw-parts l o₁ o₂ o₃ a b t x y z ea eb p q r s =
    s
    ∙ ap (λ (o : List ℕ). sets o 19 t) r
    ∙ ap (λ (n : ℕ). sets (sets o₂ 11 b) (11 + n) t) (sym eb)
    ∙ sets-append o₂ 11 b t
    ∙ ap (λ (o : List ℕ). sets o 11 (b ++ t)) q
    ∙ sets-append o₁ 8 (x ∷ y ∷ z ∷ []) (b ++ t)
    ∙ ap (λ (o : List ℕ). sets o 8 (x ∷ y ∷ z ∷ (b ++ t))) p
    ∙ ap (λ (n : ℕ). sets (sets l 0 a) (0 + n) (x ∷ y ∷ z ∷ (b ++ t))) (sym ea)
    ∙ sets-append l 0 a (x ∷ y ∷ z ∷ (b ++ t))

-- a register's value as Memw lists it
abbrev pub register : ℕ → ℕ → List ℕ
register lo hi = lo ∷ hi ∷ 0 ∷ 0 ∷ 0 ∷ 0 ∷ 0 ∷ 0 ∷ []

pub addr-stored : (row l : List ℕ) {out : List ℕ} {lo hi : ℕ} → 24 ≤ length l → lo ≡ word_of_bytes row ADDR → hi ≡ word_of_bytes row (addr 4)
    → out ≡ sets l 0 (register lo hi ++ (1 ∷ 20 ∷ 0 ∷ (register lo hi ++ (word row 0 ∷ word row 1 ∷ 1 ∷ 0 ∷ 0 ∷ [])))) → out ≡ overwrite (addr_memw row).values l
unfolding addr_memw
addr-stored row l h p q e =
    e
    ∙ ap₂ (λ (x y : ℕ). sets l 0 (register x y ++ (1 ∷ 20 ∷ 0 ∷ (register x y ++ (word row 0 ∷ word row 1 ∷ 1 ∷ 0 ∷ 0 ∷ []))))) p q
    ∙ sets-overwrite l (addr_memw row).values h

pub lane-stored : (row l : List ℕ) (i : ℕ) {out : List ℕ} {lo hi : ℕ} → 24 ≤ length l → lo ≡ word_of_halves row (410 + 3 * i) → hi ≡ word row (410 + 3 * i + 2)
    → out ≡ sets l 0 (tab 8 (λ k. word row (10 + 8 * i + k)) ++ (0 ∷ lo ∷ hi ∷ (tab 8 (λ k. word row (210 + 8 * i + k)) ++ (word row 0 ∷ word row 1 ∷ 0 ∷ 0 ∷ 1 ∷ []))))
    → out ≡ overwrite (lane_memw row i).values l
unfolding lane_memw
lane-stored row l i {out} {lo} {hi} h p q e =
    e
    ∙ ap₂ (λ (a b : List ℕ). sets l 0 (a ++ (0 ∷ lo ∷ hi ∷ (b ++ (word row 0 ∷ word row 1 ∷ 0 ∷ 0 ∷ 1 ∷ []))))) (lane-words row 10 i) (lane-words row 210 i)
    ∙ ap₂ (λ (x y : ℕ). sets l 0 (lanes x y)) (p ∙ ap (word_of_halves row) (base i)) (q ∙ ap (word row) (limb i 2))
    ∙ sets-overwrite l (lane_memw row i).values (omega (arith, lane-length row i))
  where
    lanes : ℕ → ℕ → List ℕ
    lanes x y = tab 8 (λ b. word row (lane_column 10 (i % 5) (i / 5) b)) ++ (0 ∷ x ∷ y ∷ (tab 8 (λ b. word row (lane_column 210 (i % 5) (i / 5) b)) ++ (word row 0 ∷ word row 1 ∷ 0 ∷ 0 ∷ 1 ∷ [])))

    base : (i : ℕ) → 410 + 3 * i ≡ state-ptr i 0
    base i = omega arith

    limb : (i j : ℕ) → 410 + 3 * i + j ≡ state-ptr i j
    limb i j = omega arith
