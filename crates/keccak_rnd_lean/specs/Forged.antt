-- Which of the tuples stay is no matter of their number. Here AreBytes is dropped for three words of one lane of ρ alone, bytes 0, 4 and 6 of lane (1, 0), so
-- that 1,028 tuples stay; and a row passes them and all values that sends a false state.
--     forged_row   START is zero, so lane (1, 0) is 0 after θ; its low parts and carries are made to sum to 2^33 - 1
-- proofs/Forged.antt: `forged-passes`, `forged-false`
use Rattle.std.specs.Prelude.{ℕ, ◌+◌, ◌-◌, ◌^◌, Bool, ◌||◌, List, [], ◌∷◌, eqb}
use Rattle.lists.specs.Tab.{word, group, row_of}
use Rattle.field.specs.Field.{p}

-- ROT_LEFT and ROT_RIGHT of lane (1, 0), mod p. By halfwords: 2^16 (255 + 255 * 256) + (p - 2^32 + 2^16) = p; halfword 1 is 0; 2^16 (2^48 - 2^16) + 1 = p; and
-- 2^16 (255 + 2^32 - 2^16 + 255 * 256) + (p - 2^48 + 2^16) = p. So each is 0 times a power of two.
abbrev pub forged_left : List ℕ
forged_left = (p - 2 ^ 32 + 2 ^ 16) ∷ 0 ∷ 0 ∷ 0 ∷ 1 ∷ 0 ∷ (p - 2 ^ 48 + 2 ^ 16) ∷ 0 ∷ []

abbrev pub forged_right : List ℕ
forged_right = 255 ∷ 255 ∷ 0 ∷ 0 ∷ (2 ^ 48 - 2 ^ 16) ∷ 0 ∷ (255 + 2 ^ 32 - 2 ^ 16) ∷ 255 ∷ []

-- left b + right (b - 2), mod p: bytes
abbrev pub forged_sums : List ℕ
forged_sums = 255 ∷ 255 ∷ 255 ∷ 255 ∷ 1 ∷ 0 ∷ 0 ∷ 0 ∷ []

-- these are lane (0, 2) of π, and so in CHI_ANDS of lane (3, 2), and in CHI of both; RC and IOTA are those of round 0, MU is 1
unfoldable pub forged_row : List ℕ
forged_row =
    row_of
    (group 671 (λ k. 0)
    ∷ group 8 (word forged_left)
    ∷ group 192 (λ k. 0)
    ∷ group 8 (word forged_right)
    ∷ group 288 (λ k. 0)
    ∷ group 8 (word forged_sums)
    ∷ group 168 (λ k. 0)
    ∷ group 8 (word forged_sums)
    ∷ group 16 (λ k. 0)
    ∷ group 8 (word forged_sums)
    ∷ group 88 (λ k. 0)
    ∷ group 8 (word (1 ∷ []))
    ∷ group 8 (word (1 ∷ []))
    ∷ group 1 (λ k. 1)
    ∷ [])

-- the three that are not matched
abbrev pub forged_at : ℕ → Bool
forged_at i = eqb i 463 || (eqb i 467 || eqb i 469)
