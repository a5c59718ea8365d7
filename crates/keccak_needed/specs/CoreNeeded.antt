-- Each of 105 rules of a core row is needed: without it an active row passes whose lanes do not sit where demand 3 says.
--     rule j        0 to 83 are the row's tuples, 84 to 135 its values
--     core_needed    which: tuples 4 to 58 (IsWh and IsHalfword of each pointer, the alignment, AreBytes of the address), values 0 to 48, and 50
--     CoreBut       an active row of words below p, all whose rules hold but rule j, of which nothing is said
--     bent_core      such a row whose lanes are not `Addressed` (verdict/specs/Claims.antt)
-- proofs/CoreNeeded.antt: `each-core-needed`. proofs/CoreFollows.antt: `core-follows`, each of the other 31 follows from the remaining 135.
use Rattle.std.specs.Prelude.{ℕ, ◌+◌, ◌-◌, ◌*◌, ◌/◌, ◌%◌, ◌^◌, ◌<◌, ◌≡◌, Bool, true, false, ◌||◌, List, [], ◌∷◌, eqb, length}
use Rattle.lists.specs.Tab.{pick, word, group, Group, row_of, followed_by}
use Rattle.field.specs.Field.{p}
use Rattle.matching.specs.Matching.{Matched}
use Rattle.keccak.specs.Columns.{MU, NUM-COLUMNS}
use Rattle.keccak.specs.Values.{NUM-VALUES, core_value}
use Rattle.keccak.specs.Tuples.{NUM-TUPLES, core_tuple}

unfoldable pub core_needed : ℕ → Bool
core_needed =
    followed_by 4 (λ i. false)  -- Ecall, Memw and Keccak: not looked up
    (followed_by 55 (λ i. true)  -- the limbs of the pointers, the alignment, the address's bytes
    (followed_by 25 (λ i. false)  -- Memw
    (followed_by 49 (λ i. true)  -- the carries of the lanes, but for the last's high one
    (followed_by 1 (λ i. false)
    (followed_by 1 (λ i. true)  -- the last has no high carry
    (λ i. false))))))  -- MU is a bit

pub record CoreBut (j nr syscall : ℕ) (row : List ℕ) : Type 0 where
  pub size : length row ≡ NUM-COLUMNS
  pub below : (k : ℕ) → word row k < p
  pub on : word row MU ≡ 1
  pub values : (i : ℕ) → i < NUM-VALUES → (NUM-TUPLES + i ≡ j → ⊥) → core_value row i ≡ 0
  pub lookups : (i : ℕ) → i < NUM-TUPLES → (i ≡ j → ⊥) → Matched (core_tuple nr syscall row i)

-- ---- the row that is bent at rule j
-- where lane 0 sits: 1 without the alignment; 255 without AreBytes of bytes 0 and 1; 2^64 - 192 without value 50, so that the last lane sits at 0
unfoldable pub bent_start : ℕ → ℕ
bent_start j = pick (eqb j 54) 1 (pick (eqb j 55) 255 (pick (eqb j 134) (2 ^ 64 - 192) 0))

-- the address's words. Without AreBytes of a pair: 256 (2^56 - 2^24 + 1) = p + 255, or p - 256 and 1, which make p times a power of two
unfoldable pub bent_address : ℕ → ℕ → ℕ
bent_address j b =
    pick (eqb j 55) (pick (eqb b 1) (2 ^ 56 - 2 ^ 24 + 1) 0)
    (pick (eqb j 56 || (eqb j 57 || eqb j 58)) (pick (eqb b (2 * j - 110)) (p - 256) (pick (eqb b (2 * j - 109)) 1 0))
    (bent_start j / 2 ^ (8 * b) % 256))

-- limb l of pointer i: of the number where the lane sits; but
--     without its IsWh         limb 0 one more, and 2^16 limb 1 = p - 1
--     without its IsHalfword   limb 1 is 1, and limb 0 that much less, mod p
--     without its low carry    one more, and the high word makes up for it: (2^32 - 1) 2^32 = -1 mod p
--     without its high carry   2^32 more
unfoldable pub bent_limb : ℕ → ℕ → ℕ → ℕ
bent_limb j i l =
    let n = (bent_start j + 8 * i) % 2 ^ 64 in
    pick (eqb j (4 + 2 * i)) (pick (eqb l 0) (8 * i + 1) (pick (eqb l 1) (2 ^ 48 - 2 ^ 16) 0))
    (pick (eqb j (5 + 2 * i)) (pick (eqb l 0) (p + 8 * i - 2 ^ 16) (pick (eqb l 1) 1 0))
    (pick (eqb j (84 + 2 * i)) (pick (eqb l 0) (8 * i + 1) (pick (eqb l 1) 0 (2 ^ 32 - 1)))
    (pick (eqb j (85 + 2 * i)) (pick (eqb l 0) (8 * i) (pick (eqb l 1) 0 1))
    (pick (eqb l 0) (n % 2 ^ 16) (pick (eqb l 1) (n / 2 ^ 16 % 2 ^ 16) (n / 2 ^ 32))))))

unfoldable pub bent_groups : ℕ → List Group
bent_groups j =
    group 2 (λ k. 0)
    ∷ group 8 (bent_address j)
    ∷ group 400 (λ k. 0)
    ∷ group 75 (λ k. bent_limb j (k / 3) (k % 3))
    ∷ group 1 (λ k. 1)
    ∷ []

unfoldable pub bent_core : ℕ → List ℕ
bent_core j = row_of (bent_groups j)
