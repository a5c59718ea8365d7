-- Fewer tuples for the round table: 911 of the 1,031 of a row. All 120 that are dropped are AreBytes tuples.
--     kept         which tuples stay: all but 163 to 182 (C's shifted halfwords), and but those of 423 to 622 (ρ's parts) whose byte is 0, 1, 4 or 5
--     LeanPasses   all 141 values of a row are 0, its kept lookups matched
--     LeanIdle     what that says of a row whose MU is 0
-- proofs/Enough.antt: `lean-enough`, an active row of words below p that passes these passes all 1,031. proofs/Passing.antt: `lean-exactly`, which rows pass these.
use Rattle.std.specs.Prelude.{ℕ, ◌+◌, ◌%◌, ◌≤◌, ◌<◌, ◌≡◌, Bool, true, false, List, leb}
use Rattle.lists.specs.Tab.{word, followed_by}
use Rattle.matching.specs.Matching.{Matched}
use Rattle.keccak.specs.Columns.{by_xyb}
use Rattle.keccak_rnd.specs.Columns.{CXZ-RIGHT, ROT-LEFT, ROT-RIGHT, MU}
use Rattle.keccak_rnd.specs.Values.{NUM-VALUES, round_value}
use Rattle.keccak_rnd.specs.Tuples.{NUM-TUPLES, round_tuple}

-- of ρ's tuples those of bytes 2, 3, 6 and 7 stay: both bytes of halfwords 1 and 3 of each lane, before they are moved
abbrev pub kept_byte : ℕ → ℕ → ℕ → Bool
kept_byte x y b = leb 2 (b % 4)

-- the groups of `round_tuple` up to 162, 163 to 182, 183 to 422, 423 to 622, and from 623 on
unfoldable pub kept : ℕ → Bool
kept =
    followed_by 163 (λ i. true)
    (followed_by 20 (λ i. false)
    (followed_by 240 (λ i. true)
    (followed_by 200 (by_xyb kept_byte)
    (λ i. true))))

-- how many of the 1,031 are kept: proofs/Enough.antt, `kept-count`
abbrev pub NUM-KEPT : ℕ
NUM-KEPT = 911

pub record LeanPasses (row : List ℕ) : Type 0 where
  pub values : (i : ℕ) → i < NUM-VALUES → round_value row i ≡ 0
  pub lookups : (i : ℕ) → i < NUM-TUPLES → kept i ≡ true → Matched (round_tuple row i)

-- A row whose MU is 0: 200 words are bytes and 20 are bits; nothing binds the other 1,259.
pub record LeanIdle (row : List ℕ) : Type 0 where
  pub off : word row MU ≡ 0
  pub right-bits : (k : ℕ) → k < 20 → word row (CXZ-RIGHT + k) < 2
  pub rot-left-bytes : (k : ℕ) → k < 200 → 2 ≤ k % 4 → word row (ROT-LEFT + k) < 256
  pub rot-right-bytes : (k : ℕ) → k < 200 → 2 ≤ k % 4 → word row (ROT-RIGHT + k) < 256
