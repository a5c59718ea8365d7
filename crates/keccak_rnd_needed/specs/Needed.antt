-- Each of 929 rules of a round row is needed: without it a row passes that sends a false state.
--     rule j       0 to 1,030 are the row's tuples, 1,031 to 1,171 its values
--     needed       which: KeccakRc, the 808 ByteAlu tuples, and the 120 shift identities
--     PassesBut    an active row of words below p, all whose rules hold but rule j, of which nothing is said
--     Wrong        a row of one of the 24 rounds, and the state that it sends is not FIPS 202's Rnd of its START at its ROUND
--     Forges       such a row for a given timestamp, round and START, on the Keccak bus against the written one
-- proofs/Needed.antt: `each-forged`, for each needed j and any timestamp, round and START there is such a row; `each_needed`, in short.
use Rattle.std.specs.Prelude.{ℕ, ◌+◌, ◌<◌, ◌≡◌, Bool, true, false, List, length}
use Rattle.lists.specs.Tab.{word, followed_by}
use Rattle.field.specs.Field.{p}
use Rattle.fips202.specs.Fips.{Agree, rnd}
use Rattle.fips202.specs.Lanes.{bits}
use Rattle.matching.specs.Matching.{Matched}
use Rattle.keccak.specs.Row.{state_lanes}
use Rattle.keccak_rnd.specs.Columns.{ROUND, START, MU, NUM-COLUMNS}
use Rattle.keccak_rnd.specs.Row.{round_row}
use Rattle.keccak_rnd.specs.Values.{NUM-VALUES, round_value}
use Rattle.keccak_rnd.specs.Tuples.{NUM-TUPLES, round_tuple, out_lanes}

-- how many rules, and how many of them are needed: proofs/Needed.antt, `needed-count`
abbrev pub NUM-RULES : ℕ
NUM-RULES = 1172

abbrev pub NUM-NEEDED : ℕ
NUM-NEEDED = 929

-- the rounds of Keccak-f[1600]
abbrev pub NUM-ROUNDS : ℕ
NUM-ROUNDS = 24

unfoldable pub needed : ℕ → Bool
needed =
    followed_by 2 (λ i. false)  -- Keccak
    (followed_by 161 (λ i. true)  -- KeccakRc, and the stages of C
    (followed_by 20 (λ i. false)  -- AreBytes of C's shifted halfwords
    (followed_by 240 (λ i. true)  -- D and θ
    (followed_by 200 (λ i. false)  -- AreBytes of ρ's parts
    (followed_by 408 (λ i. true)  -- χ's ands, χ and ι
    (followed_by 20 (λ i. false)  -- the carries of C are bits
    (followed_by 120 (λ i. true)  -- the shift identities of C and of ρ
    (λ i. false))))))))  -- MU is a bit

pub record PassesBut (j : ℕ) (row : List ℕ) : Type 0 where
  pub size : length row ≡ NUM-COLUMNS
  pub below : (k : ℕ) → word row k < p
  pub on : word row MU ≡ 1
  pub values : (i : ℕ) → i < NUM-VALUES → (NUM-TUPLES + i ≡ j → ⊥) → round_value row i ≡ 0
  pub lookups : (i : ℕ) → i < NUM-TUPLES → (i ≡ j → ⊥) → Matched (round_tuple row i)

-- (Of ROUND 24 to 31, whose constant is 0 in the row, FIPS 202 has no round: a row with such a ROUND that passes all rules is not counted here.)
pub record Wrong (row : List ℕ) : Type 0 where
  pub round : word row ROUND < NUM-ROUNDS
  pub state : Agree (bits (out_lanes row)) (rnd (bits (state_lanes START row)) (word row ROUND)) → ⊥

-- Such a row in the place of the written one of `stamp`, round r and the lanes s: it receives the same tuple on the Keccak bus, and sends another.
pub record Forges (j : ℕ) (stamp : ℕ → ℕ) (r : ℕ) (s row : List ℕ) : Type 0 where
  pub passes : PassesBut j row
  pub start : state_lanes START row ≡ s
  pub round : word row ROUND ≡ r
  pub wrong : Wrong row
  pub received : round_tuple row 0 ≡ round_tuple (round_row stamp r s) 0
  pub sent : round_tuple row 1 ≡ round_tuple (round_row stamp r s) 1 → ⊥
