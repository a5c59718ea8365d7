-- "Planning sets caps from many files. Over a list of per-file operation counts, give the number of files, operations, used and
-- padding round rows (a count of 0 is a shipped table), the fullest and emptiest round table as used and total rows (an earlier file
-- wins a tie, fullness compared by whole-number products), and the file count at each round height from 4 to 2^31, lowest first. ..
-- nr and floor are those of the month."
--     used_at, total_at       the used rows of file i's round table, and all its rows
--     fuller                whether the round table of n operations is fuller than that of m
--     first_unbeaten         the first of n that none beats
--     operations_of, used_of, padding_of, fullest, emptiest, files_at   what is asked of a list of counts
--     month_words            all of it, in its 39 words
--     month_refusal, month_after   the call
-- In any order of the counts all sums are the same, and the fullest and the emptiest equally full: proofs/Order.antt.
use Rattle.std.specs.Prelude.{ℕ, ◌+◌, ◌-◌, ◌*◌, ◌^◌, ◌≤◌, ◌<◌, Bool, true, false, not, ◌≡◌, List, [], ◌∷◌, ◌++◌, eqb, ltb, length}
use Rattle.std.proofs.Math.Option.{Option, none, some}
use Rattle.lists.specs.Tab.{tab, word}
use Rattle.lists.specs.First.{first_at, any_below, count_below}
use Rattle.lists.specs.Sum.{sum_below}
use Rattle.lists.specs.OneToOne.{OneToOne}
use Rattle.answer.specs.Limits.{MAX-OPS, MAX-ROUNDS}
use Rattle.answer.specs.Refusal.{refuse_if, accepted, too_short, not_rounds, not_floor, PowerFloor, overwrite, afterwards}
use Rattle.answer.specs.declared.Refusal.{Refusal}
use Rattle.answer.specs.declared.Refusal.TheVariants.{PastEnd, Files}
use Rattle.sort.specs.Sorted.{copies}
use Rattle.keccak_rnd.specs.Row.{round_height}

-- "more than 4,096 files"
abbrev pub MAX-FILES : ℕ
MAX-FILES = 4096

-- "each round height from 4 to 2^31": 2^2 to 2^31
abbrev pub HEIGHTS : ℕ
HEIGHTS = 30

abbrev pub height_of : ℕ → ℕ
height_of e = 2 ^ (2 + e)

abbrev pub MONTH-WORDS : ℕ
MONTH-WORDS = 39

-- ---- one file
-- "used .. round rows", nr to an operation, and all rows of the table; of no operations, "a count of 0 is a shipped table", none is used and
-- there are as many as the floor
abbrev pub used_at : ℕ → List ℕ → ℕ → ℕ
used_at nr counts i = word counts i * nr

abbrev pub total_at : ℕ → ℕ → List ℕ → ℕ → ℕ
total_at nr floor counts i = round_height nr floor (word counts i)

-- ---- two files
-- "fullness compared by whole-number products": used rows of n / all rows of n is above used rows of m / all rows of m
unfoldable pub fuller : ℕ → ℕ → ℕ → ℕ → Bool
fuller nr floor n m = ltb (m * nr * round_height nr floor n) (n * nr * round_height nr floor m)

-- "an earlier file wins a tie": the first of n that none of them beats; nothing where n is 0
unfoldable pub unbeaten : (ℕ → ℕ → Bool) → ℕ → ℕ → Bool
unbeaten beats n i = not (any_below (λ j. beats j i) n)

unfoldable pub first_unbeaten : (ℕ → ℕ → Bool) → ℕ → Option ℕ
first_unbeaten beats n = first_at (unbeaten beats n) n

-- ---- all files
unfoldable pub operations_of : List ℕ → ℕ
operations_of counts = sum_below (length counts) (word counts)

unfoldable pub used_of : ℕ → List ℕ → ℕ
used_of nr counts = sum_below (length counts) (used_at nr counts)

unfoldable pub padding_of : ℕ → ℕ → List ℕ → ℕ
padding_of nr floor counts = sum_below (length counts) (λ i. total_at nr floor counts i - used_at nr counts i)

unfoldable pub fullest : ℕ → ℕ → List ℕ → Option ℕ
fullest nr floor counts = first_unbeaten (λ j i. fuller nr floor (word counts j) (word counts i)) (length counts)

unfoldable pub emptiest : ℕ → ℕ → List ℕ → Option ℕ
emptiest nr floor counts = first_unbeaten (λ j i. fuller nr floor (word counts i) (word counts j)) (length counts)

-- "the file count at each round height"
unfoldable pub files_at : ℕ → ℕ → List ℕ → ℕ → ℕ
files_at nr floor counts h = count_below (λ i. eqb (total_at nr floor counts i) h) (length counts)

-- what is shown of a file; 0 where there is none
abbrev pub shown : (ℕ → ℕ) → Option ℕ → ℕ
shown f none = 0
shown f (some i) = f i

-- in the order of the sentence, and last whether there is a fullest and an emptiest: "An empty list has all sums 0 and no fullest or
-- emptiest."
unfoldable pub month_words : ℕ → ℕ → List ℕ → List ℕ
month_words nr floor counts =
    length counts
    ∷ operations_of counts
    ∷ used_of nr counts
    ∷ padding_of nr floor counts
    ∷ shown (used_at nr counts) (fullest nr floor counts)
    ∷ shown (total_at nr floor counts) (fullest nr floor counts)
    ∷ shown (used_at nr counts) (emptiest nr floor counts)
    ∷ shown (total_at nr floor counts) (emptiest nr floor counts)
    ∷ (tab HEIGHTS (λ e. files_at nr floor counts (height_of e)) ++ (shown (λ i. 1) (fullest nr floor counts) ∷ []))

-- ---- the call
-- 8 and 9; "14, more than 4,096 files, detail their number, after 9 and before 1"; 1 of any count; 3
unfoldable pub month_refusal : ℕ → ℕ → List ℕ → ℕ → Option Refusal
month_refusal nr floor counts room =
    not_rounds nr
    (not_floor floor
    (refuse_if (ltb MAX-FILES (length counts)) (Files (length counts))
    (refuse_if (any_below (λ i. ltb MAX-OPS (word counts i)) (length counts)) (PastEnd (MAX-OPS + 1))
    (too_short room MONTH-WORDS
    accepted))))

abbrev pub month_after : ℕ → ℕ → List ℕ → List ℕ → List ℕ
month_after nr floor counts out =
    afterwards (month_refusal nr floor counts (length out)) (overwrite (month_words nr floor counts) out) out

-- what an accepted month is: proofs/Refusals.antt, `month-accepted`
pub record Planned (nr floor : ℕ) (counts : List ℕ) : Type 0 where
  pub rounds : 1 ≤ nr
  pub most-rounds : nr ≤ MAX-ROUNDS
  pub power : PowerFloor floor
  pub few : length counts ≤ MAX-FILES
  pub each : (i : ℕ) → i < length counts → word counts i ≤ MAX-OPS

-- what the first that none beats is: none of the n beats it, and it beats each earlier one, so that of those that tie it is the earliest
-- (proofs/Unbeaten.antt, `first-is`)
pub record Best (beats : ℕ → ℕ → Bool) (n k : ℕ) : Type 0 where
  pub there : k < n
  pub unbeaten : (j : ℕ) → j < n → beats j k ≡ false
  pub earlier : (j : ℕ) → j < k → beats k j ≡ true

-- the same counts in some order, in two ways that say the same (proofs/Order.antt, `permuted-exactly`): a permutation, given as a function
-- with its inverse, takes each place of the one to a place of the other with an equal count; or every number is a count of both equally often
abbrev pub Permuted : List ℕ → List ℕ → Type 0
Permuted xs ys = OneToOne (λ i. i < length xs) (λ j. j < length ys) (λ i j. word xs i ≡ word ys j)

abbrev pub SameCounts : List ℕ → List ℕ → Type 0
SameCounts xs ys = (n : ℕ) → copies n xs ≡ copies n ys
