-- Look before charging: "A segment's lookups on the bitwise table are charged to the lent counters in one call, for a flat list of
-- operations: all that its core and round rows send, padding rows included, each on the bitwise row of its operands (IsHalfword:
-- low and high byte) with Z 0."
--     sent_rows            how many rows of a table of h rows send
--     segment_charged      what both tables of a list send to counter c
--     segment_refusal      what every such call refuses for its list and its counters
--     charge_refusal, charge_after       what `charge` refuses, and what it leaves in the counters
--     largest             the largest counter of a kind
--     look_refusal, look_copy_after, look_out_after   what `look` refuses, and what it leaves in the copy and in its answer
-- No formula stands here: what is charged is what the tuples of the written rows say (bitwise/specs/Charge.antt: `charged`).
-- nr is the number of rounds, "One nr holds for a whole segment", and floor the least height of both tables: "the height rule takes it in
-- place of 4, and so do both writers, padding counts, the charge, its look and `tally`". Of 24 rounds the sums are those of `tally`
-- (segment_sums/proofs/Tally.antt).
use Rattle.std.specs.Prelude.{ℕ, ◌+◌, ◌*◌, ◌/◌, ◌%◌, Bool, not, ◌&&◌, List, eqb, length}
use Rattle.std.proofs.Math.Option.{Option}
use Rattle.lists.specs.Tab.{pick, tab, word}
use Rattle.lists.specs.Sum.{largest_below}
use Rattle.field.specs.Elements.{first_not_element}
use Rattle.answer.specs.Refusal.{refuse_at, accepted, too_short, not_rounds, not_floor, overwrite, afterwards}
use Rattle.answer.specs.declared.Refusal.{Refusal}
use Rattle.answer.specs.declared.Refusal.TheVariants.{NotElement}
use Rattle.bitwise.specs.Columns.{NUM-ROWS, NUM-LOOKUP-TYPES, NUM-COUNTERS}
use Rattle.bitwise.specs.Charge.{charged, charged_words, charged_counters, charged_kind}
use Rattle.keccak.specs.Height.{height}
use Rattle.keccak.specs.Row.{op_at, core_row_at}
use Rattle.keccak.specs.Refusals.{op_count, too_many, not_whole, bad_operation}
use Rattle.keccak.specs.Tuples.{core_tuple, NUM-TUPLES as CORE-TUPLES}
use Rattle.keccak.specs.declared.KeccakOperation.{KeccakOperation}
use Rattle.keccak_rnd.specs.Row.{round_height, round_row_at}
use Rattle.keccak_rnd.specs.Tuples.{round_tuple, NUM-TUPLES as ROUND-TUPLES}

-- ---- what is charged
-- "An empty list charges none, in shipped mode 880 AreBytes.", "The 880 of shipped mode becomes 220 times the floor.": the tables of an
-- empty list send where they are shipped
unfoldable pub sent_rows : Bool → ℕ → ℕ → ℕ
sent_rows shipped n h = pick (eqb n 0 && not shipped) 0 h

-- what the rows of both tables of n operations, as they are written, add to counter c. No lookup depends on the syscall number
-- (proofs/Rows.antt: `syscall-free`).
unfoldable pub segment_charged : ℕ → ℕ → Bool → ℕ → (ℕ → KeccakOperation) → ℕ → ℕ
segment_charged nr floor shipped n op c =
    charged (sent_rows shipped n (height floor n)) CORE-TUPLES (λ r. core_tuple nr 0 (core_row_at n op r)) c
    + charged (sent_rows shipped n (round_height nr floor n)) ROUND-TUPLES (λ q. round_tuple (round_row_at nr n op q)) c

-- the same of a flat list of operations
abbrev pub list_charged : ℕ → ℕ → Bool → List ℕ → ℕ → ℕ
list_charged nr floor shipped ops = segment_charged nr floor shipped (op_count ops) (op_at ops)

-- ---- `charge`
-- 1 and 2 of the list, 3 of the lent slices, then the list's other refusals, and then "5 covers every counter", the first of them that is p
-- or more: what each call refuses that charges counters or a copy of them. `short` is 3
abbrev pub segment_refusal : (Option Refusal → Option Refusal) → List ℕ → List ℕ → Option Refusal
segment_refusal short ops counters =
    too_many ops
    (not_whole ops
    (short
    (bad_operation ops (refuse_at (first_not_element counters NUM-COUNTERS) NotElement accepted))))

-- "8, nr is 0 or above 24, detail nr, before 1", "9, any other floor, detail the floor, after 8 and before 1"
unfoldable pub charge_refusal : ℕ → ℕ → List ℕ → List ℕ → Option Refusal
charge_refusal nr floor ops counters =
    not_rounds nr (not_floor floor (segment_refusal (too_short (length counters) NUM-COUNTERS) ops counters))

abbrev pub charge_after : ℕ → ℕ → Bool → List ℕ → List ℕ → List ℕ
charge_after nr floor shipped ops counters =
    afterwards (charge_refusal nr floor ops counters) (charged_counters counters (list_charged nr floor shipped ops)) counters

-- ---- `look`
-- the largest counter of kind k: "The largest is taken over whole numbers below p, after any return to zero at p."
unfoldable pub largest : List ℕ → ℕ → ℕ
largest counters k = largest_below NUM-ROWS (λ r. word counters (r * NUM-LOOKUP-TYPES + k))

-- "for each of the ten kinds, the sum charged and the largest counter afterwards": word 2k and word 2k + 1
abbrev pub LOOK-WORDS : ℕ
LOOK-WORDS = 20

unfoldable pub look_words : List ℕ → (ℕ → ℕ) → List ℕ
look_words counters added =
    tab LOOK-WORDS
    (λ j. pick (eqb (j % 2) 0) (charged_kind added (j / 2)) (largest (charged_words counters added) (j / 2)))

-- 3 of a look that answers so many words: "The copy's words are lent too, checked by 3 after the counters", then the words
abbrev pub look_short : ℕ → ℕ → ℕ → ℕ → Option Refusal → Option Refusal
look_short words counters copy out later =
    too_short counters NUM-COUNTERS (too_short copy NUM-COUNTERS (too_short out words later))

-- else as `charge`
unfoldable pub look_refusal : ℕ → ℕ → List ℕ → List ℕ → ℕ → ℕ → Option Refusal
look_refusal nr floor ops counters copy out =
    not_rounds nr (not_floor floor (segment_refusal (look_short LOOK-WORDS (length counters) copy out) ops counters))

-- "and then hold the charged copy"
abbrev pub look_copy_after : ℕ → ℕ → Bool → List ℕ → List ℕ → List ℕ → ℕ → List ℕ
look_copy_after nr floor shipped ops counters copy out =
    afterwards (look_refusal nr floor ops counters (length copy) out)
    (overwrite (charged_words counters (list_charged nr floor shipped ops)) copy) copy

abbrev pub look_out_after : ℕ → ℕ → Bool → List ℕ → List ℕ → ℕ → List ℕ → List ℕ
look_out_after nr floor shipped ops counters copy out =
    afterwards (look_refusal nr floor ops counters copy (length out))
    (overwrite (look_words counters (list_charged nr floor shipped ops)) out) out
