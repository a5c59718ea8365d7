-- The refusals by number and detail, the first of a call's checks that refuses, and what a refused call leaves.
--     refusal_number, refusal_detail   the number and the detail that the interface gives for a refusal
--     refuse_if       one check of a call: refuse where the test passes, else go on with the checks that follow
--     refuse_at       the same for a check that searches: refuse by the place that it found
--     past_end, over_limit, too_short, not_rounds, not_floor   the checks that several calls share
--                    (proofs/Refusals.antt: when each refuses)
--     answer_of       the answer of a call that only writes, from what its checks found
--     number_of       the answer of a call that gives a number
--     overwrite      the new words, then the old words past them
--     afterwards     what a lent slice holds after the call: the new words, or the old ones where it was refused
-- A call's checks are one definition of its arguments, an `Option Refusal`; its answer and the slices that it leaves
-- are both stated from that definition.
use Rattle.std.specs.Prelude.{ℕ, ◌+◌, ◌^◌, ◌≤◌, Bool, not, ◌≡◌, List, ◌++◌, eqb, leb, ltb, length, drop}
use Rattle.std.proofs.Math.Option.{Option, none, some}
use Rattle.lists.specs.Tab.{pick}
use Rattle.lists.specs.First.{any_below}
use Rattle.answer.specs.Limits.{MAX-OPS, MAX-ROUNDS}
use Rattle.answer.specs.declared.Refusal.{Refusal}
use Rattle.answer.specs.declared.Refusal.TheVariants.{PastEnd, NotWhole, TooShort, HighAddress}
use Rattle.answer.specs.declared.Refusal.TheVariants.{NotElement, BadRecord, Unaligned, Rounds, Floor, Register, Segment, LongMessage, LateTimestamp, Files}
use Rattle.std.specs.Prelude.{Result, Ok, Err, ⊤}

abbrev pub refusal_number : Refusal → ℕ
refusal_number (PastEnd limit) = 1
refusal_number (NotWhole which) = 2
refusal_number (TooShort needed) = 3
refusal_number (HighAddress address) = 4
refusal_number (NotElement place) = 5
refusal_number (BadRecord start) = 6
refusal_number (Unaligned address) = 7
refusal_number (Rounds nr) = 8
refusal_number (Floor floor) = 9
refusal_number (Register register) = 10
refusal_number (Segment word) = 11
refusal_number (LongMessage n) = 12
refusal_number (LateTimestamp timestamp) = 13
refusal_number (Files files) = 14

abbrev pub refusal_detail : Refusal → ℕ
refusal_detail (PastEnd limit) = limit
refusal_detail (NotWhole which) = which
refusal_detail (TooShort needed) = needed
refusal_detail (HighAddress address) = address
refusal_detail (NotElement place) = place
refusal_detail (BadRecord start) = start
refusal_detail (Unaligned address) = address
refusal_detail (Rounds nr) = nr
refusal_detail (Floor floor) = floor
refusal_detail (Register register) = register
refusal_detail (Segment word) = word
refusal_detail (LongMessage n) = n
refusal_detail (LateTimestamp timestamp) = timestamp
refusal_detail (Files files) = files

-- refuse with r where the test passes, else what the later checks say
unfoldable pub refuse_if : Bool → Refusal → Option Refusal → Option Refusal
refuse_if b r later = pick b (some r) later

-- refuse by the place that a search found, else what the later checks say
unfoldable pub refuse_at : Option ℕ → (ℕ → Refusal) → Option Refusal → Option Refusal
refuse_at none r later = later
refuse_at (some k) r later = some (r k)

abbrev pub accepted : Option Refusal
accepted = none

-- 1: "an index, kind (≥ 10), Z (≥ 16), round to be written (≥ 24), constant row (≥ 32) .. past its end, detail the
-- least number refused"
abbrev pub past_end : ℕ → ℕ → Option Refusal → Option Refusal
past_end limit i later = refuse_if (leb limit i) (PastEnd limit) later

-- 1: "or n (> 89,478,485 ..) past its end, detail the least number refused"
abbrev pub over_limit : ℕ → Option Refusal → Option Refusal
over_limit n later = refuse_if (ltb MAX-OPS n) (PastEnd (MAX-OPS + 1)) later

-- 3: "a lent slice too short, detail the length needed"
abbrev pub too_short : ℕ → ℕ → Option Refusal → Option Refusal
too_short room needed later = refuse_if (ltb room needed) (TooShort needed) later

-- 8: "nr is 0 or above 24, detail nr, before 1"
abbrev pub not_rounds : ℕ → Option Refusal → Option Refusal
not_rounds nr later = refuse_if (eqb nr 0) (Rounds nr) (refuse_if (ltb MAX-ROUNDS nr) (Rounds nr) later)

-- "The floor is a power of two from 4 to 65,536": 2^(2 + e), e below 15; and the same as a statement (proofs/Refusals.antt:
-- `floor-accepted`)
unfoldable pub is_floor : ℕ → Bool
is_floor floor = any_below (λ e. eqb floor (2 ^ (2 + e))) 15

abbrev pub PowerFloor : ℕ → Type 0
PowerFloor floor = (e : ℕ) × (2 ≤ e) × (e ≤ 16) × (floor ≡ 2 ^ e)

-- 9: "any other floor, detail the floor, after 8 and before 1"
abbrev pub not_floor : ℕ → Option Refusal → Option Refusal
not_floor floor later = refuse_if (not (is_floor floor)) (Floor floor) later

-- the checks of a call that takes a number of operations alone
unfoldable pub count_refusal : ℕ → Option Refusal
count_refusal n = over_limit n accepted

unfoldable pub answer_of : Option Refusal → Result ⊤ Refusal
answer_of none = Ok tt
answer_of (some r) = Err r

unfoldable pub number_of : ℕ → Option Refusal → Result ℕ Refusal
number_of n none = Ok n
number_of n (some r) = Err r

unfoldable pub overwrite : List ℕ → List ℕ → List ℕ
overwrite new old = new ++ drop (length new) old

unfoldable pub afterwards : Option Refusal → List ℕ → List ℕ → List ℕ
afterwards none new old = new
afterwards (some r) new old = old
