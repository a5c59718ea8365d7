-- Lists of keys and lists of rows, as they are lent: flat, two words a key, three words a row.
--     bad_at                 word k of a list is not below its limit
--     too_many_in, ragged_in, bad_in   one check each, followed by the checks after it
--     rows_refusal           the checks of a call that takes a list of rows and a slice, one definition for all of them
use Rattle.std.specs.Prelude.{ℕ, zero, suc, ◌+◌, ◌/◌, ◌%◌, ◌^◌, ◌≤◌, ◌<◌, Bool, not, ◌≡◌, List, eqb, leb, length}
use Rattle.std.proofs.Math.Option.{Option}
use Rattle.lists.specs.Tab.{word}
use Rattle.lists.specs.First.{first_at}
use Rattle.answer.specs.Refusal.{refuse_if, refuse_at, past_end, too_short}
use Rattle.answer.specs.declared.Refusal.{Refusal}
use Rattle.answer.specs.declared.Refusal.TheVariants.{NotWhole, NotElement}

abbrev pub KEY-SIZE : ℕ
KEY-SIZE = 2

abbrev pub ROW-SIZE : ℕ
ROW-SIZE = 3

-- The most keys, and so the most rows, of one list: 25 for each of the most operations (proofs/Lists.antt).
abbrev pub MAX-KEYS : ℕ
MAX-KEYS = 2236962125

-- What the parts of a key or of a row have to be below: a word of 32 bits, a half of 16, and in a row "μ: B20".
abbrev pub limit_of : ℕ → ℕ
limit_of zero = 2 ^ 32
limit_of (suc zero) = 2 ^ 16
limit_of (suc (suc part)) = 2 ^ 20

-- word k of a list of entries of `size` words is not below its limit
unfoldable pub bad_at : ℕ → List ℕ → ℕ → Bool
bad_at size list k = leb (limit_of (k % size)) (word list k)

-- 1: more than MAX-KEYS entries
abbrev pub too_many_in : ℕ → List ℕ → Option Refusal → Option Refusal
too_many_in size list later = past_end (MAX-KEYS + 1) (length list / size) later

-- 2: a list that is not whole entries, detail 2 list
abbrev pub ragged_in : ℕ → List ℕ → Option Refusal → Option Refusal
ragged_in size list later = refuse_if (not (eqb (length list % size) 0)) (NotWhole 2) later

-- 5: a word that is not below its limit, detail its place
abbrev pub bad_in : ℕ → List ℕ → Option Refusal → Option Refusal
bad_in size list later = refuse_at (first_at (bad_at size list) (length list)) NotElement later

-- a list of rows, and a slice of `room` words of which the call needs `needed`; then the later checks
unfoldable pub rows_refusal : ℕ → ℕ → List ℕ → Option Refusal → Option Refusal
rows_refusal room needed rows later =
    too_many_in ROW-SIZE rows
    (ragged_in ROW-SIZE rows
    (too_short room needed
    (bad_in ROW-SIZE rows
    later)))

-- None of the conditions on a list holds. proofs/Lists.antt: the checks pass exactly then; and each refusal with its detail.
pub record GoodList (size : ℕ) (list : List ℕ) : Type 0 where
  pub few : length list / size ≤ MAX-KEYS
  pub whole : length list % size ≡ 0
  pub below : (k : ℕ) → k < length list → word list k < limit_of (k % size)
