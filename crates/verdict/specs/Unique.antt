-- Only one way to fill it: "the active rows of any round table that holds with it are exactly the active rows we would write,
-- in some order, all 1,480 words equal. Padding rows may differ."
--     EquallyOften, Rearranged   'in some order', in two ways
--     Refilled                   a round table with the active rows of another, in some order, and any idle rows
--     repadded                   a round table with other rows in place of those that are not active
-- proofs/Unique.antt: the two ways say the same of any two tables (`some-order`); where the verdict on a core table and a round
-- table is 'holds', it is so with another round table exactly where that is the first one refilled (`refilled-exactly`); what this
-- says of our round table is `ours-exactly`.
use Rattle.std.specs.Prelude.{ℕ, ◌<◌, ◌≡◌, List}
use Rattle.lists.specs.Tab.{pick, word, table_of}
use Rattle.lists.specs.OneToOne.{OneToOne}
use Rattle.keccak_rnd.specs.Columns.{NUM-COLUMNS}
use Rattle.keccak_rnd.specs.Passes.{Idle}
use Rattle.verdict.specs.Kind.{Layout, rows, row, active, Active, copies, Whole, Elements}
use Rattle.verdict.specs.CoreAndRound.{round_layout}

-- ---- 'in some order', of the active rows of two tables
-- every list of words is an active row of both equally often
abbrev pub EquallyOften : Layout → List ℕ → List ℕ → Type 0
EquallyOften A t u = (y : List ℕ) → copies A t y ≡ copies A u y

-- "all 1,480 words equal": of row r of the one and row q of the other
abbrev pub EqualRows : Layout → List ℕ → List ℕ → ℕ → ℕ → Type 0
EqualRows A t u r q = (k : ℕ) → k < A.width → word (row A t r) k ≡ word (row A u q) k

-- the numbers of the active rows of both are matched one to one, by a function with its inverse, rows with equal ones
abbrev pub Rearranged : Layout → List ℕ → List ℕ → Type 0
Rearranged A t u = OneToOne (Active A t) (Active A u) (EqualRows A t u)

-- ---- round tables
-- u filled again as v: whole rows of words below p, the active rows of u in some order, and between them any number of
-- rows that are not active, of which each is idle
pub record Refilled (u v : List ℕ) : Type 0 where
  pub whole : Whole round_layout v
  pub below : Elements v
  pub same : Rearranged round_layout v u
  pub rest : (r : ℕ) → r < rows round_layout v → (Active round_layout v r → ⊥) → Idle (row round_layout v r)

-- u with the row `pad r` in place of each row r that is not active
unfoldable pub repadded : (ℕ → List ℕ) → List ℕ → List ℕ
repadded pad u =
    table_of (rows round_layout u) NUM-COLUMNS (λ r. pick (active round_layout u r) (row round_layout u r) (pad r))
