-- The table of round constants: its rows, and what `update_multiplicities` changes.
use mathlib.Core.Path.{◌≡◌, refl, sym, ap, ◌∙◌}
use mathlib.Core.Bool.{Bool}
use mathlib.Core.List.{List, [], ◌∷◌, ◌++◌}
use Prim.Native.Nat.{ℕ, zero, suc, ◌+◌, ◌-◌, ◌*◌, ◌≤◌, ◌<◌}
use native.Mathlib.Nat.{not-suc-le-zero}
use native.Mathlib.Numerals.{add-one}
use native.Mathlib.Omega.{arith}
use borrow.Author.Tests.{lt-ltb, le-ltb}
use lib.ListN.{length, get_or, set, length-set, length-append, get_or-append}
use lib.Seq.{get_or-set_same, get_or-set_other}
use Rattle.lists.specs.Tab.{pick, row_at}
use Rattle.lists.proofs.Laws.{length-table, row_at-table, word-row_at}
use Rattle.lists.proofs.Then.{by_le}
use Rattle.answer.specs.Refusal.{accepted, afterwards}
use Rattle.answer.proofs.Laws.{new_word}
use Rattle.keccak_rc.specs.Columns.{MU, NUM-COLUMNS, NUM-REAL-ROWS, NUM-ROWS, NUM-PRECOMPUTED-COLS, TABLE-WORDS}
use Rattle.keccak_rc.specs.Row.{rc_row, rc_row_refusal, rc_row_after}
use Rattle.keccak_rc.specs.Table.{rc_table, with_mu, times_looked_up, updated, rc_trace_refusal, rc_trace_after, update_refusal, update_after}
use Rattle.keccak_rc.proofs.Found.{rc-length, rc-round}
use Rattle.keccak_rc.proofs.Refusals.{update-accepted}

-- ---- MU of the rows below m

pub length-with_mu : (f : ℕ → ℕ) (m : ℕ) (table : List ℕ) → length (with_mu f m table) ≡ length table
unfolding with_mu
length-with_mu f zero table = refl
length-with_mu f (suc r) table = length-set (with_mu f r table) (r * NUM-COLUMNS + MU) (f r) ∙ length-with_mu f r table

-- one row more, for a loop
pub with_mu-more : (f : ℕ → ℕ) (r : ℕ) (table : List ℕ) {now : List ℕ} (v : ℕ) → now ≡ with_mu f r table → v ≡ f r
    → set now (r * NUM-COLUMNS + MU) v ≡ with_mu f (r + 1) table
unfolding with_mu
with_mu-more f r table v e q =
    ap (λ (t : List ℕ). set t (r * NUM-COLUMNS + MU) v) e
    ∙ ap (set (with_mu f r table) (r * NUM-COLUMNS + MU)) q
    ∙ ap (λ (k : ℕ). with_mu f k table) (sym (add-one r))

pub with_mu-other : (f : ℕ → ℕ) (m : ℕ) (table : List ℕ) (k : ℕ) → ((r : ℕ) → r < m → k ≡ r * NUM-COLUMNS + MU → ⊥)
    → get_or (with_mu f m table) k 0 ≡ get_or table k 0
unfolding with_mu
with_mu-other f zero table k h = refl
with_mu-other f (suc r) table k h =
    get_or-set_other (with_mu f r table) (r * NUM-COLUMNS + MU) k (f r) 0 (h r (omega arith)) ∙ with_mu-other f r table k (λ q l. h q (omega arith))

pub with_mu-at : (f : ℕ → ℕ) (m : ℕ) (table : List ℕ) (r : ℕ) → r < m → m * NUM-COLUMNS ≤ length table
    → get_or (with_mu f m table) (r * NUM-COLUMNS + MU) 0 ≡ f r
unfolding with_mu
with_mu-at f zero table r l h = absurd (not-suc-le-zero l)
with_mu-at f (suc m) table r l h =
    by_le m r
    (λ g. let e : m ≡ r = omega arith in
    ap (λ (q : ℕ). get_or (set (with_mu f m table) (m * NUM-COLUMNS + MU) (f m)) (q * NUM-COLUMNS + MU) 0) (sym e)
    ∙ get_or-set_same (with_mu f m table) (m * NUM-COLUMNS + MU) (f m) 0 (omega (arith, length-with_mu f m table))
    ∙ ap f e)
    (λ g. get_or-set_other (with_mu f m table) (m * NUM-COLUMNS + MU) (r * NUM-COLUMNS + MU) (f m) 0 (λ e. omega arith) ∙ with_mu-at f m table r g (omega arith))

-- how often round r is looked up
module _ (nr n r : ℕ) where
  pub looked-up-never : r < NUM-REAL-ROWS - nr → 0 ≡ times_looked_up nr n r
  unfolding times_looked_up
  looked-up-never l = sym (ap (λ (t : Bool). pick t 0 n) (lt-ltb r (NUM-REAL-ROWS - nr) l))

  pub looked-up-each : NUM-REAL-ROWS - nr ≤ r → n ≡ times_looked_up nr n r
  unfolding times_looked_up
  looked-up-each l = sym (ap (λ (t : Bool). pick t 0 n) (le-ltb r (NUM-REAL-ROWS - nr) l))

-- ---- the table updated for n operations of nr rounds

module _ (nr n : ℕ) (table : List ℕ) where
  pub updated-length : length (updated nr n table) ≡ length table
  unfolding updated
  updated-length = length-with_mu (times_looked_up nr n) NUM-REAL-ROWS table

  -- the rounds 24 - nr to 23 are looked up n times
  pub updated-used : TABLE-WORDS ≤ length table → (r : ℕ) → NUM-REAL-ROWS - nr ≤ r → r < NUM-REAL-ROWS
      → get_or (updated nr n table) (r * NUM-COLUMNS + MU) 0 ≡ n
  unfolding updated
  updated-used h r l g = with_mu-at (times_looked_up nr n) NUM-REAL-ROWS table r g (omega arith) ∙ sym (looked-up-each nr n r l)

  -- the rounds before them never
  pub updated-early : TABLE-WORDS ≤ length table → (r : ℕ) → r < NUM-REAL-ROWS - nr
      → get_or (updated nr n table) (r * NUM-COLUMNS + MU) 0 ≡ 0
  unfolding updated
  updated-early h r l = with_mu-at (times_looked_up nr n) NUM-REAL-ROWS table r (omega arith) (omega arith) ∙ sym (looked-up-never nr n r l)

  -- the rows from 24 on keep their MU
  pub updated-late : (r : ℕ) → NUM-REAL-ROWS ≤ r
      → get_or (updated nr n table) (r * NUM-COLUMNS + MU) 0 ≡ get_or table (r * NUM-COLUMNS + MU) 0
  unfolding updated
  updated-late r h = with_mu-other (times_looked_up nr n) NUM-REAL-ROWS table (r * NUM-COLUMNS + MU) (λ q l e. omega arith)

  -- every row keeps its nine fixed words
  pub updated-fixed : (r k : ℕ) → k < NUM-PRECOMPUTED-COLS
      → get_or (updated nr n table) (r * NUM-COLUMNS + k) 0 ≡ get_or table (r * NUM-COLUMNS + k) 0
  unfolding updated
  updated-fixed r k h = with_mu-other (times_looked_up nr n) NUM-REAL-ROWS table (r * NUM-COLUMNS + k) (λ q l e. omega arith)

-- "`update_multiplicities` sets MU of rounds 24 − nr to 23 to the count, of lower ones to 0": in what the call leaves, where
-- it is accepted
module _ (nr : ℕ) (table : List ℕ) (n : ℕ) (passed : update_refusal nr table n ≡ accepted) where
  mu-word : (r : ℕ) → get_or (update_after nr table n) (10 * r + 9) 0 ≡ get_or (updated nr n table) (r * NUM-COLUMNS + MU) 0
  unfolding afterwards
  mu-word r = let e : 10 * r + 9 ≡ r * NUM-COLUMNS + MU = omega arith in rw passed (ap (λ (k : ℕ). get_or (updated nr n table) k 0) e)

  pub update-sets : (r : ℕ) → 24 - nr ≤ r → r < 24 → get_or (update_after nr table n) (10 * r + 9) 0 ≡ n
  update-sets r l g = mu-word r ∙ updated-used nr n table ((update-accepted nr table n).0 passed).3 r l g

  pub update-clears : (r : ℕ) → r < 24 - nr → get_or (update_after nr table n) (10 * r + 9) 0 ≡ 0
  update-clears r l = mu-word r ∙ updated-early nr n table ((update-accepted nr table n).0 passed).3 r l

-- ---- the table as it is generated

pub length-rc_table : length rc_table ≡ TABLE-WORDS
unfolding rc_table
length-rc_table = length-table NUM-ROWS NUM-COLUMNS (λ r. rc_row r ++ (0 ∷ []))

pub row-long : (r mu : ℕ) → length (rc_row r ++ (mu ∷ [])) ≡ NUM-COLUMNS
row-long r mu = length-append (rc_row r) (mu ∷ []) ∙ ap (λ (k : ℕ). k + 1) (rc-length r)

-- row r is its nine fixed words and MU 0
pub rc_table-row : (r : ℕ) → r < NUM-ROWS → row_at NUM-COLUMNS rc_table r ≡ rc_row r ++ (0 ∷ [])
unfolding rc_table
rc_table-row r h = row_at-table NUM-ROWS NUM-COLUMNS (λ r. rc_row r ++ (0 ∷ [])) r h (row-long r 0)

-- ---- what the calls leave, where they are accepted: word 0 of a row is its number

pub row-numbered : (r : ℕ) (out : List ℕ) → rc_row_refusal r out ≡ accepted → get_or (rc_row_after r out) 0 0 ≡ r
row-numbered r out passed = new_word (rc_row r) out passed 0 (omega (arith, rc-length r)) ∙ rc-round r

pub rows-numbered : (table : List ℕ) → rc_trace_refusal table ≡ accepted → (r : ℕ) → r < 32 → get_or (rc_trace_after table) (10 * r) 0 ≡ r
rows-numbered table passed r l =
    let e : r * NUM-COLUMNS + 0 ≡ 10 * r = omega arith in
    new_word rc_table table passed (10 * r) (omega (arith, length-rc_table))
    ∙ ap (λ (k : ℕ). get_or rc_table k 0) (sym e) ∙ sym (word-row_at NUM-COLUMNS rc_table r 0 (omega arith))
    ∙ ap (λ (x : List ℕ). get_or x 0 0) (rc_table-row r l)
    ∙ get_or-append (rc_row r) (0 ∷ []) 0 0 (omega (arith, rc-length r)) ∙ rc-round r
