-- The sums that are charged, by kind: what is computed from the number of operations is what the tuples of the rows add.
--     core-sum, round-sum   of each table, for any number of rows that send
--     kind-sums-at          of both, for nr rounds and tables of at least `floor` rows
use mathlib.Core.Bool.{Bool, true, false, not, ◌&&◌}
use mathlib.Core.List.{List}
use mathlib.Core.Path.{◌≡◌, refl, sym, ap, ap₂, subst, ◌∙◌}
use Prim.Native.Nat.{ℕ, zero, suc, ◌+◌, ◌-◌, ◌*◌, ◌≤◌, ◌<◌}
use native.Mathlib.Nat.{add_assoc, add-mul, mul-add, zero-add, zero-mul, add-sub_of_le}
use native.Mathlib.Omega.{arith}
use borrow.Author.Tests.{eqb-true}
use lib.Dec.{eqb}
use Rattle.lists.specs.Tab.{pick, word}
use Rattle.lists.specs.Sum.{sum_below}
use Rattle.lists.proofs.Sum.{sum_first}
use Rattle.lists.proofs.Tests.{and-true}
use Rattle.answer.specs.Refusal.{PowerFloor}
use Rattle.answer.proofs.Refusals.{floor-least}
use Rattle.bits.specs.Bits.{limb_at}
use Rattle.bits.proofs.Bytes.{byte-lt}
use Rattle.fips202.specs.Lanes.{Lanes}
use Rattle.bitwise.specs.Charge.{charged, charged_kind}
use Rattle.bitwise.proofs.Charged.{kind_adds, kind-rows, kind-add}
use Rattle.keccak.specs.Height.{doubled, next-power-of-two, height}
use Rattle.keccak.specs.Row.{core_row, core_pad, core_row_at}
use Rattle.keccak.specs.Tuples.{core_tuple}
use Rattle.keccak.specs.declared.KeccakOperation.{KeccakOperation}
use Rattle.keccak.proofs.Height.{height-ge, height-found}
use Rattle.keccak.proofs.Cells as core
use Rattle.keccak.proofs.Table.{core-row-op, core-row-pad}
use Rattle.keccak_rnd.specs.Columns.{MU}
use Rattle.keccak_rnd.specs.Row.{round_height, round_row_at}
use Rattle.keccak_rnd.specs.Tuples.{round_tuple}
use Rattle.keccak_rnd.proofs.Table.{mu-below, mu-past, round-table-passes}
use Rattle.segment_counts.specs.Segment.{sent_rows, segment_charged}
use Rattle.segment_counts.specs.Sums.{kind_sum}
use Rattle.segment_counts.proofs.RowKinds.{CoreCounted, core-kinds, round-kinds}

-- ---- the core table
-- the rows that are written, whatever the addresses
pub written-counted : (o : KeccakOperation) → CoreCounted (core_row o)
unfolding limb_at
written-counted o =
    record {
      bytes = λ _ b h. subst (λ (n : ℕ). n < 256) (sym (core.read-addr o b h)) (byte-lt o.state_addr b);
      limbs = λ _ i h. subst (λ (n : ℕ). n < 65536) (sym (core.read-pointer o i 0 h (omega arith))) (omega arith);
    }

pub pad-counted : CoreCounted core_pad
pad-counted = record { bytes = λ n. absurd (n core.pad-mu); limbs = λ n. absurd (n core.pad-mu) }

-- what a row's tuples add where MU is m
abbrev core_share : ℕ → ℕ → ℕ
core_share k m = 25 * pick (eqb k 4) m 0 + pick (eqb k 7) m 0 + 4 * pick (eqb k 3) m 0

pick-zero : (t : Bool) → pick {A = ℕ} t 0 0 ≡ 0
pick-zero true = refl
pick-zero false = refl

no-share : (k : ℕ) → core_share k 0 ≡ 0
no-share k = omega (arith, pick-zero (eqb k 4), pick-zero (eqb k 7), pick-zero (eqb k 3))

-- of no operation the rows of a table that is shipped, and else none
pub empty-sent : (h : ℕ) → (sent_rows true 0 h ≡ h) × (sent_rows false 0 h ≡ 0)
unfolding sent_rows
empty-sent h = (refl, refl)

-- rows that send, or none of no operation
pub rows-sent : (P : ℕ → Type 0) (shipped : Bool) (n h : ℕ) → (n ≡ 0 → P 0) → P h → P (sent_rows shipped n h)
unfolding sent_rows
rows-sent P shipped n h z all = go (eqb n 0 && not shipped) refl
  where
    go : (t : Bool) → (eqb n 0 && not shipped) ≡ t → P (pick t 0 h)
    go true e = z (eqb-true n 0 (and-true (eqb n 0) (not shipped) e).0)
    go false e = all

module _ (k nr n : ℕ) (op : ℕ → KeccakOperation) where
  core-row : ℕ → ℕ
  core-row r = sum_below 84 (λ i. kind_adds k (core_tuple nr 0 (core_row_at n op r) i))

  core-op : (r : ℕ) → r < n → core-row r ≡ core_share k 1
  unfolding core-row
  core-op r l =
      ap (λ (x : List ℕ). sum_below 84 (λ i. kind_adds k (core_tuple nr 0 x i))) (core-row-op n op r l)
      ∙ core-kinds k nr 0 (core_row (op r)) (written-counted (op r))
      ∙ ap (core_share k) (core.read-mu (op r))

  core-past : (r : ℕ) → n ≤ r → core-row r ≡ 0
  unfolding core-row
  core-past r l =
      ap (λ (x : List ℕ). sum_below 84 (λ i. kind_adds k (core_tuple nr 0 x i))) (core-row-pad n op r l)
      ∙ core-kinds k nr 0 core_pad pad-counted
      ∙ ap (core_share k) core.pad-mu
      ∙ no-share k

  -- padding rows add nothing
  core-sum : (shipped : Bool) (floor : ℕ) → sum_below (sent_rows shipped n (height floor n)) core-row ≡ n * core_share k 1
  unfolding sum_below
  core-sum shipped floor =
      rows-sent (λ s. sum_below s core-row ≡ n * core_share k 1) shipped n (height floor n)
      (λ e. sym (ap (λ (m : ℕ). m * core_share k 1) e ∙ zero-mul (core_share k 1)))
      (sum_first n (height floor n) (core_share k 1) 0 core-row (height-ge floor n) core-op core-past ∙ none (n * core_share k 1) (height floor n - n))
    where
      none : (a b : ℕ) → a + b * 0 ≡ a
      none a b = omega arith

-- ---- the round table
-- a row with MU 1, but for what every row adds
abbrev round_share : ℕ → ℕ
round_share k = 608 * pick (eqb k 9) 1 0 + 200 * pick (eqb k 7) 1 0

abbrev every_row : ℕ → ℕ
every_row k = 220 * pick (eqb k 3) 1 0

module _ (k nr n : ℕ) (op : ℕ → KeccakOperation) (few : nr ≤ 24) (lanes : (i : ℕ) → i < n → Lanes (op i).input) where
  round-row : ℕ → ℕ
  round-row q = sum_below 1031 (λ i. kind_adds k (round_tuple (round_row_at nr n op q) i))

  of_row : (q m : ℕ) → word (round_row_at nr n op q) MU ≡ m → round-row q ≡ 608 * pick (eqb k 9) m 0 + 200 * pick (eqb k 7) m 0 + every_row k
  unfolding round-row
  of_row q m e =
      round-kinds k (round_row_at nr n op q) (round-table-passes nr n op few lanes q)
      ∙ ap (λ (m : ℕ). 608 * pick (eqb k 9) m 0 + 200 * pick (eqb k 7) m 0 + every_row k) e

  round-past : (q : ℕ) → n * nr ≤ q → round-row q ≡ every_row k
  round-past q l = of_row q 0 (mu-past nr n op q l) ∙ omega (arith, pick-zero (eqb k 9), pick-zero (eqb k 7))

  round-sum : (shipped : Bool) (floor : ℕ)
      → sum_below (sent_rows shipped n (round_height nr floor n)) round-row ≡ n * nr * round_share k + sent_rows shipped n (round_height nr floor n) * every_row k
  unfolding sum_below
  round-sum shipped floor =
      rows-sent (λ s. sum_below s round-row ≡ n * nr * round_share k + s * every_row k) shipped n (round_height nr floor n)
      (λ e. sym (ap (λ (m : ℕ). m * nr * round_share k + 0 * every_row k) e ∙ zeros nr (round_share k) (every_row k)))
      (sum_first (n * nr) (round_height nr floor n) (round_share k + every_row k) (every_row k) round-row (height-ge floor (n * nr)) (λ q l. of_row q 1 (mu-below nr n op q l)) round-past
      ∙ joined (n * nr) (round_height nr floor n) (round_share k) (every_row k) (height-ge floor (n * nr)))
    where
      zeros : (a b c : ℕ) → 0 * a * b + 0 * c ≡ 0
      zeros a b c = ap₂ (λ (x y : ℕ). x * b + y) (zero-mul a) (zero-mul c) ∙ ap (λ (x : ℕ). x + 0) (zero-mul b)

      joined : (m h a b : ℕ) → m ≤ h → m * (a + b) + (h - m) * b ≡ m * a + h * b
      joined m h a b l =
          ap (λ (x : ℕ). x + (h - m) * b) (mul-add m a b)
          ∙ add_assoc (m * a) (m * b) ((h - m) * b)
          ∙ ap (λ (x : ℕ). m * a + x) (sym (add-mul m (h - m) b) ∙ ap (λ (x : ℕ). x * b) (add-sub_of_le l))

-- ---- both
-- kind by kind; r the rows of the operations, s those that send
by_kind : (k n r s : ℕ) → k < 10 → n * core_share k 1 + (r * round_share k + s * every_row k)
    ≡ pick (eqb k 3) (4 * n + 220 * s) (pick (eqb k 4) (25 * n) (pick (eqb k 7) (n + 200 * r) (pick (eqb k 9) (608 * r) 0)))
by_kind zero n r s l = omega arith
by_kind (suc zero) n r s l = omega arith
by_kind (suc (suc zero)) n r s l = omega arith
by_kind (suc (suc (suc zero))) n r s l = omega arith
by_kind (suc (suc (suc (suc zero)))) n r s l = omega arith
by_kind (suc (suc (suc (suc (suc zero))))) n r s l = omega arith
by_kind (suc (suc (suc (suc (suc (suc zero)))))) n r s l = omega arith
by_kind (suc (suc (suc (suc (suc (suc (suc zero))))))) n r s l = omega arith
by_kind (suc (suc (suc (suc (suc (suc (suc (suc zero)))))))) n r s l = omega arith
by_kind (suc (suc (suc (suc (suc (suc (suc (suc (suc zero))))))))) n r s l = omega arith
by_kind (suc (suc (suc (suc (suc (suc (suc (suc (suc (suc k)))))))))) n r s l = absurd (omega arith)

module _ (shipped : Bool) (n : ℕ) (op : ℕ → KeccakOperation) (lanes : (i : ℕ) → i < n → Lanes (op i).input) where
  pub kind-sums-at : (nr floor : ℕ) → nr ≤ 24 → (k : ℕ) → k < 10 → charged_kind (segment_charged nr floor shipped n op) k ≡ kind_sum nr floor shipped n k
  unfolding segment_charged kind_sum core-row round-row
  kind-sums-at nr floor few k l =
      let hc = sent_rows shipped n (height floor n) in
      let hr = sent_rows shipped n (round_height nr floor n) in
      kind-add (charged hc 84 (λ r. core_tuple nr 0 (core_row_at n op r))) (charged hr 1031 (λ q. round_tuple (round_row_at nr n op q))) k
      ∙ ap₂ ◌+◌
      (kind-rows k l hc 84 (λ r. core_tuple nr 0 (core_row_at n op r)) ∙ core-sum k nr n op shipped floor)
      (kind-rows k l hr 1031 (λ q. round_tuple (round_row_at nr n op q)) ∙ round-sum k nr n op few lanes shipped floor)
      ∙ by_kind k n (n * nr) hr l

-- "An empty list charges none, in shipped mode 880 AreBytes." "The 880 of shipped mode becomes 220 times the floor."
pub empty-none : (nr floor : ℕ) (op : ℕ → KeccakOperation) (c : ℕ) → segment_charged nr floor false 0 op c ≡ 0
unfolding segment_charged sent_rows charged sum_below
empty-none nr floor op c = refl

-- the height of no rows
pub no_rows : (floor : ℕ) → PowerFloor floor → height floor 0 ≡ floor
unfolding next-power-of-two doubled
no_rows floor h = sym (height-found {h = floor} {w = 1} floor 0 (omega (arith, floor-least floor h)) refl)

pub empty-shipped : (nr floor : ℕ) → nr ≤ 24 → PowerFloor floor → (op : ℕ → KeccakOperation) (k : ℕ) → k < 10
    → charged_kind (segment_charged nr floor true 0 op) k ≡ pick (eqb k 3) (220 * floor) 0
unfolding kind_sum sent_rows
empty-shipped nr floor few power op k l =
    kind-sums-at true 0 op (λ i h. absurd (omega (arith, h))) nr floor few k l
    ∙ ap (λ (m : ℕ). pick (eqb k 3) (4 * 0 + 220 * height floor m) (pick (eqb k 4) (25 * 0) (pick (eqb k 7) (0 + 200 * m) (pick (eqb k 9) (608 * m) 0)))) (zero-mul nr)
    ∙ rows (eqb k 3) (eqb k 4) (eqb k 7) (eqb k 9)
  where
    rows : (a b c d : Bool) → pick a (4 * 0 + 220 * height floor 0) (pick b (25 * 0) (pick c (0 + 200 * 0) (pick d (608 * 0) 0))) ≡ pick a (220 * floor) 0
    rows true b c d = ap (λ (h : ℕ). 4 * 0 + 220 * h) (no_rows floor power) ∙ zero-add (220 * floor)
    rows false true c d = refl
    rows false false true d = refl
    rows false false false true = refl
    rows false false false false = refl
