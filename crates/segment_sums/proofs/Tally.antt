-- The sums charged of 24 rounds are those of `tally` by bus, ByteAlu split into AND, OR and XOR, for every n, every floor and in both
-- modes.
use mathlib.Core.Bool.{Bool, true, false, ◌&&◌}
use mathlib.Core.Path.{◌≡◌, refl, ap, ◌∙◌}
use Prim.Native.Nat.{ℕ, ◌+◌, ◌-◌, ◌*◌, ◌≤◌, ◌<◌}
use native.Mathlib.Omega.{arith}
use borrow.Author.Tests.{eqb-true}
use lib.Dec.{eqb}
use Rattle.lists.specs.Tab.{pick}
use Rattle.fips202.specs.Lanes.{Lanes}
use Rattle.tuple.specs.declared.Bus.TheVariants.{ByteAlu, AreBytes, IsHalfword}
use Rattle.tuple.specs.declared.Side.TheVariants.{Sender}
use Rattle.bitwise.specs.Charge.{charged_kind}
use Rattle.keccak.specs.declared.KeccakOperation.{KeccakOperation}
use Rattle.keccak.proofs.Height.{height-ge}
use Rattle.keccak_rnd.specs.Row.{round_height, padding-are-bytes}
use Rattle.segment_counts.specs.Segment.{sent_rows, segment_charged}
use Rattle.segment_counts.specs.Sums.{kind_sum}
use Rattle.segment_counts.proofs.Sums.{kind-sums-at}
use Rattle.op_file.specs.File.{bus_total, none_told, sums_of}
use Rattle.op_file.specs.Reader.{padding_sum, counts_of}
use Rattle.op_file.specs.declared.Sums.{Sums}
use Rattle.op_file.proofs.Totals.{counts-are-sums}

-- 220 of every row of the table, and 5,284 of each operation with 220 of each padding row
by_rows : (n h : ℕ) → n * 24 ≤ h → 4 * n + 220 * h ≡ 5284 * n + (h - n * 24) * 220
by_rows n h l = omega arith

rows-padded : (floor : ℕ) (shipped : Bool) (n : ℕ) → 4 * n + 220 * sent_rows shipped n (round_height 24 floor n) ≡ 5284 * n + padding_sum floor shipped n
unfolding sent_rows padding_sum padding-are-bytes
rows-padded floor true n = every (eqb n 0) ∙ by_rows n (round_height 24 floor n) (height-ge floor (n * 24))
  where
    every : (t : Bool) → 4 * n + 220 * pick (t && false) 0 (round_height 24 floor n) ≡ 4 * n + 220 * round_height 24 floor n
    every true = refl
    every false = refl
rows-padded floor false n = some (eqb n 0) refl
  where
    some : (t : Bool) → eqb n 0 ≡ t → 4 * n + 220 * pick (t && true) 0 (round_height 24 floor n) ≡ 5284 * n + pick t 0 ((round_height 24 floor n - n * 24) * 220)
    some true e = omega (arith, eqb-true n 0 e)
    some false e = by_rows n (round_height 24 floor n) (height-ge floor (n * 24))

module _ (floor : ℕ) (shipped : Bool) (syscall n : ℕ) (op : ℕ → KeccakOperation) (lanes : (i : ℕ) → i < n → Lanes (op i).input) where
  -- the sum charged to kind k
  abbrev sum : ℕ → ℕ
  sum k = charged_kind (segment_charged 24 floor shipped n op) k

  by_kind : (k : ℕ) → k < 10 → sum k ≡ kind_sum 24 floor shipped n k
  by_kind = kind-sums-at shipped n op lanes 24 floor (omega arith)

  pub charged-are-bytes : sum 3 ≡ bus_total floor shipped syscall Sender AreBytes n op
  unfolding kind_sum counts_of sums_of
  charged-are-bytes = by_kind 3 (omega arith) ∙ rows-padded floor shipped n ∙ ap (λ (s : Sums). s.are_bytes) (counts-are-sums floor shipped syscall n op none_told 0)

  pub charged-halfwords : sum 4 ≡ bus_total floor shipped syscall Sender IsHalfword n op
  unfolding kind_sum counts_of sums_of
  charged-halfwords = by_kind 4 (omega arith) ∙ ap (λ (s : Sums). s.is_halfword) (counts-are-sums floor shipped syscall n op none_told 0)

  pub charged-byte-alu : sum 7 + sum 8 + sum 9 ≡ bus_total floor shipped syscall Sender ByteAlu n op
  unfolding kind_sum counts_of sums_of
  charged-byte-alu =
      all (by_kind 7 (omega arith)) (by_kind 8 (omega arith)) (by_kind 9 (omega arith))
      ∙ ap (λ (s : Sums). s.byte_alu) (counts-are-sums floor shipped syscall n op none_told 0)
    where
      all : {x y z : ℕ} → x ≡ n + 200 * (n * 24) → y ≡ 0 → z ≡ 608 * (n * 24) → x + y + z ≡ 19393 * n
      all a b c = omega (arith, a, b, c)
