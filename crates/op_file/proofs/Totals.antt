-- The computed counts of `tally` are the sums over both tables, in both modes and for every floor.
use mathlib.Core.Path.{◌≡◌, refl, sym, ap, ◌∙◌}
use mathlib.Core.Bool.{Bool, true, false}
use Prim.Native.Nat.{ℕ, zero, suc, ◌+◌, ◌-◌, ◌*◌, ◌<◌}
use native.Mathlib.Omega.{arith}
use lib.Dec.{eqb, eqb-suc-zero}
use borrow.Author.Tests.{eq-eqb, ne_eqb}
use Rattle.lists.specs.Tab.{pick}
use Rattle.tuple.specs.declared.Bus.{Bus}
use Rattle.tuple.specs.declared.Bus.TheVariants.{ByteAlu, AreBytes, IsHalfword, IsWh, KeccakRc, Memw, Ecall}
use Rattle.tuple.specs.declared.Side.{Side}
use Rattle.tuple.specs.declared.Side.TheVariants.{Sender, Receiver}
use Rattle.keccak.specs.declared.KeccakOperation.{KeccakOperation}
use Rattle.keccak_rnd.specs.Row.{round_height, padding-are-bytes}
use Rattle.keccak_rnd.proofs.Tally.{byte-alu, are-bytes, keccak-rc, is-halfword, is-wh, memw, ecall}
use Rattle.op_file.specs.File.{written_sum, bus_total, sums_of}
use Rattle.op_file.specs.Reader.{padding_sum, counts_of}
use Rattle.op_file.specs.declared.Segments.{Segments}

-- none of no operation, else what the rows send
none_or : (n w c : ℕ) → (n ≡ 0 → c ≡ 0) → (0 < n → w ≡ c) → pick (eqb n 0) 0 w ≡ c
none_or zero w c z h = sym (z refl)
none_or (suc k) w c z h = rw (eqb-suc-zero k) (h (omega arith))

-- what the padding rows of a table of h rows send, where the mode is known
module _ (floor n : ℕ) {shipped : Bool} where
  pub padding-shipped : {h : ℕ} → shipped ≡ true → h ≡ round_height 24 floor n → (h - n * 24) * 220 ≡ padding_sum floor shipped n
  unfolding padding_sum
  padding-shipped e q = rw e (ap (λ (k : ℕ). (k - n * 24) * 220) q)

  pub padding-empty : shipped ≡ false → n ≡ 0 → 0 ≡ padding_sum floor shipped n
  unfolding padding_sum padding-are-bytes
  padding-empty e z = rw (e, eq-eqb n 0 z) refl

  pub padding-else : {h : ℕ} → shipped ≡ false → (n ≡ 0 → ⊥) → h ≡ round_height 24 floor n → (h - n * 24) * 220 ≡ padding_sum floor shipped n
  unfolding padding_sum padding-are-bytes
  padding-else e z q = rw (e, ne_eqb n 0 z) (ap (λ (k : ℕ). (k - n * 24) * 220) q)

module _ (floor syscall n : ℕ) (op : ℕ → KeccakOperation) where
  -- a sum that is 0 of no operation is the same in both modes
  counted : (shipped : Bool) (s : Side) (b : Bus) (c : ℕ) → (n ≡ 0 → c ≡ 0) → written_sum floor syscall s b n op ≡ c → bus_total floor shipped syscall s b n op ≡ c
  unfolding bus_total
  counted true s b c z h = h
  counted false s b c z h = none_or n (written_sum floor syscall s b n op) c z (λ l. h)

  none-padded : n ≡ 0 → 5284 * n + padding_sum floor false n ≡ 0
  none-padded e = omega (arith, padding-empty floor n refl e)

  some-padded : 0 < n → written_sum floor syscall Sender AreBytes n op ≡ 5284 * n + padding_sum floor false n
  unfolding written_sum
  some-padded l = are-bytes syscall floor n op ∙ ap (λ (k : ℕ). 5284 * n + k) (padding-else floor n refl (λ e. omega arith) refl)

  -- the one bus on which padding rows send
  padded : (shipped : Bool) → bus_total floor shipped syscall Sender AreBytes n op ≡ 5284 * n + padding_sum floor shipped n
  unfolding bus_total padding_sum written_sum
  padded true = are-bytes syscall floor n op
  padded false = none_or n (written_sum floor syscall Sender AreBytes n op) (5284 * n + padding_sum floor false n) none-padded some-padded

-- what is computed is the sums
pub counts-are-sums : (floor : ℕ) (shipped : Bool) (syscall n : ℕ) (op : ℕ → KeccakOperation) (segments : Segments) (left : ℕ) →
    counts_of floor shipped n segments left ≡ sums_of floor shipped syscall n op segments left
unfolding counts_of sums_of written_sum
counts-are-sums floor shipped syscall n op segments left =
    let is = counted floor syscall n op shipped in
    rw (
      is Sender ByteAlu (19393 * n) (λ e. omega arith) (byte-alu syscall floor n op),
      padded floor syscall n op shipped,
      is Sender KeccakRc (24 * n) (λ e. omega arith) (keccak-rc syscall floor n op),
      is Sender IsHalfword (25 * n) (λ e. omega arith) (is-halfword syscall floor n op),
      is Sender IsWh (25 * n) (λ e. omega arith) (is-wh syscall floor n op),
      is Sender Memw (26 * n) (λ e. omega arith) (memw syscall floor n op),
      is Receiver Ecall n (λ e. e) (ecall syscall floor n op),
    ) refl
