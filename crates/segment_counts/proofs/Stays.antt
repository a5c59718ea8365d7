-- The counters that a charge leaves as they are: those of every row with Z above 0, and those of the kinds that neither table looks
-- up. Whatever the rows hold: it is the tuples' buses and operations that say it.
use mathlib.Core.Bool.{Bool}
use mathlib.Core.List.{List}
use mathlib.Core.Logic.{◌⊎◌, inl, inr}
use mathlib.Core.Option.{Option, none, some}
use mathlib.Core.Path.{◌≡◌, refl, sym, ap, ap₂, ◌∙◌}
use Prim.Native.Nat.{ℕ, zero, suc, ◌+◌, ◌/◌, ◌%◌, ◌≤◌}
use Rattle.lists.specs.Tab.{word}
use Rattle.lists.proofs.Then.{then-all, by_le}
use Rattle.answer.specs.Refusal.{accepted}
use Rattle.answer.specs.declared.Refusal.{Refusal}
use Rattle.answer.proofs.Laws.{kept}
use Rattle.answer.proofs.Overwrite.{left}
use Rattle.tuple.specs.declared.Bus.TheVariants.{IsWh, KeccakRc, Keccak, Memw, Ecall}
use Rattle.bitwise.specs.Columns.{NUM-COUNTERS}
use Rattle.bitwise.specs.Charge.{counted, charged_counters, Looked}
use Rattle.bitwise.proofs.Charged.{Low, none-low, bytes_low, half-low, alu_low, charged-low, charged-none, charged-past}
use Rattle.keccak.specs.Row.{core_row_at}
use Rattle.keccak.specs.Height.{height}
use Rattle.keccak.specs.Tuples.{ecall_tuple, addr_memw, lane_memw, pointer_tuple, align_tuple, addr_bytes_tuple, core_tuple}
use Rattle.keccak.specs.declared.KeccakOperation.{KeccakOperation}
use Rattle.keccak_rnd.specs.Row.{round_height, round_row_at}
use Rattle.keccak_rnd.specs.Tuples.{round_tuple}
use Rattle.segment_counts.specs.Segment.{sent_rows, segment_charged, list_charged, charge_refusal, charge_after}
use Rattle.segment_counts.proofs.Accepted.{charge-accepted}

pointer-low : (row : List ℕ) (i j : ℕ) → Low (pointer_tuple row i j)
unfolding pointer_tuple counted
pointer-low row i zero = none-low IsWh _ refl 0
pointer-low row i (suc j) = half-low 0 _

pub core-low : (nr syscall : ℕ) (row : List ℕ) (i : ℕ) → Low (core_tuple nr syscall row i)
unfolding core_tuple ecall_tuple addr_memw lane_memw align_tuple addr_bytes_tuple counted
core-low nr syscall row i =
    then-all Low 1 _ _ i (λ a. none-low Ecall _ refl 0)
    (λ i e₁. then-all Low 1 _ _ i (λ a. none-low Memw _ refl 0)
    (λ i e₂. then-all Low 1 _ _ i (λ a. none-low Keccak _ refl 0)
    (λ i e₃. then-all Low 1 _ _ i (λ a. none-low Keccak _ refl 0)
    (λ i e₄. then-all Low 50 _ _ i (λ a. pointer-low row (i / 2) (i % 2))
    (λ i e₅. then-all Low 1 _ _ i (λ a. alu_low 0 0 _ _ _ (inl refl))
    (λ i e₆. then-all Low 4 _ _ i (λ a. bytes_low 0 _ _)
    (λ i e₇. none-low Memw _ refl 0)))))))

pub round-low : (row : List ℕ) (i : ℕ) → Low (round_tuple row i)
unfolding round_tuple counted
round-low row i =
    then-all Low 1 _ _ i (λ a. none-low Keccak _ refl 0)
    (λ i e₁. then-all Low 1 _ _ i (λ a. none-low Keccak _ refl 0)
    (λ i e₂. then-all Low 1 _ _ i (λ a. none-low KeccakRc _ refl 0)
    (λ i e₃. then-all Low 40 _ _ i (λ a. alu_low 0 2 _ _ _ (inr refl))
    (λ i e₄. then-all Low 120 _ _ i (λ a. alu_low 0 2 _ _ _ (inr refl))
    (λ i e₅. then-all Low 20 _ _ i (λ a. bytes_low 0 _ _)
    (λ i e₆. then-all Low 40 _ _ i (λ a. alu_low 0 2 _ _ _ (inr refl))
    (λ i e₇. then-all Low 200 _ _ i (λ a. alu_low 0 2 _ _ _ (inr refl))
    (λ i e₈. then-all Low 200 _ _ i (λ a. bytes_low 0 _ _)
    (λ i e₉. then-all Low 200 _ _ i (λ a. alu_low 0 0 _ _ _ (inl refl))
    (λ i e₁₀. then-all Low 200 _ _ i (λ a. alu_low 0 2 _ _ _ (inr refl))
    (λ i e₁₁. alu_low 0 2 _ _ _ (inr refl))))))))))))

-- nothing is added to such a counter
pub segment-off : (nr floor : ℕ) (shipped : Bool) (n : ℕ) (op : ℕ → KeccakOperation) (c : ℕ) → (65536 ≤ c / 10) ⊎ (Looked (c % 10) → ⊥)
    → segment_charged nr floor shipped n op c ≡ 0
unfolding segment_charged
segment-off nr floor shipped n op c off =
    ap₂ ◌+◌
    (charged-low (sent_rows shipped n (height floor n)) 84 (λ r. core_tuple nr 0 (core_row_at n op r)) (λ r i _ _. core-low nr 0 (core_row_at n op r) i) c off)
    (charged-low (sent_rows shipped n (round_height nr floor n)) 1031 (λ q. round_tuple (round_row_at nr n op q)) (λ q i _ _. round-low (round_row_at nr n op q) i) c off)

-- so it stays, whether the call is refused or not; and so do the words past the counters
module _ (nr floor : ℕ) (shipped : Bool) (ops counters : List ℕ) (c : ℕ) where
  after : (o : Option Refusal) → charge_refusal nr floor ops counters ≡ o
      → (charge_refusal nr floor ops counters ≡ accepted → word (charged_counters counters (list_charged nr floor shipped ops)) c ≡ word counters c) → word (charge_after nr floor shipped ops counters) c ≡ word counters c
  after none e h = ap (λ (l : List ℕ). word l c) (left (charged_counters counters (list_charged nr floor shipped ops)) counters e) ∙ h e
  after (some r) e h = ap (λ (l : List ℕ). word l c) (sym (kept (charged_counters counters (list_charged nr floor shipped ops)) counters e))

  pub charge-stays : (65536 ≤ c / 10) ⊎ (Looked (c % 10) → ⊥) → word (charge_after nr floor shipped ops counters) c ≡ word counters c
  charge-stays off =
      after (charge_refusal nr floor ops counters) refl
      (λ ok. by_le NUM-COUNTERS c (charged-past counters (list_charged nr floor shipped ops) c)
      (λ l. charged-none counters (list_charged nr floor shipped ops) c (((charge-accepted nr floor ops counters).0 ok).4.below c l) (segment-off nr floor shipped _ _ c off)))

  pub past-stays : NUM-COUNTERS ≤ c → word (charge_after nr floor shipped ops counters) c ≡ word counters c
  past-stays l = after (charge_refusal nr floor ops counters) refl (λ ok. charged-past counters (list_charged nr floor shipped ops) c l)
