-- What padding rows add: those of the core table nothing, one of the round table 220 to the counter of two zero bytes.
--     core-rows, round-rows   what the rows of a table add, of any number that send, is what the operations' rows and the padding add
use mathlib.Core.Bool.{Bool, true, false}
use mathlib.Core.List.{List, [], ◌∷◌}
use mathlib.Core.Path.{◌≡◌, refl, ap, ap₂, ◌∙◌}
use Prim.Native.Nat.{ℕ, zero, suc, ◌+◌, ◌-◌, ◌*◌, ◌/◌, ◌%◌, ◌≤◌}
use native.Mathlib.Nat.{add-zero}
use native.Mathlib.Omega.{arith}
use lib.Dec.{eqb}
use Rattle.lists.specs.Tab.{pick, word}
use Rattle.lists.specs.Sum.{sum_below}
use Rattle.lists.proofs.Sum.{sum-const, sum-part, sum-zero}
use Rattle.tuple.specs.Tuple.{Tuple}
use Rattle.tuple.specs.declared.Bus.TheVariants.{AreBytes}
use Rattle.bitwise.specs.Charge.{falls_on, charged_row, charged}
use Rattle.bitwise.proofs.Charge.{adds, sent-adds, bytes_counted}
use Rattle.keccak.specs.Row.{core_row, core_pad, core_row_at}
use Rattle.keccak.specs.Tuples.{ecall_tuple, addr_memw, pointer_tuple, align_tuple, addr_bytes_tuple, lane_memw, core_tuple}
use Rattle.keccak.specs.declared.KeccakOperation.{KeccakOperation}
use Rattle.keccak.proofs.Cells.{pad-mu}
use Rattle.keccak.proofs.Table.{core-row-op, core-row-pad}
use Rattle.keccak_rnd.specs.Columns.{MU}
use Rattle.keccak_rnd.specs.Row.{op_row, round_pad, round_row_at}
use Rattle.keccak_rnd.specs.Tuples.{are_bytes, round_tuple}
use Rattle.keccak_rnd.proofs.Completeness.{pad-word}
use Rattle.keccak_rnd.proofs.Table.{round-row-op, round-row-pad}
use Rattle.segment_counts.proofs.Orders.{sum_rows}

-- a tuple of multiplicity 0 adds nothing
idle : (c : ℕ) (t : Tuple) → t.multiplicity ≡ 0 → adds c t ≡ 0
idle c t e = ap (λ (m : ℕ). pick (falls_on t c) m 0) e ∙ go (falls_on t c)
  where
    go : (b : Bool) → pick {A = ℕ} b 0 0 ≡ 0
    go true = refl
    go false = refl

-- ---- the core table
module _ (nr syscall c : ℕ) where
  pointer-idle : (i j : ℕ) → adds c (pointer_tuple core_pad i j) ≡ 0
  unfolding pointer_tuple
  pointer-idle i zero = idle c _ pad-mu
  pointer-idle i (suc j) = idle c _ pad-mu

  pub core-pad-adds : charged_row 84 (core_tuple nr syscall core_pad) c ≡ 0
  unfolding charged_row core_tuple ecall_tuple addr_memw align_tuple addr_bytes_tuple lane_memw
  core-pad-adds =
      sum-part (adds c) 1 83 0 0 _ _ (λ i. idle c _ pad-mu)
      (sum-part (adds c) 1 82 0 0 _ _ (λ i. idle c _ pad-mu)
      (sum-part (adds c) 1 81 0 0 _ _ (λ i. idle c _ pad-mu)
      (sum-part (adds c) 1 80 0 0 _ _ (λ i. idle c _ pad-mu)
      (sum-part (adds c) 50 30 0 0 _ _ (λ i. pointer-idle (i / 2) (i % 2))
      (sum-part (adds c) 1 29 0 0 _ _ (λ i. idle c _ pad-mu)
      (sum-part (adds c) 4 25 0 0 _ _ (λ i. idle c _ pad-mu)
      (sum-zero 25 _ (λ i _. idle c (lane_memw core_pad i) pad-mu))))))))

  pub core-rows : (n h : ℕ) (op : ℕ → KeccakOperation) → n ≤ h
      → charged h 84 (λ r. core_tuple nr syscall (core_row_at n op r)) c ≡ charged n 84 (λ r. core_tuple nr syscall (core_row (op r))) c
  unfolding charged
  core-rows n h op l =
      let F : List ℕ → ℕ = λ row. charged_row 84 (core_tuple nr syscall row) c in
      sum_rows n h (λ r. F (core_row_at n op r)) (λ r. F (core_row (op r))) (F core_pad) l (λ r k. ap F (core-row-op n op r k)) (λ r k. ap F (core-row-pad n op r k))
      ∙ ap (λ (k : ℕ). sum_below n (λ r. F (core_row (op r))) + k) (sum-zero (h - n) (λ k. F core_pad) (λ k _. core-pad-adds))
      ∙ add-zero (sum_below n (λ r. F (core_row (op r))))

-- ---- the round table
module _ (c : ℕ) where
  zero-bytes : (i j : ℕ) → adds c (are_bytes (word round_pad i) (word round_pad j)) ≡ pick (eqb c 3) 1 0
  zero-bytes i j =
      ap₂ (λ (a b : ℕ). adds c (are_bytes a b)) (pad-word i) (pad-word j)
      ∙ sent-adds c AreBytes 1 (0 ∷ 0 ∷ []) 3 (bytes_counted 0 0 (omega arith) (omega arith))

  pub round-pad-adds : charged_row 1031 (round_tuple round_pad) c ≡ 220 * pick (eqb c 3) 1 0
  unfolding charged_row round_tuple
  round-pad-adds =
      sum-part (adds c) 1 1030 0 _ _ _ (λ i. idle c _ (pad-word MU))
      (sum-part (adds c) 1 1029 0 _ _ _ (λ i. idle c _ (pad-word MU))
      (sum-part (adds c) 1 1028 0 _ _ _ (λ i. idle c _ (pad-word MU))
      (sum-part (adds c) 40 988 0 _ _ _ (λ i. idle c _ (pad-word MU))
      (sum-part (adds c) 120 868 0 _ _ _ (λ i. idle c _ (pad-word MU))
      (sum-part (adds c) 20 848 (pick (eqb c 3) 1 0) _ _ _ (λ i. zero-bytes _ _)
      (sum-part (adds c) 40 808 0 _ _ _ (λ i. idle c _ (pad-word MU))
      (sum-part (adds c) 200 608 0 _ _ _ (λ i. idle c _ (pad-word MU))
      (sum-part (adds c) 200 408 (pick (eqb c 3) 1 0) _ _ _ (λ i. zero-bytes _ _)
      (sum-part (adds c) 200 208 0 _ _ _ (λ i. idle c _ (pad-word MU))
      (sum-part (adds c) 200 8 0 0 _ _ (λ i. idle c _ (pad-word MU))
      (sum-zero 8 _ (λ i _. idle c _ (pad-word MU)))))))))))))
      ∙ omega arith

  pub round-rows : (nr n h : ℕ) (op : ℕ → KeccakOperation) → n * nr ≤ h
      → charged h 1031 (λ q. round_tuple (round_row_at nr n op q)) c
      ≡ charged (n * nr) 1031 (λ q. round_tuple (op_row nr (op (q / nr)) (q % nr))) c + pick (eqb c 3) (220 * (h - n * nr)) 0
  unfolding charged
  round-rows nr n h op l =
      let F : List ℕ → ℕ = λ row. charged_row 1031 (round_tuple row) c in
      let A : ℕ = sum_below (n * nr) (λ q. F (op_row nr (op (q / nr)) (q % nr))) in
      sum_rows (n * nr) h (λ q. F (round_row_at nr n op q)) (λ q. F (op_row nr (op (q / nr)) (q % nr))) (F round_pad) l
      (λ q k. ap F (round-row-op nr n op q k)) (λ q k. ap F (round-row-pad nr n op q k))
      ∙ ap (λ (k : ℕ). A + k) (sum-const (h - n * nr) (F round_pad) ∙ ap (λ (k : ℕ). (h - n * nr) * k) round-pad-adds ∙ times (eqb c 3) (h - n * nr))
    where
      times : (b : Bool) (m : ℕ) → m * (220 * pick b 1 0) ≡ pick b (220 * m) 0
      times true m = omega arith
      times false m = omega arith
