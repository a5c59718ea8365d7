-- What the refusal of an address that is no multiple of 8 buys: the rows of a list that is accepted pass, with no condition
-- on alignment; and of a list that is refused by 7 there is an operation whose row has no match for its alignment lookup.
use mathlib.Core.Path.{◌≡◌, sym, subst, ◌∙◌}
use mathlib.Core.Option.{some}
use mathlib.Core.List.{List}
use Prim.Native.Nat.{ℕ, ◌%◌, ◌<◌}
use native.Mathlib.Omega.{arith}
use Rattle.lists.specs.Tab.{word}
use Rattle.answer.specs.Refusal.{accepted}
use Rattle.answer.specs.declared.Refusal.TheVariants.{Unaligned}
use Rattle.matching.specs.Matching.{Matched}
use Rattle.keccak.specs.Columns.{MU, addr}
use Rattle.keccak.specs.Row.{core_row, core_row_at, op_at}
use Rattle.keccak.specs.Refusals.{op_count, address_at, operations_refusal}
use Rattle.keccak.specs.Tuples.{align_tuple, core_tuple}
use Rattle.keccak.specs.Passes.{CorePasses}
use Rattle.keccak.specs.declared.KeccakOperation.{KeccakOperation}
use Rattle.keccak.proofs.Cells.{read-addr, read-mu}
use Rattle.keccak.proofs.Refusals.{accepted-is, told-unaligned}
use Rattle.keccak.proofs.Soundness.{aligned-of}
use Rattle.keccak.proofs.Table.{core-table-passes}
use Rattle.keccak.proofs.Tuples.{is-align}

-- it is sent where MU is 1
sent : (row : List ℕ) → word row MU ≡ 1 → (align_tuple row).multiplicity ≡ 0 → ⊥
unfolding align_tuple
sent row on z = omega arith

-- tuple 54 is the alignment lookup
pub align-unmatched : (o : KeccakOperation) → (o.state_addr % 8 ≡ 0 → ⊥) → (nr syscall : ℕ) → Matched (core_tuple nr syscall (core_row o) 54) → ⊥
align-unmatched o odd nr syscall m =
    let here = subst Matched (is-align nr syscall (core_row o) 54 (omega arith)) m in
    let even : word (core_row o) (addr 0) % 8 ≡ 0 = aligned-of (core_row o) (here (λ z. sent (core_row o) (read-mu o) z)) in
    odd (omega (arith, even, read-addr o 0 (omega arith)))

module _ (room needed : ℕ) (ops : List ℕ) where
  -- an accepted list: every row of its table passes
  pub accepted-pass : operations_refusal room needed ops ≡ accepted → (nr syscall i : ℕ) → CorePasses nr syscall (core_row_at (op_count ops) (op_at ops) i)
  accepted-pass passed nr syscall i =
      let a = (accepted-is room needed ops).0 passed in
      core-table-passes (op_count ops) (op_at ops) nr syscall (λ j l. omega (arith, a.low j l)) a.aligned i

  -- one that is refused by 7: the row of the operation at that address has no match for its alignment lookup
  pub unaligned-unmatched : {a : ℕ} → operations_refusal room needed ops ≡ some (Unaligned a) →
      (i : ℕ) × (i < op_count ops) × (address_at ops i ≡ a) × ((nr syscall : ℕ) → Matched (core_tuple nr syscall (core_row (op_at ops i)) 54) → ⊥)
  unaligned-unmatched e =
      let t = told-unaligned room needed ops e in
      (t.0, t.1, t.2, align-unmatched (op_at ops t.0) (λ z. t.3 (sym (same t.2) ∙ z)))
    where
      same : {m n : ℕ} → m ≡ n → m % 8 ≡ n % 8
      same q = λ i. q i % 8
