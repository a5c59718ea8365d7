-- The residues of a core row: a pointer's two, the tuples that need no match here, and the groups one behind the other.
use mathlib.Core.Path.{◌≡◌, refl, sym, ap, ◌∙◌}
use mathlib.Core.List.{List, [], ◌∷◌}
use Prim.Native.Nat.{ℕ, zero, suc, ◌+◌, ◌*◌, ◌/◌, ◌%◌, ◌≤◌, ◌<◌}
use native.Mathlib.Omega.{arith}
use lib.ListN.{length, set}
use lib.Seq.{sets}
use Rattle.lists.specs.Tab.{tab_from, tab, followed_by, word}
use Rattle.lists.proofs.Laws.{tab-same}
use Rattle.lists.proofs.Then.{at-two}
use Rattle.tuple.specs.Tuple.{Tuple, sender}
use Rattle.tuple.specs.declared.Bus.TheVariants.{ByteAlu, IsWh, IsHalfword, Keccak}
use Rattle.keccak.specs.Columns.{MU}
use Rattle.keccak.specs.Tuples.{ecall_tuple, addr_memw, core_sent, core_received, pointer_tuple, align_tuple, addr_bytes_tuple, lane_memw, core_tuple}
use Rattle.keccak.proofs.Places.{tuples-from}
use Rattle.keccak.proofs.Tuples.{is-ecall, is-addr, is-sent, is-received, pointer-pair, pointer-low}
use Rattle.residue.specs.Residue.{residue_on, residue, residues, Marked}
use Rattle.residue.proofs.Residue.{free}
use Rattle.residue.proofs.Stored.{stored-then, stored-rest, marked}

module _ (row : List ℕ) where
  -- ---- a pointer's two tuples, at 2i and 2i + 1 of theirs
  module _ (i : ℕ) {v : ℕ} where
    pub pair_is : v ≡ residue (sender IsWh (word row MU) (word row (410 + 3 * i + 2) ∷ word row (410 + 3 * i + 1) ∷ [])) → v ≡ residues (λ i. pointer_tuple row (i / 2) (i % 2)) (2 * i)
    unfolding residues
    pair_is e =
        let q : 2 * i / 2 ≡ i = omega arith in
        let r : 2 * i % 2 ≡ 0 = omega arith in
        e ∙ ap residue (sym (at-two (pointer_tuple row) q r ∙ pointer-pair row i 0 refl))

    pub low-is : v ≡ residue (sender IsHalfword (word row MU) (word row (410 + 3 * i) ∷ [])) → v ≡ residues (λ i. pointer_tuple row (i / 2) (i % 2)) (2 * i + 1)
    unfolding residues
    low-is e =
        let q : (2 * i + 1) / 2 ≡ i = omega arith in
        let r : (2 * i + 1) % 2 ≡ 1 = omega arith in
        let n : ◌≡◌ {A = ℕ} 1 0 → ⊥ = λ z. omega arith in
        e ∙ ap residue (sym (at-two (pointer_tuple row) q r ∙ pointer-low row i 1 n))

  -- ---- the address's lowest byte
  pub align-stored : (l : List ℕ) {v : ℕ} → v ≡ residue (sender ByteAlu (word row MU) (0 ∷ word row 2 ∷ 7 ∷ 0 ∷ [])) → set l 54 v ≡ sets l 54 (tab 1 (residues (λ i. align_tuple row)))
  unfolding tab tab_from residues align_tuple
  align-stored l e = ap (set l 54) e

  -- ---- tuples of which nothing is asked
  zero_of : (nr i : ℕ) {t : Tuple} → core_tuple nr 0 row i ≡ t → residue_on t.bus t.values ≡ 0 → 0 ≡ residues (core_tuple nr 0 row) i
  unfolding residues
  zero_of nr i {t} e f = free t f ∙ ap residue (sym e)

  ecall-free : residue_on (ecall_tuple 0 row).bus (ecall_tuple 0 row).values ≡ 0
  unfolding residue_on ecall_tuple
  ecall-free = refl

  addr-free : residue_on (addr_memw row).bus (addr_memw row).values ≡ 0
  unfolding residue_on addr_memw
  addr-free = refl

  keccak-free : (vs : List ℕ) → residue_on Keccak vs ≡ 0
  unfolding residue_on
  keccak-free vs = refl

  lane-free : (i : ℕ) → 0 ≡ residues (lane_memw row) i
  unfolding residue_on lane_memw residues
  lane-free i = free (lane_memw row i) refl

  head-free : (nr i : ℕ) → i < 4 → 0 ≡ residues (core_tuple nr 0 row) i
  head-free nr zero h = zero_of nr 0 (is-ecall nr 0 row 0 refl) ecall-free
  head-free nr (suc zero) h = zero_of nr 1 (is-addr nr 0 row 1 refl) addr-free
  head-free nr (suc (suc zero)) h = zero_of nr 2 (is-sent nr 0 row 2 refl) (keccak-free (core_sent nr row))
  head-free nr (suc (suc (suc zero))) h = zero_of nr 3 (is-received nr 0 row 3 refl) (keccak-free (core_received row))
  head-free nr (suc (suc (suc (suc i)))) h = absurd (omega arith)

  -- ---- one group behind the other
  pub all-stored : (l : List ℕ) {a b c d e : List ℕ} → 84 ≤ length l → a ≡ sets l 0 (tab 4 (λ k. 0))
      → b ≡ sets a 4 (tab 50 (residues (λ i. pointer_tuple row (i / 2) (i % 2)))) → c ≡ sets b 54 (tab 1 (residues (λ i. align_tuple row)))
      → d ≡ sets c 55 (tab 4 (residues (addr_bytes_tuple row))) → e ≡ sets d 59 (tab 25 (λ k. 0))
      → (nr : ℕ) → Marked 84 (core_tuple nr 0 row) l e
  all-stored l {a} {b} {c} {d} {e} long p q r s t nr =
      marked 84 (core_tuple nr 0 row) l e long
      (stored-rest l 0 4 80 (core_tuple nr 0 row) (followed_by 50 (λ i. pointer_tuple row (i / 2) (i % 2)) (followed_by 1 (λ i. align_tuple row) (followed_by 4 (addr_bytes_tuple row) (lane_memw row))))
      (λ k h. tuples-from nr 0 row 4 k)
      (p ∙ ap (sets l 0) (tab-same 4 (λ k. 0) (residues (core_tuple nr 0 row)) (head-free nr)))
      (stored-then a 4 50 30 (λ i. pointer_tuple row (i / 2) (i % 2)) (followed_by 1 (λ i. align_tuple row) (followed_by 4 (addr_bytes_tuple row) (lane_memw row))) q
      (stored-then b 54 1 29 (λ i. align_tuple row) (followed_by 4 (addr_bytes_tuple row) (lane_memw row)) r
      (stored-then c 55 4 25 (addr_bytes_tuple row) (lane_memw row) s
      (t ∙ ap (sets d 59) (tab-same 25 (λ k. 0) (residues (lane_memw row)) (λ k h. lane-free k)))))))
