-- The residues of a round row: the constant's, and the runs of tuples on one bus one behind the other.
use mathlib.Core.Path.{◌≡◌, refl, sym, ap, ◌∙◌}
use mathlib.Core.Bool.{Bool}
use mathlib.Core.List.{List, ◌∷◌}
use Prim.Native.Nat.{ℕ, ◌+◌, ◌≤◌, ◌<◌}
use native.Mathlib.Omega.{arith}
use borrow.Author.Tests.{lt-ltb, le-ltb}
use lib.Bits.{bit_xor}
use lib.Dec.{ltb}
use lib.ListN.{get_or, set}
use lib.Seq.{sets}
use Rattle.lists.specs.Tab.{pick, tab_from, tab, word}
use Rattle.lists.proofs.Laws.{get_d-tab, tab-same}
use Rattle.bits.specs.Bits.{byte_at}
use Rattle.fips202.specs.Tables.{round_constant}
use Rattle.tuple.specs.Tuple.{Tuple, sender, receiver}
use Rattle.tuple.specs.declared.Bus.TheVariants.{KeccakRc, Keccak}
use Rattle.keccak_rnd.specs.Columns.{MU}
use Rattle.keccak_rnd.specs.Tuples.{round_received, round_sent, constant_tuple, round_tuple}
use Rattle.keccak_rnd.proofs.Places.{tuple_at_lem}
use Rattle.residue.specs.Residue.{constant_residue, rc_residue, residue_on, residue, residues}
use Rattle.residue.proofs.Or.{or_same}
use Rattle.residue.proofs.Residue.{idle, sent, free}
use Rattle.residue.proofs.Stored.{stored-rest}
use Rattle.keccak_rnd_operands.specs.Lanes.{alu_tuple}
use Rattle.keccak_rnd_operands.proofs.Groups.{front-run, middle-run, back-run, alu-sent-by-mu}

-- ---- the constant's tuple
rc-values : (r : ℕ) (f : ℕ → ℕ) → rc_residue r f ≡ residue_on KeccakRc (r ∷ tab 8 f)
unfolding residue_on rc_residue constant_residue tab tab_from
rc-values r f =
    ap (λ (x : ℕ). pick (ltb r 32) x 1)
    (or_same 8 (λ b. bit_xor (byte_at (round_constant r) b) (f b)) (λ b. bit_xor (byte_at (round_constant r) b) (get_or (tab 8 f) b 0))
    (λ b l. ap (bit_xor (byte_at (round_constant r) b)) (sym (get_d-tab 8 f b 0 l))))

module _ (row : List ℕ) (active : word row MU ≡ 0 → ⊥) where
  rc-sent : rc_residue (word row 2) (λ b. word row (1463 + b)) ≡ residue (constant_tuple row)
  rc-sent = rc-values (word row 2) (λ b. word row (1463 + b)) ∙ sent (constant_tuple row) active

  pub rc-past : 32 ≤ word row 2 → 1 ≡ residue (constant_tuple row)
  unfolding rc_residue
  rc-past h = sym (ap (λ (t : Bool). pick t (constant_residue (round_constant (word row 2)) (λ b. word row (1463 + b))) 1) (le-ltb (word row 2) 32 h)) ∙ rc-sent

  pub rc-known : {k r : ℕ} → word row 2 < 32 → k ≡ round_constant (word row 2) → r ≡ constant_residue k (λ b. word row (1463 + b)) → r ≡ residue (constant_tuple row)
  unfolding rc_residue
  rc-known {k} {r} l e d =
      d
      ∙ ap (λ (n : ℕ). constant_residue n (λ b. word row (1463 + b))) e
      ∙ sym (ap (λ (t : Bool). pick t (constant_residue (round_constant (word row 2)) (λ b. word row (1463 + b))) 1) (lt-ltb (word row 2) 32 l))
      ∙ rc-sent

-- ---- the first three: nothing is asked of the two of the bus
asks_nothing : (t : Tuple) → t.bus ≡ Keccak → 0 ≡ residue t
unfolding residue_on
asks_nothing t e = free t (ap (λ b. residue_on b t.values) e)

pub first-stored : (row l : List ℕ) {v : ℕ} → v ≡ residue (constant_tuple row) → set (set (set l 0 0) 1 0) 2 v ≡ sets l 0 (tab 3 (residues (round_tuple row)))
unfolding tab tab_from residues
first-stored row l {v} e =
    λ i. set (set (set l 0 (received i)) 1 (sending i)) 2 (last i)
  where
    received : 0 ≡ residue (round_tuple row 0)
    received = asks_nothing (receiver Keccak (word row MU) (round_received row)) refl ∙ ap residue (sym (tuple_at_lem row 0 0 (omega arith)))

    sending : 0 ≡ residue (round_tuple row 1)
    sending = asks_nothing (sender Keccak (word row MU) (round_sent row)) refl ∙ ap residue (sym (tuple_at_lem row 1 0 (omega arith)))

    last : v ≡ residue (round_tuple row 2)
    last = e ∙ ap residue (sym (tuple_at_lem row 2 0 (omega arith)))

-- ---- one run behind the other
pub all-stored : (row l : List ℕ) {a b c d e f : List ℕ} → a ≡ sets l 0 (tab 3 (residues (round_tuple row)))
    → b ≡ sets a 3 (tab 160 (residues (λ i. alu_tuple row (0 + i))))
    → c ≡ sets b 163 (tab 20 (residues (λ i. round_tuple row (163 + i))))
    → d ≡ sets c 183 (tab 240 (residues (λ i. alu_tuple row (160 + i))))
    → e ≡ sets d 423 (tab 200 (residues (λ i. round_tuple row (423 + i))))
    → f ≡ sets e 623 (tab 408 (residues (λ i. alu_tuple row (400 + i))))
    → f ≡ sets l 0 (tab 1031 (residues (round_tuple row)))
all-stored row l o p q r s t =
    stored-rest l 0 623 408 (round_tuple row) (λ i. alu_tuple row (400 + i)) (λ k h. back-run row k)
    (stored-rest l 0 423 200 (round_tuple row) (λ i. round_tuple row (423 + i)) (λ k h. refl)
    (stored-rest l 0 183 240 (round_tuple row) (λ i. alu_tuple row (160 + i)) (middle-run row)
    (stored-rest l 0 163 20 (round_tuple row) (λ i. round_tuple row (163 + i)) (λ k h. refl)
    (stored-rest l 0 3 160 (round_tuple row) (λ i. alu_tuple row (0 + i)) (front-run row) o p)
    q)
    r)
    s)
    t

-- n of the ByteAlu tuples of a padding row
pub none-sent : (row l : List ℕ) {a : List ℕ} (at s n : ℕ) → word row MU ≡ 0 → a ≡ sets l at (tab n (λ k. 0))
    → a ≡ sets l at (tab n (residues (λ i. alu_tuple row (s + i))))
unfolding residues
none-sent row l at s n e d = d ∙ ap (sets l at) (tab-same n (λ k. 0) (residues (λ i. alu_tuple row (s + i))) (λ k h. idle (alu_tuple row (s + k)) (alu-sent-by-mu row (s + k) ∙ e)))
