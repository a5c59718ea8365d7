-- Each rule of a core row that is not needed follows, in an active row, from the others: Ecall, Memw and Keccak are not looked up; that MU is a bit is so where MU
-- is 1; and value 49, that the last lane's high carry is a bit, from value 50, by which it is 0. So the 105 are those that are needed, and no other.
use mathlib.Core.Path.{◌≡◌, refl, sym, ap, subst, ◌∙◌}
use mathlib.Core.Bool.{Bool, true, false}
use mathlib.Core.List.{List}
use mathlib.Core.Logic.{◌⊎◌, inl, inr, ◌↔◌}
use Prim.Native.Nat.{ℕ, ◌+◌, ◌-◌, ◌*◌, ◌^◌, ◌≤◌, ◌<◌}
use native.Mathlib.Omega.{arith}
use lib.IntN.{pos}
use Rattle.lists.specs.Tab.{word, followed_by}
use Rattle.lists.proofs.Tests.{true-not-false}
use Rattle.lists.proofs.Then.{by_le, then-lt, then-ge, then-past, then-all, at-two}
use Rattle.field.specs.Field.{fadd, fmul}
use Rattle.field.proofs.Field.{mod-p, fmul-one}
use Rattle.bits.proofs.Rotate.{by-parity}
use Rattle.templates.specs.Templates.{constant, from-dword-bl, from-dword-whh, carry0, add-pair-carry-hi, emit-add-pair, is_bit}
use Rattle.templates.proofs.Carry.{carry_of, Carried, carried, bit-if-one, bit-value}
use Rattle.tuple.specs.Tuple.{Tuple}
use Rattle.matching.specs.Matching.{Found, Matched}
use Rattle.matching.proofs.Matching.{bytes_of, half_of, is-wh-of, of-keccak, of-memw, of-ecall}
use Rattle.keccak.specs.Columns.{ADDR, MU, addr, state-ptr}
use Rattle.keccak.specs.Values.{pointer_value, top_value, core_value}
use Rattle.keccak.specs.Tuples.{ecall_tuple, addr_memw, lane_memw, pointer_tuple, addr_bytes_tuple, core_tuple}
use Rattle.keccak.specs.Passes.{CorePasses, CoreCells}
use Rattle.keccak.proofs.Places.{tuple_at_lem, tuples-from}
use Rattle.keccak.proofs.Words.{Ranged, addr_lo, addr_hi, ptr_lo, ptr_hi, lo-lt, ptr-lo-lt, carry0-is, carry1-is, top-is}
use Rattle.keccak.proofs.Soundness.{core-sound}
use Rattle.verdict.specs.Claims.{Addressed}
use Rattle.keccak_needed.specs.CoreNeeded.{core_needed, CoreBut}
use Rattle.keccak_needed.proofs.CoreNeeded.{each-core-needed}

-- ---- which rules are not needed
abbrev Others : ℕ → Type 0
Others j = (j < 4) ⊎ ((59 ≤ j) × (j < 84)) ⊎ (j ≡ 133) ⊎ (j ≡ 135)

early : (j : ℕ) → 4 ≤ j → j < 59 → core_needed j ≡ true
unfolding core_needed
early j l h = then-past 4 j _ _ l ∙ then-lt 55 (j - 4) _ _ (omega arith)

carries : (j : ℕ) → 84 ≤ j → j < 133 → core_needed j ≡ true
unfolding core_needed
carries j l h = then-past 4 j _ _ (omega arith) ∙ then-past 55 (j - 4) _ _ (omega arith) ∙ then-past 25 (j - 4 - 55) _ _ (omega arith) ∙ then-lt 49 (j - 4 - 55 - 25) _ _ (omega arith)

top : (j : ℕ) → j ≡ 134 → core_needed j ≡ true
unfolding core_needed followed_by
top j e = ap core_needed e

others : (j : ℕ) → j < 136 → core_needed j ≡ false → Others j
others j l off =
    by_le 4 j
    (λ a. by_le 59 j
    (λ b. by_le 84 j
    (λ c. by_le 133 j
    (λ d. by_le 134 j
    (λ e. by_le 135 j (λ f. inr (inr (inr (omega arith)))) (λ f. absurd (true-not-false (sym (top j (omega arith)) ∙ off))))
    (λ e. inr (inr (inl (omega arith)))))
    (λ d. absurd (true-not-false (sym (carries j c d) ∙ off))))
    (λ c. inr (inl (b, c))))
    (λ b. absurd (true-not-false (sym (early j a b) ∙ off))))
    (λ a. inl a)

-- ---- a row all whose rules hold but one of these
module _ (j nr syscall : ℕ) (row : List ℕ) (h : CoreBut j nr syscall row) (o : Others j) where
  -- so those that are looked up hold
  not-looked : (i : ℕ) → 4 ≤ i → i < 59 → i ≡ j → ⊥
  not-looked i a b e = go o
    where
      go : Others j → ⊥
      go (inl l) = omega arith
      go (inr (inl l)) = let l₀ = l.0 in omega arith
      go (inr (inr (inl q))) = omega arith
      go (inr (inr (inr q))) = omega arith

  -- Ecall, Memw and Keccak need no match
  first-matched : (i : ℕ) → i < 4 → Matched (core_tuple nr syscall row i)
  unfolding core_tuple ecall_tuple addr_memw
  first-matched i a =
      then-all Matched 1 _ _ i (λ g _. of-ecall _)
      (λ i₁ e₁. then-all Matched 1 _ _ i₁ (λ g _. of-memw _)
      (λ i₂ e₂. then-all Matched 1 _ _ i₂ (λ g _. of-keccak _)
      (λ i₃ e₃. then-all Matched 1 _ _ i₃ (λ g _. of-keccak _)
      (λ i₄ e₄. absurd (omega arith)))))

  last-matched : (k : ℕ) → Matched (lane_memw row k)
  unfolding lane_memw
  last-matched k _ = of-memw _

  matched-all : (i : ℕ) → i < 84 → Matched (core_tuple nr syscall row i)
  matched-all i l =
      by_le 4 i
      (λ a. by_le 59 i
      (λ b. let q : 59 + (i - 59) ≡ i = omega arith in subst (λ (k : ℕ). Matched (core_tuple nr syscall row k)) q (subst Matched (sym (tuples-from nr syscall row 7 (i - 59))) (last-matched (i - 59))))
      (λ b. h.lookups i l (not-looked i a b)))
      (λ a. first-matched i a)

  -- ---- value 49
  look : (i : ℕ) (t : Tuple) → i < 84 → core_tuple nr syscall row i ≡ t → t.multiplicity ≡ word row MU → Found t
  look i t l e m = subst Matched e (matched-all i l) (λ z. due (sym m ∙ z))
    where
      due : word row MU ≡ 0 → ⊥
      due z = omega (arith, z, h.on)

  f-pointer : (i j : ℕ) → i < 25 → j < 2 → (pointer_tuple row i j).multiplicity ≡ word row MU → Found (pointer_tuple row i j)
  f-pointer i j hi hj m =
      look (4 + (i * 2 + j)) (pointer_tuple row i j) (omega arith) (tuple_at_lem nr syscall row 4 (i * 2 + j) (omega arith) ∙ at-two (pointer_tuple row) (omega arith) (omega arith)) m

  f-bytes : (i : ℕ) → i < 4 → Found (addr_bytes_tuple row i)
  unfolding addr_bytes_tuple
  f-bytes i hi = look (55 + i) (addr_bytes_tuple row i) (omega arith) (tuple_at_lem nr syscall row 6 i hi) refl

  is-wh : (i : ℕ) → i < 25 → (word row (state-ptr i 0 + 2) < 2 ^ 32) × (word row (state-ptr i 0 + 1) < 2 ^ 16)
  unfolding pointer_tuple
  is-wh i l = is-wh-of _ _ (f-pointer i 0 l (omega arith) refl)

  ranged : Ranged row
  unfolding pointer_tuple addr_bytes_tuple
  ranged =
      record {
        addr-bytes = by-parity (λ b. word row (addr b) < 256) (λ k l. (bytes_of _ _ (f-bytes k l)).0) (λ k l. (bytes_of _ _ (f-bytes k l)).1);
        limb-0 = λ i l. half_of _ (f-pointer i 1 l (omega arith) refl);
        limb-1 = λ i l. (is-wh i l).1;
        limb-2 = λ i l. (is-wh i l).0;
      }

  -- of the values 49 and 51 alone can be the one of which nothing is said
  not-asked : (i : ℕ) → i < 52 → (i ≡ 49 → ⊥) → (i ≡ 51 → ⊥) → 84 + i ≡ j → ⊥
  not-asked i l a b e = go o
    where
      go : Others j → ⊥
      go (inl c) = omega arith
      go (inr (inl c)) = let c₁ = c.1 in omega arith
      go (inr (inr (inl q))) = a (omega arith)
      go (inr (inr (inr q))) = b (omega arith)

  low_value : pointer_value row 24 0 ≡ 0
  unfolding core_value
  low_value =
      sym (then-lt 50 48 _ _ (omega arith)) ∙ h.values 48 (omega arith) (not-asked 48 (omega arith) (λ q. omega arith) (λ q. omega arith))

  top-value : top_value row ≡ 0
  unfolding core_value
  top-value = sym (then-ge 50 0 _ _ ∙ then-lt 1 0 _ _ (omega arith)) ∙ h.values (50 + 0) (omega arith) (not-asked 50 (omega arith) (λ q. omega arith) (λ q. omega arith))

  h24 : 24 < 25
  h24 = omega arith

  low : Carried (addr_lo row + 8 * 24) (ptr_lo row 24)
  unfolding pointer_value emit-add-pair carry0
  low =
      carried (addr_lo row + 8 * 24) (ptr_lo row 24) (omega (arith, lo-lt row ranged)) (ptr-lo-lt row ranged 24 h24)
      (ap is_bit (sym (carry0-is row ranged 24 h24))
      ∙ sym (bit-if-one (fadd 0 (word row MU)) (carry0 row (from-dword-bl ADDR) (constant (pos (24 * 8))) (from-dword-whh (state-ptr 24 0))) (ap (fadd 0) h.on) (mod-p _)) ∙ low_value)

  no-carry : add-pair-carry-hi row (from-dword-bl ADDR) (constant (pos (24 * 8))) (from-dword-whh (state-ptr 24 0)) ≡ 0
  no-carry =
      carry1-is row ranged 24 low.bit h24 low.bit-lt (carry0-is row ranged 24 h24 ∙ low.carry-is)
      ∙ sym (fmul-one (carry_of (addr_hi row + low.bit) (ptr_hi row 24)) (mod-p _))
      ∙ ap (λ (m : ℕ). fmul m (carry_of (addr_hi row + low.bit) (ptr_hi row 24))) (sym h.on)
      ∙ sym (top-is row ranged low.bit low.bit-lt low.carry-is) ∙ top-value

  high_value : pointer_value row 24 1 ≡ 0
  unfolding pointer_value emit-add-pair
  high_value = bit-value (fadd 0 (word row MU)) _ 0 no-carry (omega arith)

  value-49 : core_value row 49 ≡ 0
  unfolding core_value
  value-49 = then-lt 50 49 _ _ (omega arith) ∙ high_value

  value-51 : core_value row 51 ≡ 0
  unfolding core_value
  value-51 = then-past 50 51 _ _ (omega arith) ∙ then-past 1 1 _ _ (omega arith) ∙ ap is_bit h.on

  values-all : (i : ℕ) → i < 52 → core_value row i ≡ 0
  values-all i l =
      by_le 50 i
      (λ a. by_le 51 i (λ b. let q : 51 ≡ i = omega arith in subst (λ (k : ℕ). core_value row k ≡ 0) q value-51) (λ b. h.values i l (not-asked i l (λ q. omega arith) (λ q. omega arith))))
      (λ a. by_le 49 i (λ b. let q : 49 ≡ i = omega arith in subst (λ (k : ℕ). core_value row k ≡ 0) q value-49) (λ b. h.values i l (not-asked i l (λ q. omega arith) (λ q. omega arith))))

  passes : CorePasses nr syscall row
  passes = record { values = values-all; lookups = matched-all }

-- ---- EACH OTHER FOLLOWS
pub core-follows : (j : ℕ) → j < 136 → core_needed j ≡ false → (nr syscall : ℕ) (row : List ℕ) → CoreBut j nr syscall row → CorePasses nr syscall row
core-follows j l off nr syscall row h = passes j nr syscall row h (others j l off)

addressed : (row : List ℕ) → CoreCells row → Addressed row
addressed row c = record { aligned = c.aligned; lane = c.pointers; below = λ i l. omega (arith, c.below) }

pub core-needed-exactly : (j : ℕ) → j < 136 → (nr syscall : ℕ) → (core_needed j ≡ true) ↔ ((row : List ℕ) × CoreBut j nr syscall row × (Addressed row → ⊥))
core-needed-exactly j l nr syscall = ((λ e. each-core-needed j l e nr syscall), back (core_needed j) refl)
  where
    back : (c : Bool) → core_needed j ≡ c → ((row : List ℕ) × CoreBut j nr syscall row × (Addressed row → ⊥)) → core_needed j ≡ true
    back true e h = e
    back false e (row, b, wrong) = absurd (wrong (addressed row (core-sound nr syscall row (core-follows j l e nr syscall row b) b.on)))
