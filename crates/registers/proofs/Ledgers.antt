-- The registers in use, and the ledgers before and after a charge.
--     in-use-is                  a register is in use exactly where its ledger stands whole in the lent words and is one of the first 16
--     charged-own, charged-other the words of all ledgers after a charge: those of its own ledger, and any other
--     own-ledger, other-ledger   a whole ledger after it
--     ledger-turn, ledgers-put   what code stores is that
use mathlib.Core.Bool.{Bool}
use mathlib.Core.List.{List}
use mathlib.Core.Logic.{◌↔◌, inl, inr}
use mathlib.Core.Path.{◌≡◌, sym, ap, subst, ◌∙◌}
use Prim.Native.Nat.{ℕ, ◌+◌, ◌-◌, ◌*◌, ◌/◌, ◌≤◌, ◌<◌}
use native.Mathlib.Omega.{arith}
use borrow.Author.Tests.{lt-ltb, le-ltb}
use lib.ListN.{length, take, drop}
use lib.Seq.{sets, length-sets}
use Rattle.lists.specs.Tab.{pick, tab, word, row_at}
use Rattle.lists.proofs.Laws.{Filled, filled_more, length-tab, get_d-tab, tab-same, word-row_at}
use Rattle.lists.proofs.Kept.{sets-outside, sets-stored, part-tab}
use Rattle.lists.proofs.Then.{by_le}
use Rattle.field.specs.Field.{fadd}
use Rattle.bitwise.specs.Counters.{charge}
use Rattle.bitwise.specs.Charge.{charged_kind}
use Rattle.registers.specs.Registers.{in_use, ledger_of, charged_ledger, charged_ledgers}

-- ---- the registers in use
module _ (w : ℕ) where
  pub in-use-few : w / 10 < 16 → w / 10 ≡ in_use w
  unfolding in_use
  in-use-few l = sym (ap (λ (t : Bool). pick t (w / 10) 16) (lt-ltb (w / 10) 16 l))

  pub in-use-all : 16 ≤ w / 10 → 16 ≡ in_use w
  unfolding in_use
  in-use-all l = sym (ap (λ (t : Bool). pick t (w / 10) 16) (le-ltb (w / 10) 16 l))

  pub in-use-is : (r : ℕ) → (r < in_use w) ↔ ((r * 10 + 10 ≤ w) × (r < 16))
  in-use-is r = (
    (λ l. by_le 16 (w / 10) (λ b. let e = in-use-all b in (omega arith, omega arith)) (λ b. let e = in-use-few b in (omega arith, omega arith))),
    λ h. by_le 16 (w / 10) (λ b. let e = in-use-all b in omega (arith, h.1)) (λ b. let e = in-use-few b in omega (arith, h.0)),
  )

-- a ledger as a part of the slice
pub part-ledger : (L : List ℕ) (r : ℕ) → r * 10 + 10 ≤ length L → take (r * 10 + 10 - r * 10) (drop (r * 10) L) ≡ ledger_of L r
unfolding row_at
part-ledger L r h = part-tab L (r * 10) 10 h

-- ---- after a charge
module _ (r : ℕ) (L : List ℕ) (f : ℕ → ℕ) where
  pub ledger-size : length (charged_ledger r L f) ≡ 10
  unfolding charged_ledger
  ledger-size = length-tab 10 _

  pub ledger-word : (k : ℕ) → k < 10 → word (charged_ledger r L f) k ≡ fadd (word L (r * 10 + k)) (charged_kind f k)
  unfolding charged_ledger
  ledger-word k l = get_d-tab 10 (λ k. fadd (word L (r * 10 + k)) (charged_kind f k)) k 0 l

  pub ledgers-length : length (charged_ledgers r L f) ≡ length L
  unfolding charged_ledgers
  ledgers-length = length-sets L _ (charged_ledger r L f)

  pub charged-own : r * 10 + 10 ≤ length L → (k : ℕ) → k < 10 → word (charged_ledgers r L f) (r * 10 + k) ≡ fadd (word L (r * 10 + k)) (charged_kind f k)
  unfolding charged_ledgers
  charged-own room k l = sets-stored L (r * 10) (charged_ledger r L f) k (omega (arith, ledger-size, room)) (omega (arith, ledger-size)) ∙ ledger-word k l

  pub charged-other : (j : ℕ) → (j / 10 ≡ r → ⊥) → word (charged_ledgers r L f) j ≡ word L j
  unfolding charged_ledgers
  charged-other j d = sets-outside L (r * 10) (charged_ledger r L f) j (by_le (r * 10) j (λ b. by_le (r * 10 + 10) j (λ c. inr (omega (arith, ledger-size, c))) (λ c. absurd (d (omega arith)))) inl)

  -- whole ledgers
  pub own-ledger : r * 10 + 10 ≤ length L → ledger_of (charged_ledgers r L f) r ≡ charged_ledger r L f
  unfolding row_at charged_ledger
  own-ledger room = tab-same 10 (λ k. word (charged_ledgers r L f) (r * 10 + k)) (λ k. fadd (word L (r * 10 + k)) (charged_kind f k)) (charged-own room)

  pub other-ledger : (q : ℕ) → (q ≡ r → ⊥) → ledger_of (charged_ledgers r L f) q ≡ ledger_of L q
  unfolding row_at
  other-ledger q d =
      tab-same 10 (λ k. word (charged_ledgers r L f) (q * 10 + k)) (λ k. word L (q * 10 + k))
      (λ k l. charged-other (q * 10 + k) (λ e. d (omega (arith, l, e))))

-- the ledger of another register is as if there were none but its own words
pub ledger-alike : (r : ℕ) (L M : List ℕ) (f : ℕ → ℕ) → ledger_of L r ≡ ledger_of M r → charged_ledger r L f ≡ charged_ledger r M f
unfolding charged_ledger
ledger-alike r L M f e =
    tab-same 10 (λ k. fadd (word L (r * 10 + k)) (charged_kind f k)) (λ k. fadd (word M (r * 10 + k)) (charged_kind f k))
    (λ k l. ap (λ (n : ℕ). fadd n (charged_kind f k)) (sym (word-row_at 10 L r k l) ∙ ap (λ (w : List ℕ). word w k) e ∙ word-row_at 10 M r k l))

-- ---- as code stores them
module _ (l : List ℕ) (at : ℕ) (sums : List ℕ) where
  abbrev pub grown : ℕ → ℕ
  grown k = fadd (word l (at + k)) (word sums k)

  -- a word that is not stored yet
  pub ledger-left : {row : List ℕ} {k : ℕ} → Filled l at 10 grown row k → word row (at + k) ≡ word l (at + k)
  ledger-left {k = k} h = ap (λ (w : List ℕ). word w (at + k)) h.is ∙ sets-outside l at (tab k grown) (at + k) (inr (omega (arith, length-tab k grown)))

  pub ledger-turn : {row row' : List ℕ} {k : ℕ} → Filled l at 10 grown row k → k < 10 → row' ≡ charge row (at + k) (word sums k) → Filled l at 10 grown row' (k + 1)
  unfolding charge
  ledger-turn {row = row} {k = k} h b e =
      subst (λ (w : List ℕ). Filled l at 10 grown w (k + 1)) (sym e) (filled_more (fadd (word row (at + k)) (word sums k)) h b (ap (λ (n : ℕ). fadd n (word sums k)) (ledger-left h)))

ledger-put : (r : ℕ) (L sums : List ℕ) (f : ℕ → ℕ) → ((k : ℕ) → k < 10 → word sums k ≡ charged_kind f k) → tab 10 (grown L (r * 10) sums) ≡ charged_ledger r L f
unfolding charged_ledger
ledger-put r L sums f h = tab-same 10 (grown L (r * 10) sums) (λ k. fadd (word L (r * 10 + k)) (charged_kind f k)) (λ k l. ap (fadd (word L (r * 10 + k))) (h k l))

pub ledgers-put : (r : ℕ) (L M sums : List ℕ) (f : ℕ → ℕ) → M ≡ sets L (r * 10) (tab 10 (grown L (r * 10) sums)) → ((k : ℕ) → k < 10 → word sums k ≡ charged_kind f k) → M ≡ charged_ledgers r L f
unfolding charged_ledgers
ledgers-put r L M sums f e h = e ∙ ap (sets L (r * 10)) (ledger-put r L sums f h)
