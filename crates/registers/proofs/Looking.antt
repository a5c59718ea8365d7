-- What a look of a register puts behind the twenty words: its ledger, copied there and charged.
use mathlib.Core.List.{List, ◌++◌}
use mathlib.Core.Path.{◌≡◌, sym, ap, ap₂, ◌∙◌}
use Prim.Native.Nat.{ℕ, ◌+◌, ◌*◌, ◌≤◌, ◌<◌}
use native.Mathlib.Nat.{zero-add}
use native.Mathlib.Omega.{arith}
use lib.ListN.{length, length-append}
use lib.Seq.{sets, length-sets}
use Rattle.lists.specs.Tab.{tab, word}
use Rattle.lists.proofs.Laws.{length-tab, get_d-tab, tab-same, sets-append}
use Rattle.lists.proofs.Kept.{sets-stored, sets-again}
use Rattle.field.specs.Field.{fadd}
use Rattle.answer.specs.Refusal.{overwrite}
use Rattle.answer.proofs.Laws.{sets-overwrite}
use Rattle.bitwise.specs.Charge.{charged_kind}
use Rattle.segment_counts.specs.Segment.{look_words}
use Rattle.registers.specs.Registers.{charged_ledger, register_look_words}
use Rattle.registers.proofs.Ledgers.{grown, ledger-size}

module _ (r : ℕ) (C L : List ℕ) (f : ℕ → ℕ) (out : List ℕ) (room : 30 ≤ length out) where
  W : List ℕ
  W = look_words C f

  twenty : length W ≡ 20
  unfolding W look_words
  twenty = length-tab 20 _

  -- the twenty words
  module _ (O₁ : List ℕ) (e₁ : O₁ ≡ overwrite (look_words C f) out) where
    first : O₁ ≡ sets out 0 W
    unfolding W
    first = e₁ ∙ sym (sets-overwrite out W (omega (arith, twenty, room)))

    long : length O₁ ≡ length out
    long = ap length first ∙ length-sets out 0 W

    abbrev copied : List ℕ
    copied = tab 10 (λ k. word L (r * 10 + k))

    -- the ledger, copied
    module _ (O₂ : List ℕ) (e₂ : O₂ ≡ sets O₁ 20 copied) where
      pub copied-long : 20 + 10 ≤ length O₂
      copied-long = omega (arith, ap length e₂, length-sets O₁ 20 copied, long, room)

      pub copied-word : (k : ℕ) → k < 10 → word O₂ (20 + k) ≡ word L (r * 10 + k)
      copied-word k l =
          ap (λ (w : List ℕ). word w (20 + k)) e₂
          ∙ sets-stored O₁ 20 copied k (omega (arith, length-tab 10 (λ k. word L (r * 10 + k)), long, room)) (omega (arith, length-tab 10 (λ k. word L (r * 10 + k))))
          ∙ get_d-tab 10 (λ k. word L (r * 10 + k)) k 0 l

      -- and charged
      module _ (sums : List ℕ) (is : (k : ℕ) → k < 10 → word sums k ≡ charged_kind f k) where
        new : tab 10 (grown O₂ 20 sums) ≡ charged_ledger r L f
        unfolding charged_ledger
        new =
            tab-same 10 (grown O₂ 20 sums) (λ k. fadd (word L (r * 10 + k)) (charged_kind f k))
            (λ k l. ap₂ (λ (a b : ℕ). fadd a b) (copied-word k l) (is k l))

        pub look-put : (O₃ : List ℕ) → O₃ ≡ sets O₂ 20 (tab 10 (grown O₂ 20 sums)) → O₃ ≡ overwrite (register_look_words r C L f) out
        unfolding register_look_words W
        look-put O₃ e₃ =
            let ledger = charged_ledger r L f in
            let v = ledger-size r L f in
            let w : length copied ≡ length ledger = length-tab 10 (λ k. word L (r * 10 + k)) ∙ sym v in
            e₃
            ∙ ap (sets O₂ 20) new
            ∙ ap (λ (o : List ℕ). sets o 20 ledger) e₂
            ∙ sets-again O₁ 20 copied ledger w (omega (arith, v, long, room))
            ∙ ap (λ (o : List ℕ). sets o 20 ledger) first
            ∙ ap (λ (n : ℕ). sets (sets out 0 W) n ledger) (sym twenty)
            ∙ ap (λ (n : ℕ). sets (sets out 0 W) n ledger) (sym (zero-add (length W)))
            ∙ sets-append out 0 W ledger
            ∙ sets-overwrite out (W ++ ledger) (omega (arith, length-append W ledger, twenty, v, room))
