-- A list whose first n words are overwritten: its words, and its length.
use mathlib.Core.Path.{◌≡◌, refl, sym, ap, ◌∙◌}
use mathlib.Core.Option.{Option, none}
use mathlib.Core.List.{List, ◌++◌}
use Prim.Native.Nat.{ℕ, ◌+◌, ◌≤◌, ◌<◌}
use native.Mathlib.Omega.{arith}
use lib.ListN.{length, drop, length-append, length-drop, get_or-append}
use Rattle.lists.specs.Tab.{tab, word}
use Rattle.lists.proofs.Laws.{length-tab, get_d-tab}
use Rattle.lists.proofs.Kept.{front-past}
use Rattle.answer.specs.Refusal.{overwrite, afterwards}
use Rattle.answer.specs.declared.Refusal.{Refusal}
use Rattle.answer.proofs.Laws.{written}

module _ (n : ℕ) (f : ℕ → ℕ) (old : List ℕ) where
  pub over-new : (k : ℕ) → k < n → word (overwrite (tab n f) old) k ≡ f k
  unfolding overwrite
  over-new k h =
      let d : k < length (tab n f) = omega (arith, length-tab n f) in
      get_or-append (tab n f) (drop (length (tab n f)) old) 0 k d ∙ get_d-tab n f k 0 h

  pub over-past : (k : ℕ) → n ≤ k → word (overwrite (tab n f) old) k ≡ word old k
  unfolding overwrite
  over-past k h =
      ap (λ (m : ℕ). word (tab n f ++ drop m old) k) (length-tab n f) ∙ front-past old (tab n f) n k (length-tab n f) h

  pub over-length : n ≤ length old → length (overwrite (tab n f) old) ≡ length old
  unfolding overwrite
  over-length h =
      let a = length-append (tab n f) (drop (length (tab n f)) old) in
      let b = length-drop (length (tab n f)) old in
      let c = length-tab n f in
      omega (arith, a, b, c, h)

-- what an accepted call leaves
pub left : {o : Option Refusal} (new old : List ℕ) → o ≡ none → afterwards o new old ≡ new
left new old e = sym (written old e refl)
