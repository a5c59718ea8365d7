-- The words of a tuple of bytes from what was read for them.
use mathlib.Core.Path.{◌≡◌, ap, ap₂, ◌∙◌}
use mathlib.Core.List.{List, [], ◌∷◌}
use Prim.Native.Nat.{ℕ}
use Rattle.answer.specs.Refusal.{overwrite}

pub alu-words : {a b c a' b' c' : ℕ} {new : List ℕ} (op : ℕ) (old : List ℕ) → a ≡ a' → b ≡ b' → c ≡ c'
    → new ≡ overwrite (op ∷ a ∷ b ∷ c ∷ []) old → new ≡ overwrite (op ∷ a' ∷ b' ∷ c' ∷ []) old
alu-words {c = c} {a'} {b'} op old p q r e =
    e
    ∙ ap₂ (λ (s t : ℕ). overwrite (op ∷ s ∷ t ∷ c ∷ []) old) p q
    ∙ ap (λ (t : ℕ). overwrite (op ∷ a' ∷ b' ∷ t ∷ []) old) r

pub bytes-words : {a b a' b' : ℕ} {new : List ℕ} (old : List ℕ) → a ≡ a' → b ≡ b' → new ≡ overwrite (a ∷ b ∷ []) old
    → new ≡ overwrite (a' ∷ b' ∷ []) old
bytes-words old p q e = e ∙ ap₂ (λ (s t : ℕ). overwrite (s ∷ t ∷ []) old) p q
