-- A tuple of bytes is stored: the words before its values, then these; and the first and each turn of a loop that stores some.
use mathlib.Core.Path.{◌≡◌, sym, ap, subst, ◌∙◌}
use mathlib.Core.List.{List, [], ◌∷◌}
use Prim.Native.Nat.{ℕ, ◌+◌, ◌<◌}
use native.Mathlib.Nat.{add-zero}
use native.Mathlib.Numerals.{add-one}
use lib.ListN.{length, set}
use lib.Seq.{sets}
use Rattle.lists.proofs.Laws.{sets-append}
use Rattle.tuple.specs.Tuple.{Tuple, sender}
use Rattle.tuple.specs.Call.{interaction_of}
use Rattle.tuple.specs.Words.{header_words, tuple_words, tuples_words}
use Rattle.tuple.specs.declared.Bus.TheVariants.{ByteAlu, AreBytes}
use Rattle.byte_tuples.specs.Lanes.{alu_lane}
use Rattle.tuple.proofs.Words.{tuple-length, stores-four, Listed, listed-none, listed_more}

pub alu-stored : (l out : List ℕ) (at m op a b c : ℕ) → out ≡ sets l at (header_words (interaction_of (sender ByteAlu m (op ∷ a ∷ b ∷ c ∷ []))))
    → set (set (set (set out (at + 4) op) (at + 4 + 1) a) (at + 4 + 2) b) (at + 4 + 3) c ≡ sets l at (tuple_words (sender ByteAlu m (op ∷ a ∷ b ∷ c ∷ [])))
unfolding tuple_words
alu-stored l out at m op a b c e =
    stores-four out (at + 4) op a b c
    ∙ ap (λ (r : List ℕ). sets r (at + 4) (op ∷ a ∷ b ∷ c ∷ [])) e
    ∙ sets-append l at (header_words (interaction_of (sender ByteAlu m (op ∷ a ∷ b ∷ c ∷ [])))) (op ∷ a ∷ b ∷ c ∷ [])

pub bytes-stored : (l out : List ℕ) (at a b : ℕ) → out ≡ sets l at (header_words (interaction_of (sender AreBytes 1 (a ∷ b ∷ []))))
    → set (set out (at + 4) a) (at + 4 + 1) b ≡ sets l at (tuple_words (sender AreBytes 1 (a ∷ b ∷ [])))
unfolding tuple_words
bytes-stored l out at a b e =
    ap (λ (k : ℕ). set (set out (at + 4) a) k b) (add-one (at + 4))
    ∙ ap (λ (r : List ℕ). sets r (at + 4) (a ∷ b ∷ [])) e
    ∙ sets-append l at (header_words (interaction_of (sender AreBytes 1 (a ∷ b ∷ [])))) (a ∷ b ∷ [])

-- nothing is stored yet
pub listed_start : (l : List ℕ) (from : ℕ) (t : ℕ → Tuple) (n : ℕ) → Listed l from t n l 0 (from + 0)
listed_start l from t n = subst (λ (k : ℕ). Listed l from t n l 0 k) (sym (add-zero from)) (listed-none l from t n)

-- the next tuple is g, of c values
pub listed-one : {l : List ℕ} {from : ℕ} {t : ℕ → Tuple} {n : ℕ} {out out' : List ℕ} {i at at' : ℕ} (c : ℕ) (g : Tuple) → Listed l from t n out i at → i < n
    → t i ≡ g → length g.values ≡ c → at' ≡ at + (4 + c) → out' ≡ sets out at (tuple_words g) → Listed l from t n out' (i + 1) at'
listed-one {out = out} {at = at} c g h b s u q e =
    listed_more h b
    (q ∙ ap (λ (k : ℕ). at + k) (sym (ap (λ (t : Tuple). length (tuple_words t)) s ∙ tuple-length g ∙ ap (λ (k : ℕ). 4 + k) u)))
    (e ∙ ap (λ (t : Tuple). sets out at (tuple_words t)) (sym s))

-- a lane by the number of its operation
pub by_number : {n k : ℕ} {out : List ℕ} (l : List ℕ) (at m : ℕ) (us vs row : List ℕ) (c : ℕ) → n ≡ k → out ≡ sets l at (tuples_words (alu_lane m n us vs row c) 8)
    → out ≡ sets l at (tuples_words (alu_lane m k us vs row c) 8)
by_number l at m us vs row c e h = h ∙ ap (λ (n : ℕ). sets l at (tuples_words (alu_lane m n us vs row c) 8)) e
