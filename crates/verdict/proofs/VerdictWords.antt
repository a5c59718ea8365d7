-- The words of a verdict, case by case as the interface has them, and that they tell the verdict.
use mathlib.Core.Path.{◌≡◌, refl, sym, ap, ◌∙◌}
use mathlib.Core.List.{List, [], ◌∷◌}
use Prim.Native.Nat.{ℕ, zero, suc}
use Rattle.answer.specs.declared.Refusal.{Refusal}
use Rattle.answer.specs.declared.Refusal.TheVariants.{PastEnd, NotWhole, TooShort, HighAddress, NotElement, BadRecord, Unaligned, Rounds, Floor, Register, Segment, LongMessage, LateTimestamp, Files}
use Rattle.verdict.specs.Verdict.{verdict_words}
use Rattle.verdict.specs.declared.Table.{Table}
use Rattle.verdict.specs.declared.Table.TheVariants.{Core, Round}
use Rattle.verdict.specs.declared.Verdict.{Verdict}
use Rattle.verdict.specs.declared.Verdict.TheVariants.{Refused, Value, Lookup, Repeated, Unbalanced, Holds}

-- 0, count, 0, 0
pub holds-words : (n : ℕ) → verdict_words (Holds n) ≡ 0 ∷ n ∷ 0 ∷ 0 ∷ []
holds-words n = refl

-- the failure's place in the order, its table, row and index; "a repeated timestamp has index 0"
module _ (r i : ℕ) where
  pub core-value-words : verdict_words (Value Core r i) ≡ 1 ∷ 0 ∷ r ∷ i ∷ []
  core-value-words = refl

  pub core-lookup-words : verdict_words (Lookup Core r i) ≡ 2 ∷ 0 ∷ r ∷ i ∷ []
  core-lookup-words = refl

  pub repeated-words : verdict_words (Repeated r) ≡ 3 ∷ 0 ∷ r ∷ 0 ∷ []
  repeated-words = refl

  pub round-value-words : verdict_words (Value Round r i) ≡ 4 ∷ 1 ∷ r ∷ i ∷ []
  round-value-words = refl

  pub round-lookup-words : verdict_words (Lookup Round r i) ≡ 5 ∷ 1 ∷ r ∷ i ∷ []
  round-lookup-words = refl

  pub core-unbalanced-words : verdict_words (Unbalanced Core r i) ≡ 6 ∷ 0 ∷ r ∷ i ∷ []
  core-unbalanced-words = refl

  pub round-unbalanced-words : verdict_words (Unbalanced Round r i) ≡ 6 ∷ 1 ∷ r ∷ i ∷ []
  round-unbalanced-words = refl

-- "A refusal has 7, its number and its detail": 2, detail 0 core, 1 round; 5, detail the word's place
pub not-whole-words : (d : ℕ) → verdict_words (Refused (NotWhole d)) ≡ 7 ∷ 2 ∷ d ∷ 0 ∷ []
not-whole-words d = refl

pub not-element-words : (k : ℕ) → verdict_words (Refused (NotElement k)) ≡ 7 ∷ 5 ∷ k ∷ 0 ∷ []
not-element-words k = refl

-- ---- from the words back to the verdict
table_from : ℕ → Table
table_from zero = Core
table_from (suc n) = Round

refusal_from : ℕ → ℕ → Refusal
refusal_from zero d = PastEnd d
refusal_from (suc zero) d = PastEnd d
refusal_from (suc (suc zero)) d = NotWhole d
refusal_from (suc (suc (suc zero))) d = TooShort d
refusal_from (suc (suc (suc (suc zero)))) d = HighAddress d
refusal_from (suc (suc (suc (suc (suc zero))))) d = NotElement d
refusal_from (suc (suc (suc (suc (suc (suc zero)))))) d = BadRecord d
refusal_from (suc (suc (suc (suc (suc (suc (suc zero))))))) d = Unaligned d
refusal_from (suc (suc (suc (suc (suc (suc (suc (suc zero)))))))) d = Rounds d
refusal_from (suc (suc (suc (suc (suc (suc (suc (suc (suc zero))))))))) d = Floor d
refusal_from (suc (suc (suc (suc (suc (suc (suc (suc (suc (suc zero)))))))))) d = Register d
refusal_from (suc (suc (suc (suc (suc (suc (suc (suc (suc (suc (suc zero))))))))))) d = Segment d
refusal_from (suc (suc (suc (suc (suc (suc (suc (suc (suc (suc (suc (suc zero)))))))))))) d = LongMessage d
refusal_from (suc (suc (suc (suc (suc (suc (suc (suc (suc (suc (suc (suc (suc zero))))))))))))) d = LateTimestamp d
refusal_from (suc (suc (suc (suc (suc (suc (suc (suc (suc (suc (suc (suc (suc (suc n)))))))))))))) d = Files d

verdict_from : List ℕ → Verdict
verdict_from (zero ∷ a ∷ b ∷ c ∷ ws) = Holds a
verdict_from (suc zero ∷ a ∷ b ∷ c ∷ ws) = Value Core b c
verdict_from (suc (suc zero) ∷ a ∷ b ∷ c ∷ ws) = Lookup Core b c
verdict_from (suc (suc (suc zero)) ∷ a ∷ b ∷ c ∷ ws) = Repeated b
verdict_from (suc (suc (suc (suc zero))) ∷ a ∷ b ∷ c ∷ ws) = Value Round b c
verdict_from (suc (suc (suc (suc (suc zero)))) ∷ a ∷ b ∷ c ∷ ws) = Lookup Round b c
verdict_from (suc (suc (suc (suc (suc (suc zero))))) ∷ a ∷ b ∷ c ∷ ws) = Unbalanced (table_from a) b c
verdict_from (suc (suc (suc (suc (suc (suc (suc n)))))) ∷ a ∷ b ∷ c ∷ ws) = Refused (refusal_from a b)
verdict_from [] = Holds 0
verdict_from (a ∷ []) = Holds 0
verdict_from (a ∷ b ∷ []) = Holds 0
verdict_from (a ∷ b ∷ c ∷ []) = Holds 0

words_back : (v : Verdict) → verdict_from (verdict_words v) ≡ v
unfolding verdict_from refusal_from table_from
words_back (Holds n) = refl
words_back (Value Core r i) = refl
words_back (Value Round r i) = refl
words_back (Lookup Core r i) = refl
words_back (Lookup Round r i) = refl
words_back (Repeated r) = refl
words_back (Unbalanced Core r i) = refl
words_back (Unbalanced Round r i) = refl
words_back (Refused (PastEnd d)) = refl
words_back (Refused (NotWhole d)) = refl
words_back (Refused (TooShort d)) = refl
words_back (Refused (HighAddress d)) = refl
words_back (Refused (NotElement d)) = refl
words_back (Refused (BadRecord d)) = refl
words_back (Refused (Unaligned d)) = refl
words_back (Refused (Rounds d)) = refl
words_back (Refused (Floor d)) = refl
words_back (Refused (Register d)) = refl
words_back (Refused (Segment d)) = refl
words_back (Refused (LongMessage d)) = refl
words_back (Refused (LateTimestamp d)) = refl
words_back (Refused (Files d)) = refl

-- two verdicts with the same words are the same
pub words-tell : (v w : Verdict) → verdict_words v ≡ verdict_words w → v ≡ w
words-tell v w e = sym (words_back v) ∙ ap verdict_from e ∙ words_back w
