-- A verdict's words are four; stored one by one they are its words; and the first of them is 0 where it holds, 6 where a tuple is unbalanced.
use mathlib.Core.Path.{◌≡◌, refl, sym, ap, ◌∙◌}
use mathlib.Core.List.{List}
use Prim.Native.Nat.{ℕ}
use native.Mathlib.Omega.{arith}
use lib.ListN.{length}
use lib.Seq.{sets}
use Rattle.lists.specs.Tab.{word, tab}
use Rattle.lists.proofs.Laws.{list-tab}
use Rattle.verdict.specs.Verdict.{verdict_words}
use Rattle.verdict.specs.declared.Table.TheVariants.{Core, Round}
use Rattle.verdict.specs.declared.Verdict.{Verdict}
use Rattle.verdict.specs.declared.Verdict.TheVariants.{Refused, Value, Lookup, Repeated, Unbalanced, Holds}

pub words-length : (v : Verdict) → length (verdict_words v) ≡ 4
words-length (Refused r) = refl
words-length (Value Core r i) = refl
words-length (Value Round r i) = refl
words-length (Lookup Core r i) = refl
words-length (Lookup Round r i) = refl
words-length (Repeated r) = refl
words-length (Unbalanced Core r i) = refl
words-length (Unbalanced Round r i) = refl
words-length (Holds n) = refl

-- what is stored of an array that holds the words of a verdict
pub words-stored : (l ws : List ℕ) (at : ℕ) {out : List ℕ} (v w : Verdict) → ws ≡ verdict_words v → v ≡ w → out ≡ sets l at (tab 4 (word ws)) →
    out ≡ sets l at (verdict_words w)
words-stored l ws at v w e f g =
    g ∙ ap (λ (x : List ℕ). sets l at (tab 4 (word x))) e ∙ ap (sets l at) (sym (list-tab (verdict_words v) 4 (words-length v)) ∙ ap verdict_words f)

-- a verdict whose first word is 0 holds, and its second is the count
pub zero-holds : (v : Verdict) → word (verdict_words v) 0 ≡ 0 → v ≡ Holds (word (verdict_words v) 1)
zero-holds (Refused r) e = absurd (omega arith)
zero-holds (Value Core r i) e = absurd (omega arith)
zero-holds (Value Round r i) e = absurd (omega arith)
zero-holds (Lookup Core r i) e = absurd (omega arith)
zero-holds (Lookup Round r i) e = absurd (omega arith)
zero-holds (Repeated r) e = absurd (omega arith)
zero-holds (Unbalanced Core r i) e = absurd (omega arith)
zero-holds (Unbalanced Round r i) e = absurd (omega arith)
zero-holds (Holds n) e = refl
