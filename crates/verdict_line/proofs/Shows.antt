-- What the functions that write a line say of it, case by case: the answer, the bytes and the bound of `put_line`, and
-- from them those of the call.
use Prim.Native.Nat.{ℕ, ◌≤◌}
use mathlib.Core.Path.{◌≡◌, refl, sym, ap, subst, ◌∙◌}
use mathlib.Core.Option.{Option, none, some}
use mathlib.Core.List.{List, [], ◌++◌}
use native.Mathlib.Omega.{arith}
use lib.Dec.{T}
use lib.ListN.{length, take, drop, length-append}
use lib.Seq.{sets, take-append_seam}
use Rattle.lists.specs.First.{is_some}
use Rattle.lists.proofs.Laws.{sets-front}
use Rattle.answer.specs.Refusal.{accepted, too_short, number_of, overwrite, afterwards}
use Rattle.answer.specs.declared.Refusal.{Refusal}
use Rattle.answer.proofs.Laws.{number-refused, number_is, kept}
use Rattle.text.specs.Text.{joined, Puts}
use Rattle.verdict.specs.declared.Table.{Table}
use Rattle.verdict.specs.declared.Table.TheVariants.{Core}
use Rattle.verdict.specs.declared.Verdict.{Verdict}
use Rattle.verdict.specs.declared.Verdict.TheVariants.{Refused, Value, Lookup, Repeated, Unbalanced, Holds}
use Rattle.verdict_line.specs.Line.{LINE-MOST, shown_of, shown_by, tuple_at, value-name, timestamp-name, lookup-name}
use Rattle.verdict_line.specs.Line.{balance-name, place_words, words_of, shown_words, line_of, line_by, Judged}
use Rattle.verdict_line.specs.Line.{refused_by, refusal_by, answer_by, after_by}
use Rattle.verdict_line.proofs.Refusals.{judged-later, refused-first}
use Rattle.std.specs.Prelude.{Result, Ok, Err}

-- words stored over others, of which the first are read
pub taken : (vs old : List ℕ) {n : ℕ} {ws : List ℕ} → n ≡ length vs → ws ≡ overwrite vs old → (n ≤ length ws) × (take n ws ≡ vs)
unfolding overwrite
taken vs old {n} {ws} e q = (
  omega (arith, e, ap length q, length-append vs (drop (length vs) old)),
  (λ t. take (e t) (q t)) ∙ take-append_seam vs (drop (length vs) old),
)

module _ (nr : ℕ) (core round : List ℕ) where
  module _ (t : Table) (r i : ℕ) where
    pub value_line : joined (place_words t r value-name i) ≡ line_by nr core round (Value t r i)
    unfolding line_of words_of shown_by shown_words place_words
    value_line = refl

    pub lookup-line : joined (place_words t r lookup-name i ++ shown_words (some (shown_of (tuple_at nr core round t r i)))) ≡ line_by nr core round (Lookup t r i)
    unfolding line_of words_of shown_by
    lookup-line = refl

    pub balance-line : joined (place_words t r balance-name i ++ shown_words (some (shown_of (tuple_at nr core round t r i)))) ≡ line_by nr core round (Unbalanced t r i)
    unfolding line_of words_of shown_by
    balance-line = refl

  pub repeated-line : (r : ℕ) → joined (place_words Core r timestamp-name 0) ≡ line_by nr core round (Repeated r)
  unfolding line_of words_of shown_by shown_words place_words
  repeated-line r = refl

  pub holds-line : (n : ℕ) → joined (words_of (Holds n)) ≡ line_by nr core round (Holds n)
  unfolding line_of words_of shown_by shown_words
  holds-line n = refl

  pub no_line : (r : Refusal) → line_by nr core round (Refused r) ≡ []
  unfolding line_of words_of shown_by shown_words joined
  no_line r = refl

  -- what `put_line` says of a verdict v: its answer a, and out, which is b afterwards
  abbrev pub Put : Verdict → Result ℕ Refusal → List ℕ → List ℕ → Type 0
  Put v a out b = (a ≡ number_of (length (line_by nr core round v)) (refused_by v accepted)) × ((b ≡ sets out 0 (line_by nr core round v)) × (length (line_by nr core round v) ≤ LINE-MOST))

  pub shows : (v w : Verdict) (out b s : List ℕ) (r : ℕ) → v ≡ w → Judged w → s ≡ line_by nr core round w → Puts out 0 s b r → r ≤ LINE-MOST → Put v (Ok r) out b
  shows v w out b s r told j e p m =
      let q : s ≡ line_by nr core round v = e ∙ sym (ap (line_by nr core round) told) in
      let l : r ≡ length (line_by nr core round v) = omega (arith, p.ends, ap length q) in
      (number_is (judged-later v accepted (subst Judged (sym told) j)) l, (p.is ∙ ap (sets out 0) q, omega (arith, l, m)))

  pub shows-refused : (v : Verdict) (x : Refusal) (out : List ℕ) → v ≡ Refused x → Put v (Err x) out out
  shows-refused v x out told =
      let q : line_by nr core round v ≡ [] = ap (line_by nr core round) told ∙ no_line x in
      (number-refused _ (refused-first v accepted x told), (sym (ap (sets out 0) q), omega (arith, ap length q)))

-- ---- from `put_line` to the call
pub is_number : (m n : ℕ) (o : Option Refusal) → Ok n ≡ number_of m o → (o ≡ none) × (n ≡ m)
unfolding number_of
is_number m n none e = (refl, cc)
is_number m n (some r) e = (cc, cc)

is-refusal : (m : ℕ) (x : Refusal) (o : Option Refusal) → Err x ≡ number_of m o → o ≡ some x
unfolding number_of
is-refusal m x none e = cc
is-refusal m x (some r) e = cc

refused-later : (v : Verdict) (later : Option Refusal) (x : Refusal) → refused_by v none ≡ some x → refused_by v later ≡ some x
unfolding refused_by
refused-later (Refused r) later x e = e
refused-later (Value t r i) later x e = cc
refused-later (Lookup t r i) later x e = cc
refused-later (Repeated r) later x e = cc
refused-later (Unbalanced t r i) later x e = cc
refused-later (Holds n) later x e = cc

passed_later : (v : Verdict) (later : Option Refusal) → refused_by v none ≡ none → refused_by v later ≡ later
unfolding refused_by
passed_later (Refused r) later e = absurd (subst (λ (o : Option Refusal). T (is_some o)) e tt)
passed_later (Value t r i) later e = refl
passed_later (Lookup t r i) later e = refl
passed_later (Repeated r) later e = refl
passed_later (Unbalanced t r i) later e = refl
passed_later (Holds n) later e = refl

module _ (nr : ℕ) (core round line old text : List ℕ) (v : Verdict) (a : Result ℕ Refusal) (put : Put nr core round v a old text) where
  pub answers-refused : {x : Refusal} → a ≡ Err x →
      (Err x ≡ answer_by nr core round v line) × (line ≡ after_by nr core round v line)
  unfolding refusal_by
  answers-refused {x} told =
      let q = refused-later v (too_short (length line) (length (line_by nr core round v)) accepted) x (is-refusal _ x _ (sym told ∙ put.0)) in
      (number-refused _ q, kept _ _ q)

  module _ {n : ℕ} (told : a ≡ Ok n) where
    says : (refused_by v none ≡ none) × (n ≡ length (line_by nr core round v))
    says = is_number _ n _ (sym told ∙ put.0)

    pub fits : LINE-MOST ≤ length old → n ≤ length text
    fits l = omega (arith, says.1, put.1.1, ap length (put.1.0 ∙ sets-front old (line_by nr core round v) _ refl (omega (arith, put.1.1))), length-append (line_by nr core round v) (drop (length (line_by nr core round v)) old))

    text-taken : LINE-MOST ≤ length old → take n text ≡ line_by nr core round v
    text-taken l =
        (λ t. take (says.1 t) ((put.1.0 ∙ sets-front old (line_by nr core round v) _ refl (omega (arith, put.1.1))) t))
        ∙ take-append_seam (line_by nr core round v) (drop (length (line_by nr core round v)) old)

    pub answers-line : LINE-MOST ≤ length old → {b : Result ℕ Refusal} {after : List ℕ} →
        b ≡ number_of n (too_short (length line) n accepted) →
        after ≡ afterwards (too_short (length line) n accepted) (overwrite (take n text) line) line →
        (b ≡ answer_by nr core round v line) × (after ≡ after_by nr core round v line)
    unfolding refusal_by
    answers-line l e f =
        let m : n ≡ length (line_by nr core round v) = says.1 in
        let q : too_short (length line) n accepted ≡ refusal_by nr core round v (length line) =
        ap (λ (k : ℕ). too_short (length line) k accepted) m ∙ sym (passed_later v _ says.0) in
        let t = text-taken l in
        (e ∙ (λ j. number_of (m j) (q j)), f ∙ (λ j. afterwards (q j) (overwrite (t j) line) line))

-- and of the call where the verdict is known
pub same_line : (nr : ℕ) (core round line : List ℕ) {v w : Verdict} {b : Result ℕ Refusal} {after : List ℕ} → v ≡ w →
    (b ≡ answer_by nr core round v line) × (after ≡ after_by nr core round v line) →
    (b ≡ answer_by nr core round w line) × (after ≡ after_by nr core round w line)
same_line nr core round line e h = (h.0 ∙ (λ t. answer_by nr core round (e t) line), h.1 ∙ (λ t. after_by nr core round (e t) line))
