-- Laws of a call for a tuple: what an accepted call knows of its arguments, and the two clauses of its contract.
use Prim.Native.Nat.{ℕ, ◌≤◌}
use mathlib.Core.Path.{◌≡◌, sym, ap, subst, ◌∙◌}
use native.Mathlib.Omega.{arith}
use mathlib.Core.Option.{Option, none, some}
use mathlib.Core.List.{List}
use borrow.Author.Tests.{leb-false}
use lib.ListN.{length, take, drop}
use lib.Seq.{take-append_seam}
use Rattle.answer.specs.Refusal.{overwrite, afterwards}
use Rattle.answer.specs.declared.Refusal.{Refusal}
use Rattle.answer.proofs.Laws.{passed-if, kept, written}
use Rattle.tuple.specs.Tuple.{Tuple}
use Rattle.tuple.specs.declared.BusInteraction.{BusInteraction}
use Rattle.tuple.proofs.Values.{passed}
use Rattle.tuple.specs.Call.{Accepted, interaction_of, sized_refusal, tuple_answer}
use Rattle.std.specs.Prelude.{Ok, Err}

pub accepted : (width count : ℕ) (row : List ℕ) (i size room : ℕ) → sized_refusal width count row i size room ≡ none
    → Accepted width count row i size room
unfolding sized_refusal
accepted width count row i size room e =
    let a = passed-if _ _ _ e in
    let r = passed width size row room a.1 in
    record { index = leb-false _ _ a.0; wide = r.wide; fits = r.fits; below = r.below }

-- the two clauses
pub tuple-refused : {o : Option Refusal} {r : Refusal} (t : Tuple) (new old : List ℕ) → o ≡ some r
    → (Err r ≡ tuple_answer t o) × (old ≡ afterwards o new old)
unfolding tuple_answer
tuple-refused t new old e = (rw e, kept new old e)

pub tuple-given : {o : Option Refusal} {new out : List ℕ} (t : Tuple) (old : List ℕ) → o ≡ none → out ≡ new
    → (Ok (interaction_of t) ≡ tuple_answer t o) × (out ≡ afterwards o new old)
unfolding tuple_answer
tuple-given t old e q = (rw e, written old e q)

-- the length that is answered is how many values are written: so many words from the front are the values
pub values-first : (t : Tuple) (out : List ℕ) → take (interaction_of t).length (overwrite t.values out) ≡ t.values
unfolding overwrite
values-first t out = take-append_seam t.values (drop (length t.values) out)

-- ---- a tuple by its index: the one that stands there
pub fits : {s t : Tuple} (n : ℕ) → s ≡ t → length s.values ≤ n → length t.values ≤ n
fits n e h = subst (λ (t : Tuple). length t.values ≤ n) e h

-- the room that a tuple's values need
pub room : {s t : Tuple} {n m : ℕ} → s ≡ t → n ≡ length t.values → length s.values ≤ m → n ≤ m
room {t = t} e q h = let g = fits _ e h in omega (arith, g, q)

pub as-tuple : {s t : Tuple} {r : BusInteraction} {new : List ℕ} (old : List ℕ) → s ≡ t → r ≡ interaction_of t
    → new ≡ overwrite t.values old → (r ≡ interaction_of s) × (new ≡ overwrite s.values old)
as-tuple old e a w = (a ∙ ap interaction_of (sym e), w ∙ ap (λ (t : Tuple). overwrite t.values old) (sym e))

pub length-of : {s t : Tuple} {n : ℕ} → s ≡ t → n ≡ length t.values → n ≡ length s.values
length-of e q = q ∙ ap (λ (t : Tuple). length t.values) (sym e)
