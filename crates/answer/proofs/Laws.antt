-- Laws of the refusals, for the proof of a call:
--     refuse-yes, refuse-no     a check refuses, or the later ones decide
--     at-yes, at-no             the same for a check that searches
--     answers, accepts          the answer, once the checks are known
--     handed-on                 what `?` answers, where the call before it refused
--     kept, written             the words left, once the checks are known
--     refused, done             the two clauses of a call's contract, once the checks are known
--     number-refused, number_is the answer of a call that gives a number, once the checks are known
--     is-refused, is-done       what an answer that another function gave says of the checks
--     passed-if, passed-at      what an accepted call knows of a check, and of those after it
--     later-if, later-at, told_at   what a refused call knows of a check that refuses by another number, or by a search
--     still-if, still-at        a refusal by the first checks stands, whatever is checked later
--     sets-overwrite            words stored one by one from the front
--     new_word, new-words, old-words   what an accepted call leaves, word by word
use Prim.Native.Nat.{ℕ, ◌≤◌, ◌<◌}
use mathlib.Core.Path.{◌≡◌, refl, ap}
use mathlib.Core.Bool.{Bool, true, false}
use mathlib.Core.Option.{Option, none, some}
use mathlib.Core.List.{List}
use native.Mathlib.Omega.{arith}
use lib.ListN.{length, take, drop, get_or, get_or-append}
use lib.Seq.{sets, take-append_seam, drop-append_seam}
use Rattle.lists.proofs.Laws.{sets-front}
use Rattle.answer.specs.Refusal.{refusal_number, refuse_if, refuse_at, answer_of, number_of, overwrite, afterwards}
use Rattle.answer.specs.declared.Refusal.{Refusal}
use Rattle.std.specs.Prelude.{Result, Ok, Err, IsErrAnd, ⊤}

-- ---- one check

pub refuse-yes : {b : Bool} (r : Refusal) (later : Option Refusal) → b ≡ true → refuse_if b r later ≡ some r
unfolding refuse_if
refuse-yes r later e = rw e

pub refuse-no : {b : Bool} {later o : Option Refusal} (r : Refusal) → b ≡ false → later ≡ o → refuse_if b r later ≡ o
unfolding refuse_if
refuse-no r e q = rw e q

pub at-yes : {found : Option ℕ} {k : ℕ} (f : ℕ → Refusal) (later : Option Refusal) → found ≡ some k
    → refuse_at found f later ≡ some (f k)
unfolding refuse_at
at-yes f later e = rw e

pub at-no : {found : Option ℕ} {later o : Option Refusal} (f : ℕ → Refusal) → found ≡ none → later ≡ o
    → refuse_at found f later ≡ o
unfolding refuse_at
at-no f e q = rw e q

-- ---- a call that only writes: its answer, and the words that it leaves

pub kept : {o : Option Refusal} {r : Refusal} (new old : List ℕ) → o ≡ some r → old ≡ afterwards o new old
unfolding afterwards
kept new old e = rw e

pub written : {o : Option Refusal} {new row : List ℕ} (old : List ℕ) → o ≡ none → row ≡ new → row ≡ afterwards o new old
unfolding afterwards
written old e q = rw e q

pub answers : {o : Option Refusal} {r : Refusal} → o ≡ some r → Err r ≡ answer_of o
unfolding answer_of
answers e = rw e

-- what `?` hands on of a call that refused
pub handed-on : {T : Type 0} (a : Result T Refusal) {r : Refusal} → IsErrAnd a (λ x. x ≡ r) → a ≡ Err r
handed-on (Ok x) h = absurd h
handed-on (Err x) h = ap Err h

pub accepts : {o : Option Refusal} → o ≡ none → Ok tt ≡ answer_of o
unfolding answer_of
accepts e = rw e

pub refused : {o : Option Refusal} {r : Refusal} (new old : List ℕ) → o ≡ some r
    → (Err r ≡ answer_of o) × (old ≡ afterwards o new old)
refused new old e = (answers e, kept new old e)

pub done : {o : Option Refusal} {new row : List ℕ} (old : List ℕ) → o ≡ none → row ≡ new
    → (Ok tt ≡ answer_of o) × (row ≡ afterwards o new old)
done old e q = (accepts e, written old e q)

-- ---- a call that gives a number

pub number-refused : {o : Option Refusal} {r : Refusal} (n : ℕ) → o ≡ some r → Err r ≡ number_of n o
unfolding number_of
number-refused n e = rw e

pub number_is : {o : Option Refusal} {n m : ℕ} → o ≡ none → m ≡ n → Ok m ≡ number_of n o
unfolding number_of
number_is e q = rw e (ap Ok q)

-- ---- what an answer says

pub is-refused : (o : Option Refusal) {r : Refusal} → Err r ≡ answer_of o → o ≡ some r
unfolding answer_of
is-refused none e = cc
is-refused (some x) e = cc

pub is-done : (o : Option Refusal) → Ok tt ≡ answer_of o → o ≡ none
unfolding answer_of
is-done none e = refl
is-done (some x) e = cc

-- ---- what an accepted call knows

pub passed-if : (b : Bool) (r : Refusal) (later : Option Refusal) → refuse_if b r later ≡ none → (b ≡ false) × (later ≡ none)
unfolding refuse_if
passed-if true r later e = (cc, cc)
passed-if false r later e = (refl, e)

pub passed-at : (found : Option ℕ) (f : ℕ → Refusal) (later : Option Refusal) → refuse_at found f later ≡ none
    → (found ≡ none) × (later ≡ none)
unfolding refuse_at
passed-at none f later e = (refl, e)
passed-at (some k) f later e = (cc, cc)

-- ---- what a refused call knows: a check that refuses by another number did not, and a search found the place

-- refusals of two numbers are not the same
pub unlike : (r x : Refusal) → (refusal_number r ≡ refusal_number x → ⊥) → r ≡ x → ⊥
unlike r x ne e = ne (ap refusal_number e)

pub later-if : (b : Bool) {r x : Refusal} (later : Option Refusal) → (r ≡ x → ⊥) → refuse_if b r later ≡ some x → later ≡ some x
unfolding refuse_if
later-if true {r = r} {x = x} later ne e = let q : r ≡ x = cc in absurd (ne q)
later-if false later ne e = e

pub later-at : (found : Option ℕ) {f : ℕ → Refusal} {x : Refusal} (later : Option Refusal) → ((k : ℕ) → f k ≡ x → ⊥)
    → refuse_at found f later ≡ some x → (found ≡ none) × (later ≡ some x)
unfolding refuse_at
later-at none later ne e = (refl, e)
later-at (some k) {f = f} {x = x} later ne e = let q : f k ≡ x = cc in absurd (ne k q)

pub none_told_lem : {x : Refusal} → none ≡ some x → ⊥
none_told_lem e = let z : ◌≡◌ {A = ℕ} 0 1 = cc in absurd (omega arith)

pub told_at : (found : Option ℕ) {f : ℕ → Refusal} {x : Refusal} {later : Option Refusal} → (later ≡ some x → ⊥) → refuse_at found f later ≡ some x
    → (k : ℕ) × (found ≡ some k) × (f k ≡ x)
unfolding refuse_at
told_at none ne e = absurd (ne e)
told_at (some k) ne e = (k, refl, cc)

-- ---- the first checks of a call, made by another function

pub still-if : (b : Bool) (r : Refusal) {q : Refusal} {l m : Option Refusal} → (l ≡ some q → m ≡ some q) → refuse_if b r l ≡ some q
    → refuse_if b r m ≡ some q
unfolding refuse_if
still-if true r h e = e
still-if false r h e = h e

pub still-at : (found : Option ℕ) (f : ℕ → Refusal) {q : Refusal} {l m : Option Refusal} → (l ≡ some q → m ≡ some q)
    → refuse_at found f l ≡ some q → refuse_at found f m ≡ some q
unfolding refuse_at
still-at none f h e = h e
still-at (some k) f h e = e

-- ---- words stored one by one

pub sets-overwrite : (old new : List ℕ) → length new ≤ length old → sets old 0 new ≡ overwrite new old
unfolding overwrite
sets-overwrite old new h = sets-front old new (length new) refl h

-- ---- what an accepted call leaves: the new words, and past them the old ones

module _ {o : Option Refusal} (new old : List ℕ) (passed : o ≡ none) where
  pub new_word : (k : ℕ) → k < length new → get_or (afterwards o (overwrite new old) old) k 0 ≡ get_or new k 0
  unfolding afterwards overwrite
  new_word k l = rw passed (get_or-append new (drop (length new) old) 0 k l)

  pub new-words : take (length new) (afterwards o (overwrite new old) old) ≡ new
  unfolding afterwards overwrite
  new-words = rw passed (take-append_seam new (drop (length new) old))

  pub old-words : drop (length new) (afterwards o (overwrite new old) old) ≡ drop (length new) old
  unfolding afterwards overwrite
  old-words = rw passed (drop-append_seam new (drop (length new) old))
