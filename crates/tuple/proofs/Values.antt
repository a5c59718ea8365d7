-- A call for a row's values is accepted exactly where none of its conditions holds; its refusals with their details, in
-- their order; and of the lent row it reads the columns only.
use mathlib.Core.Path.{◌≡◌, refl, sym, ap, ◌∙◌}
use mathlib.Core.Logic.{◌↔◌}
use mathlib.Core.List.{List}
use mathlib.Core.Option.{Option, none, some}
use Prim.Native.Nat.{ℕ, ◌≤◌, ◌<◌}
use borrow.Author.Tests.{lt-ltb, le-ltb, ltb-false}
use lib.Dec.{ltb}
use lib.ListN.{length}
use lib.Seq.{sets}
use Rattle.lists.specs.Tab.{word, tab}
use Rattle.lists.proofs.Laws.{tab-same, length-tab}
use Rattle.lists.proofs.Reading.{Alike, ReadsFirst, front_same}
use Rattle.field.specs.Field.{p}
use Rattle.field.specs.Elements.{first_not_element}
use Rattle.field.proofs.NotElement.{all-elements, none_found, first_found}
use Rattle.field.proofs.Reading.{elements-reads}
use Rattle.answer.specs.Refusal.{refuse_if, refuse_at, accepted, answer_of, overwrite, afterwards}
use Rattle.answer.specs.declared.Refusal.{Refusal}
use Rattle.answer.specs.declared.Refusal.TheVariants.{TooShort, NotElement}
use Rattle.answer.proofs.Laws.{refuse-yes, refuse-no, at-yes, at-no, passed-if, passed-at, sets-overwrite}
use Rattle.tuple.specs.Values.{Accepted, RestNotRead, values_refusal, values_answer, values_after}

-- what a call knows once its checks have passed
pub passed : (width count : ℕ) (row : List ℕ) (room : ℕ) → values_refusal width count row room ≡ none →
    Accepted width count row room
unfolding values_refusal
passed width count row room e =
    let a = passed-if _ _ _ e in
    let b = passed-if _ _ _ a.1 in
    record { wide = ltb-false _ _ a.0; fits = ltb-false _ _ b.0; below = all-elements row width (passed-at _ _ _ b.1).0 }

-- values stored from the front, where there is room
pub stored : (out : List ℕ) (n : ℕ) (f : ℕ → ℕ) → n ≤ length out → sets out 0 (tab n f) ≡ overwrite (tab n f) out
stored out n f h = let e : length (tab n f) ≡ n = length-tab n f in sets-overwrite out (tab n f) (rw e h)

module _ (width count : ℕ) (row : List ℕ) (room : ℕ) where
  pub row-short : length row < width → values_refusal width count row room ≡ some (TooShort width)
  unfolding values_refusal
  row-short h = refuse-yes _ _ (lt-ltb (length row) width h)

  module _ (wide : width ≤ length row) where
    pub room-short : room < count → values_refusal width count row room ≡ some (TooShort count)
    unfolding values_refusal
    room-short h = refuse-no _ (le-ltb (length row) width wide) (refuse-yes _ _ (lt-ltb room count h))

    module _ (fits : count ≤ room) where
      past_room : {o : Option Refusal} → refuse_at (first_not_element row width) NotElement accepted ≡ o →
          values_refusal width count row room ≡ o
      unfolding values_refusal
      past_room e = refuse-no _ (le-ltb (length row) width wide) (refuse-no _ (le-ltb room count fits) e)

      -- column k is the first that is p or more
      pub column-large : (k : ℕ) → k < width → p ≤ word row k → ((j : ℕ) → j < k → word row j < p) →
          values_refusal width count row room ≡ some (NotElement k)
      column-large k l h lower = past_room (at-yes NotElement accepted (first_found row width k l h lower))

      pub none-large : ((k : ℕ) → k < width → word row k < p) → values_refusal width count row room ≡ accepted
      none-large h = past_room (at-no _ (none_found row width h) refl)

  pub accepted-is : (values_refusal width count row room ≡ accepted) ↔ Accepted width count row room
  accepted-is = (passed width count row room, λ h. none-large h.wide h.fits h.below)

-- ---- the rest of the row
-- the test of a row's length passes for no row that is long enough
pub long-enough : (width : ℕ) (row other : List ℕ) → width ≤ length row → width ≤ length other
    → ltb (length row) width ≡ ltb (length other) width
long-enough width row other h j = le-ltb _ _ h ∙ sym (le-ltb _ _ j)

module _ (width count : ℕ) (row other : List ℕ) (h : width ≤ length row) (j : width ≤ length other) (same : Alike width row other) where
  pub checks-read : (room : ℕ) → values_refusal width count row room ≡ values_refusal width count other room
  unfolding values_refusal
  checks-read room =
      let b : ltb (length row) width ≡ ltb (length other) width = long-enough width row other h j in
      let f : first_not_element row width ≡ first_not_element other width = elements-reads width row other same in
      λ t. refuse_if (b t) (TooShort width) (refuse_if (ltb room count) (TooShort count) (refuse_at (f t) NotElement accepted))

  after-reads : (out : List ℕ) (value : List ℕ → ℕ → ℕ) → ReadsFirst width count value
      → values_after width count value row out ≡ values_after width count value other out
  after-reads out value reads =
      let e : tab count (value row) ≡ tab count (value other) = tab-same count (value row) (value other) (reads row other same) in
      let c = checks-read (length out) in
      λ t. afterwards (c t) (overwrite (e t) out) out

-- so a row lent longer than its columns is as good as its columns alone
pub values-rest : (width count : ℕ) (value : List ℕ → ℕ → ℕ) → ReadsFirst width count value → RestNotRead width count value
values-rest width count value reads row out = (
  front_same (λ (r : List ℕ). values_answer width count r out) width (λ r o h j same. ap answer_of (checks-read width count r o h j same (length out))) row,
  front_same (λ (r : List ℕ). values_after width count value r out) width (λ r o h j same. after-reads width count r o h j same out value reads) row,
)
