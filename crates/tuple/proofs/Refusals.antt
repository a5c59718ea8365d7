-- A call for a tuple is accepted exactly where none of its conditions holds; and its refusals with their details, in
-- their order.
use mathlib.Core.Path.{◌≡◌}
use mathlib.Core.Logic.{◌↔◌}
use mathlib.Core.List.{List}
use mathlib.Core.Option.{Option, some}
use Prim.Native.Nat.{ℕ, ◌≤◌, ◌<◌}
use borrow.Author.Tests.{le-leb, lt-leb}
use lib.ListN.{length}
use Rattle.lists.specs.Tab.{word}
use Rattle.field.specs.Field.{p}
use Rattle.answer.specs.Refusal.{accepted}
use Rattle.answer.specs.declared.Refusal.{Refusal}
use Rattle.answer.specs.declared.Refusal.TheVariants.{PastEnd, TooShort, NotElement}
use Rattle.answer.proofs.Laws.{refuse-yes, refuse-no}
use Rattle.tuple.specs.Values.{values_refusal}
use Rattle.tuple.specs.Call.{Accepted, sized_refusal}
use Rattle.tuple.proofs.Values as values
use Rattle.tuple.proofs.Call as call

module _ (width count : ℕ) (row : List ℕ) (i size room : ℕ) where
  pub index-past : count ≤ i → sized_refusal width count row i size room ≡ some (PastEnd count)
  unfolding sized_refusal
  index-past h = refuse-yes _ _ (le-leb count i h)

  module _ (index : i < count) where
    -- past the index the checks are those of the row's values
    past_index : {o : Option Refusal} → values_refusal width size row room ≡ o → sized_refusal width count row i size room ≡ o
    unfolding sized_refusal
    past_index e = refuse-no _ (lt-leb count i index) e

    pub row-short : length row < width → sized_refusal width count row i size room ≡ some (TooShort width)
    row-short h = past_index (values.row-short width size row room h)

    module _ (wide : width ≤ length row) where
      pub room-short : room < size → sized_refusal width count row i size room ≡ some (TooShort size)
      room-short h = past_index (values.room-short width size row room wide h)

      module _ (fits : size ≤ room) where
        -- column k is the first that is p or more
        pub column-large : (k : ℕ) → k < width → p ≤ word row k → ((j : ℕ) → j < k → word row j < p) →
            sized_refusal width count row i size room ≡ some (NotElement k)
        column-large k l h lower = past_index (values.column-large width size row room wide fits k l h lower)

        pub none-large : ((k : ℕ) → k < width → word row k < p) → sized_refusal width count row i size room ≡ accepted
        none-large h = past_index (values.none-large width size row room wide fits h)

  pub accepted-is : (sized_refusal width count row i size room ≡ accepted) ↔ Accepted width count row i size room
  accepted-is = (
    call.accepted width count row i size room,
    λ h. none-large h.index h.wide h.fits h.below,
  )
