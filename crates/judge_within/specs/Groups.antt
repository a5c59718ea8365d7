-- Groups of equal keys in a list of numbers.
--     Apart      no number before the one at s has its key: a group starts there
--     GroupTo    the numbers from s on and before e have one key
--     GroupAt    the group of places that starts at s: where it ends, and whether its tuple is uneven
use Rattle.std.specs.Prelude.{◌≡◌, Bool, true, false, List, ℕ, ◌≤◌, ◌<◌, length}
use Rattle.lists.specs.Tab.{word}
use Rattle.lists.specs.Select.{words_test}
use Rattle.verdict.specs.Verdict.{uneven}
use Rattle.verdict.specs.CoreAndRound.{core_kind, round_kind}
use Rattle.sort_places.specs.Places.{place_tuple}

module _ (key : ℕ → List ℕ) (xs : List ℕ) where
  unfoldable pub Apart : ℕ → Type 0
  Apart s = (i : ℕ) → i < s → words_test (key (word xs i)) (key (word xs s)) ≡ false

  unfoldable pub GroupTo : ℕ → ℕ → Type 0
  GroupTo s e = (i : ℕ) → s ≤ i → i < e → words_test (key (word xs s)) (key (word xs i)) ≡ true

pub record GroupAt (nr : ℕ) (core round places : List ℕ) (start end : ℕ) (odd : Bool) : Type 0 where
  pub later : start < end
  pub inside : end ≤ length places
  pub counted : odd ≡ uneven (core_kind nr) round_kind core round (place_tuple nr core round (word places start))
  pub alike : GroupTo (place_tuple nr core round) places start end
  pub next : end < length places → Apart (place_tuple nr core round) places end
