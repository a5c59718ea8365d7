-- What a search found is below its end.
use mathlib.Core.Path.{◌≡◌, sym, ◌∙◌}
use mathlib.Core.Bool.{Bool}
use Prim.Native.Nat.{ℕ, ◌<◌}
use Rattle.lists.specs.First.{Place, first_at, place_of}
use Rattle.lists.proofs.First.{place_at, at-found}
use Rattle.std.specs.Prelude.{Some}

pub found_below : (t : ℕ → Bool) (n : ℕ) {i : ℕ} {a : Place} → a ≡ Some i → a ≡ place_of (first_at t n) → i < n
found_below t n e q = (at-found t n _ (place_at _ (sym e ∙ q))).0
