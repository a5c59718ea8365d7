-- The keys' words and halves where none is refused.
use mathlib.Core.Path.{◌≡◌, subst}
use mathlib.Core.Option.{none}
use mathlib.Core.List.{List}
use Prim.Native.Nat.{ℕ, ◌+◌, ◌*◌, ◌%◌, ◌<◌}
use native.Mathlib.Omega.{arith}
use lib.ListN.{length}
use Rattle.lists.specs.Tab.{word}
use Rattle.lists.specs.First.{first_at}
use Rattle.is_wh_rows.specs.Lists.{limit_of, bad_at}
use Rattle.is_wh_rows.proofs.Lists.{all-below}

module _ (keys : List ℕ) (h : first_at (bad_at 2 keys) (length keys) ≡ none) where
  pub word_small : (i : ℕ) → 2 * i < length keys → word keys (2 * i) < 4294967296
  word_small i l =
      let e : 2 * i % 2 ≡ 0 = omega arith in
      subst (λ (n : ℕ). word keys (2 * i) < limit_of n) e (all-below 2 keys h (2 * i) l)

  pub half-small : (i : ℕ) → 2 * i + 1 < length keys → word keys (2 * i + 1) < 65536
  half-small i l =
      let e : (2 * i + 1) % 2 ≡ 1 = omega arith in
      subst (λ (n : ℕ). word keys (2 * i + 1) < limit_of n) e (all-below 2 keys h (2 * i + 1) l)
