-- How timestamps are compared with the last.
use mathlib.Core.Path.{◌≡◌, sym, ◌∙◌}
use Prim.Native.Nat.{ℕ, ◌+◌, ◌-◌, ◌^◌, ◌<◌}
use native.Mathlib.Omega.{arith}
use borrow.Author.Tests.{lt-ltb, le-ltb, le-leb, lt-leb}
use lib.Dec.{leb, ltb}
use Rattle.lists.proofs.Then.{by_le}

-- without a sum that could wrap
pub late_is : (more timestamp : ℕ) → more < 2 ^ 64 → ltb (18446744073709551615 - more) timestamp ≡ leb (2 ^ 64) (timestamp + more)
late_is more timestamp h =
    by_le (2 ^ 64) (timestamp + more)
    (λ l. lt-ltb (18446744073709551615 - more) timestamp (omega arith) ∙ sym (le-leb (2 ^ 64) (timestamp + more) l))
    (λ l. le-ltb (18446744073709551615 - more) timestamp (omega arith) ∙ sym (lt-leb (2 ^ 64) (timestamp + more) l))
