use mathlib.Core.Path.{◌≡◌, ap, sym}
use mathlib.Core.Option.{Option, none}
use Prim.Native.Nat.{ℕ, ◌≤◌}
use native.Mathlib.Omega.{arith}
use Rattle.lists.specs.First.{first, place_of}
use Rattle.lists.proofs.First.{first-start, first_more, first-hit}
use Rattle.bitwise.specs.Lookups.{not_byte_at}
use Rattle.bitwise.proofs.Lookups.{byte-x, byte-y, byte-none}
use Rattle.bitwise_operations.proofs.checks.first_not_byte.Goals as goal

-- at the end all were searched
ended : (f : ℕ → Option ℕ) (n : ℕ) {i : ℕ} → i ≤ n → n ≤ i → first f i ≡ none → first f n ≡ none
ended f n {i} l g h = let e : i ≡ n = omega arith in rw e at h

pub loop-i-init : goal.loop-i-init
loop-i-init c = first-start _

pub returns-then-ops-i-ge256 : goal.returns-then-ops-i-ge256
returns-then-ops-i-ge256 c =
    let l = c.loop-i in
    sym (ap place_of (first-hit (not_byte_at _) l.i _ _ c.loop-i-test.true l.invariant (byte-x _ l.i c.if-ops-i-ge256.true)))

pub returns-then-ops-i-ge256-2 : goal.returns-then-ops-i-ge256-2
returns-then-ops-i-ge256-2 c =
    let l = c.loop-i in
    sym (ap place_of (first-hit (not_byte_at _) l.i _ _ c.loop-i-test.true l.invariant (byte-y _ l.i c.if-ops-i-ge256.false c.if-ops-i-ge256-2.true)))

pub loop-i-preserved : goal.loop-i-preserved
loop-i-preserved c =
    let l = c.loop-i in
    first_more (not_byte_at _) l.i l.invariant (byte-none _ l.i c.if-ops-i-ge256.false c.if-ops-i-ge256-2.false)

pub returns : goal.returns
returns c =
    let l = c.loop-i in
    sym (ap place_of (ended (not_byte_at _) _ (omega arith) c.loop-i-test.false l.invariant))
