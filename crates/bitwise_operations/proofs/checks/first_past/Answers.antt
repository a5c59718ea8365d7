use mathlib.Core.Path.{◌≡◌, ap, sym}
use mathlib.Core.Option.{Option, none}
use Prim.Native.Nat.{ℕ, ◌≤◌}
use native.Mathlib.Omega.{arith}
use Rattle.lists.specs.First.{first, place_of}
use Rattle.lists.proofs.First.{first-start, first_more, first-hit}
use Rattle.bitwise.specs.Lookups.{past_at}
use Rattle.bitwise.proofs.Lookups.{past-kind, past-z, past-none}
use Rattle.bitwise_operations.proofs.checks.first_past.Goals as goal

-- at the end all were searched
ended : (f : ℕ → Option ℕ) (n : ℕ) {i : ℕ} → i ≤ n → n ≤ i → first f i ≡ none → first f n ≡ none
ended f n {i} l g h = let e : i ≡ n = omega arith in rw e at h

pub loop-i-init : goal.loop-i-init
loop-i-init c = first-start _

pub returns-then-ops-i-ge16 : goal.returns-then-ops-i-ge16
returns-then-ops-i-ge16 c =
    let l = c.loop-i in
    sym (ap place_of (first-hit (past_at _) l.i _ _ c.loop-i-test.true l.invariant (past-z c.args.ops.now l.i (omega arith) c.if-ops-i-ge16.true)))

pub loop-i-preserved : goal.loop-i-preserved
loop-i-preserved c =
    let l = c.loop-i in
    first_more (past_at _) l.i l.invariant (past-none c.args.ops.now l.i (omega arith) c.if-ops-i-ge16.false)

pub returns : goal.returns
returns c =
    let l = c.loop-i in
    sym (ap place_of (ended (past_at _) _ (omega arith) c.loop-i-test.false l.invariant))

pub returns-then-ops-i-ge10 : goal.returns-then-ops-i-ge10
returns-then-ops-i-ge10 c = let l = c.loop-i in sym (ap place_of (first-hit (past_at _) l.i _ _ c.loop-i-test.true l.invariant (past-kind c.args.ops.now l.i (omega arith))))
