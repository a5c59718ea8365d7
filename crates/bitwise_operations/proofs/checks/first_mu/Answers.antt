use mathlib.Core.Path.{ap, ◌∙◌}
use Prim.Native.Nat.{ℕ}
use native.Mathlib.Omega.{arith}
use Rattle.lists.specs.Tab.{word}
use Rattle.bitwise.specs.Counters.{lower_large}
use Rattle.bitwise.specs.Lookups.{mu_at}
use Rattle.bitwise.proofs.Lookups.{lookups-are, lookup-lt, mu-lt}
use Rattle.bitwise_operations.proofs.Charging.{search-start, search-more, search-at, search-nowhere}
use Rattle.bitwise_operations.proofs.checks.first_mu.Goals as goal

pub loop-i-init : goal.loop-i-init
loop-i-init c = search-start _ _

pub counter_of-c-requires : goal.counter_of-c-requires
counter_of-c-requires c = (omega arith, lookups-are c.args.ops.now c.args.n c.requires.1 c.requires.2 c.loop-i.i c.loop-i-test.true)

pub mu_at-requires : goal.mu_at-requires
mu_at-requires c =
    let ops = c.args.ops.now in
    let asked = lookups-are ops c.args.n c.requires.1 c.requires.2 c.loop-i.i c.loop-i-test.true in
    omega (arith, lookup-lt ops c.loop-i.i asked)

pub lower_large-least-requires : goal.lower_large-least-requires
lower_large-least-requires c =
    let ops = c.args.ops.now in
    let asked = lookups-are ops c.args.n c.requires.1 c.requires.2 c.loop-i.i c.loop-i-test.true in
    omega (arith, mu-lt c.counter_of-c.result (omega (arith, lookup-lt ops c.loop-i.i asked)))

pub loop-i-preserved : goal.loop-i-preserved
loop-i-preserved c =
    let ops = c.args.ops.now in
    let l = c.loop-i in
    let asked = lookups-are ops c.args.n c.requires.1 c.requires.2 l.i c.loop-i-test.true in
    let e = c.lower_large-least.ensures ∙ ap (λ (k : ℕ). lower_large (word c.args.table.now k) c.counter_of-c.result l.least) c.mu_at.ensures in
    search-more ops (λ k. word c.args.table.now (mu_at k)) l.i l.invariant c.counter_of-c.ensures (omega (arith, lookup-lt ops l.i asked)) e

pub returns-then-least-lt-NUM_COUNTERS : goal.returns-then-least-lt-NUM_COUNTERS
returns-then-least-lt-NUM_COUNTERS c =
    let l = c.loop-i in
    search-at _ _ l.i l.least _ l.invariant (omega arith) c.loop-i-test.false c.if-least-lt-NUM_COUNTERS.true

pub returns : goal.returns
returns c =
    let l = c.loop-i in
    search-nowhere _ _ l.i l.least _ l.invariant (omega arith) c.loop-i-test.false c.if-least-lt-NUM_COUNTERS.false
