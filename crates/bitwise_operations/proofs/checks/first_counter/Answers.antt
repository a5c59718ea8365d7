use native.Mathlib.Omega.{arith}
use Rattle.lists.specs.Tab.{word}
use Rattle.bitwise.proofs.Lookups.{lookups-are, lookup-lt}
use Rattle.bitwise_operations.proofs.Charging.{search-start, search-more, search-at, search-nowhere}
use Rattle.bitwise_operations.proofs.checks.first_counter.Goals as goal

pub loop-i-init : goal.loop-i-init
loop-i-init c = search-start _ _

pub counter_of-c-requires : goal.counter_of-c-requires
counter_of-c-requires c = (omega arith, lookups-are c.args.ops.now c.args.n c.requires.1 c.requires.2 c.loop-i.i c.loop-i-test.true)

pub lower_large-least-requires : goal.lower_large-least-requires
lower_large-least-requires c =
    let ops = c.args.ops.now in
    let asked = lookups-are ops c.args.n c.requires.1 c.requires.2 c.loop-i.i c.loop-i-test.true in
    omega (arith, lookup-lt ops c.loop-i.i asked)

pub loop-i-preserved : goal.loop-i-preserved
loop-i-preserved c =
    let ops = c.args.ops.now in
    let l = c.loop-i in
    let asked = lookups-are ops c.args.n c.requires.1 c.requires.2 l.i c.loop-i-test.true in
    search-more ops (word c.args.counters.now) l.i l.invariant c.counter_of-c.ensures (omega (arith, lookup-lt ops l.i asked)) c.lower_large-least.ensures

pub returns-then-least-lt-NUM_COUNTERS : goal.returns-then-least-lt-NUM_COUNTERS
returns-then-least-lt-NUM_COUNTERS c =
    let l = c.loop-i in
    search-at _ _ l.i l.least _ l.invariant (omega arith) c.loop-i-test.false c.if-least-lt-NUM_COUNTERS.true

pub returns : goal.returns
returns c =
    let l = c.loop-i in
    search-nowhere _ _ l.i l.least _ l.invariant (omega arith) c.loop-i-test.false c.if-least-lt-NUM_COUNTERS.false
