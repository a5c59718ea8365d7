use mathlib.Core.Path.{◌≡◌, refl, ap, ◌∙◌}
use mathlib.Core.List.{List}
use Prim.Native.Nat.{ℕ}
use native.Mathlib.Omega.{arith}
use Rattle.lists.specs.Tab.{word}
use Rattle.bitwise.specs.Counters.{charge}
use Rattle.bitwise.specs.Lookups.{charge_each, lookup_counter}
use Rattle.bitwise.proofs.Lookups.{lookups-are, lookup-lt, each_more}
use Rattle.bitwise_operations.proofs.Charging.{may-charge, still-below}
use Rattle.bitwise_operations.proofs.counted.add_lookups.Goals as goal

pub loop-i-init : goal.loop-i-init
unfolding charge_each
loop-i-init c = refl

pub counter_of-at-requires : goal.counter_of-at-requires
counter_of-at-requires c = (omega arith, lookups-are c.args.ops.now c.args.n c.requires.1 c.requires.2 c.loop-i.i c.loop-i-test.true)

pub charge_word-requires : goal.charge_word-requires
charge_word-requires c =
    let l = c.loop-i in
    let ops = c.args.ops.now in
    let first = c.args.counters.now in
    let e = c.counter_of-at.ensures in
    let b = lookup-lt ops l.i (lookups-are ops c.args.n c.requires.1 c.requires.2 l.i c.loop-i-test.true) in
    let h = may-charge ops (word first) c.args.n c.requires.1 c.requires.2 c.requires.4 l.i c.loop-i-test.true in
    (omega arith, rw e (still-below (lookup_counter ops) l.i first l.invariant (omega arith) h))

pub loop-i-preserved : goal.loop-i-preserved
loop-i-preserved c =
    let l = c.loop-i in
    let at = lookup_counter c.args.ops.now in
    c.charge_word.ensures ∙ ap (λ (k : ℕ). charge l.counters k 1) c.counter_of-at.ensures
    ∙ ap (λ (r : List ℕ). charge r (at l.i) 1) l.invariant ∙ each_more at l.i c.args.counters.now

pub returns : goal.returns
returns c =
    let l = c.loop-i in
    let e : l.i ≡ c.args.n = omega arith in
    l.invariant ∙ ap (λ (k : ℕ). charge_each (lookup_counter c.args.ops.now) k c.args.counters.now) e
