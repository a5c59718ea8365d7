use mathlib.Core.Path.{◌≡◌, refl, ap, ◌∙◌}
use mathlib.Core.List.{List}
use Prim.Native.Nat.{ℕ}
use native.Mathlib.Omega.{arith}
use Rattle.lists.specs.Tab.{word}
use Rattle.bitwise.specs.Counters.{charge}
use Rattle.bitwise.specs.Lookups.{charge_each, lookup_counter, mu_at}
use Rattle.bitwise.proofs.Lookups.{lookups-are, lookup-lt, each_more, mu-lt}
use Rattle.bitwise_operations.proofs.Charging.{may-charge, still-below}
use Rattle.bitwise_operations.proofs.counted.update_lookups.Goals as goal

-- where lookup i is counted
abbrev place : List ℕ → ℕ → ℕ
place ops i = mu_at (lookup_counter ops i)

pub loop-i-init : goal.loop-i-init
unfolding charge_each
loop-i-init c = refl

pub counter_of-requires : goal.counter_of-requires
counter_of-requires c = (omega arith, lookups-are c.args.ops.now c.args.n c.requires.1 c.requires.2 c.loop-i.i c.loop-i-test.true)

pub mu_at-at-requires : goal.mu_at-at-requires
mu_at-at-requires c =
    let ops = c.args.ops.now in
    let asked = lookups-are ops c.args.n c.requires.1 c.requires.2 c.loop-i.i c.loop-i-test.true in
    omega (arith, lookup-lt ops c.loop-i.i asked)

pub charge_word-requires : goal.charge_word-requires
charge_word-requires c =
    let l = c.loop-i in
    let ops = c.args.ops.now in
    let first = c.args.table.now in
    let e = c.mu_at-at.ensures ∙ ap mu_at c.counter_of.ensures in
    let asked = lookups-are ops c.args.n c.requires.1 c.requires.2 l.i c.loop-i-test.true in
    let b = mu-lt (lookup_counter ops l.i) (lookup-lt ops l.i asked) in
    let h = may-charge ops (λ k. word first (mu_at k)) c.args.n c.requires.1 c.requires.2 c.requires.4 l.i c.loop-i-test.true in
    (omega arith, rw e (still-below (place ops) l.i first l.invariant (omega arith) h))

pub loop-i-preserved : goal.loop-i-preserved
loop-i-preserved c =
    let l = c.loop-i in
    let at = place c.args.ops.now in
    c.charge_word.ensures ∙ ap (λ (k : ℕ). charge l.table k 1) (c.mu_at-at.ensures ∙ ap mu_at c.counter_of.ensures)
    ∙ ap (λ (r : List ℕ). charge r (at l.i) 1) l.invariant ∙ each_more at l.i c.args.table.now

pub returns : goal.returns
returns c =
    let l = c.loop-i in
    let e : l.i ≡ c.args.n = omega arith in
    l.invariant ∙ ap (λ (k : ℕ). charge_each (place c.args.ops.now) k c.args.table.now) e
