use mathlib.Core.Path.{◌≡◌, ap, ◌∙◌}
use mathlib.Core.List.{List}
use Prim.Native.Nat.{ℕ, ◌+◌, ◌≤◌, ◌<◌}
use native.Mathlib.Nat.{le_refl}
use native.Mathlib.Omega.{arith}
use lib.ListN.{length, set}
use Rattle.lists.specs.Tab.{tab, word}
use Rattle.lists.proofs.Laws.{Filled, filled_none, filled_next, filled-all, length-tab}
use Rattle.lists.proofs.Kept.{filled-past}
use Rattle.field.specs.Field.{fadd}
use Rattle.field.proofs.NotElement.{all-elements}
use Rattle.answer.proofs.Laws.{sets-overwrite}
use Rattle.bitwise.specs.Counters.{merged}
use Rattle.bitwise_counts.proofs.histogram.add_counters.Goals as goal

-- a turn: the counter is still the one at entry
turn : (l other : List ℕ) {row : List ℕ} {k v : ℕ} → Filled l 0 10485760 (λ j. fadd (word l j) (word other j)) row k → k < 10485760 → k ≤ length l
    → v ≡ fadd (word row k) (word other k) → Filled l 0 10485760 (λ j. fadd (word l j) (word other j)) (set row k v) (k + 1)
turn l other {k = k} {v} h b c e = filled_next v h b (e ∙ ap (λ (n : ℕ). fadd n (word other k)) (filled-past h c k (le_refl k)))

summed : (l other : List ℕ) {row : List ℕ} {k : ℕ} → Filled l 0 10485760 (λ j. fadd (word l j) (word other j)) row k → 10485760 ≤ length l → 10485760 ≤ k
    → row ≡ merged l other
unfolding merged
summed l other h b c =
    filled-all h c
    ∙ sets-overwrite l (tab 10485760 (λ j. fadd (word l j) (word other j))) (omega (arith, length-tab 10485760 (λ j. fadd (word l j) (word other j)), b))

pub loop-k-init : goal.loop-k-init
loop-k-init c = filled_none _ _ _ _

pub sum-requires : goal.sum-requires
sum-requires c =
    let l = c.loop-k in
    let k = l.k in
    let b : k < 10485760 = c.loop-k-test.true in
    let same = filled-past l.invariant (omega arith) k (le_refl k) in (
      omega (arith, same, all-elements c.args.counters.now 10485760 c.requires.2 k b),
      all-elements c.args.other.now 10485760 c.requires.3 k b,
    )

pub loop-k-preserved : goal.loop-k-preserved
loop-k-preserved c =
    let l = c.loop-k in
    let a = c.args in
    turn a.counters.now a.other.now l.invariant c.loop-k-test.true (omega arith) c.sum.ensures

pub returns : goal.returns
returns c =
    summed c.args.counters.now c.args.other.now c.loop-k.invariant c.requires.0 c.loop-k-test.false
