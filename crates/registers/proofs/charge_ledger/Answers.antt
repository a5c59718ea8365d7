use mathlib.Core.Path.{sym, subst}
use Prim.Native.Nat.{ℕ, ◌<◌}
use native.Mathlib.Omega.{arith}
use Rattle.lists.proofs.Laws.{filled_none, filled-all}
use Rattle.field.specs.Field.{p}
use Rattle.registers.proofs.Ledgers.{ledger-left, ledger-turn}
use Rattle.registers.proofs.charge_ledger.Goals as goal

pub loop-k-init : goal.loop-k-init
loop-k-init c = filled_none _ _ _ _

pub charge_word-requires : goal.charge_word-requires
charge_word-requires c =
    let i = c.loop-k.invariant in
    let same = ledger-left c.args.words.now c.args.at c.args.sums i in (
      omega (arith, c.requires.0, i.long, c.loop-k-test.true),
      subst (λ (n : ℕ). n < p) (sym same) (c.requires.1 _ c.loop-k-test.true),
    )

pub loop-k-preserved : goal.loop-k-preserved
loop-k-preserved c =
    ledger-turn c.args.words.now c.args.at c.args.sums c.loop-k.invariant c.loop-k-test.true c.charge_word.ensures

pub returns : goal.returns
returns c = filled-all c.loop-k.invariant c.loop-k-test.false
