-- `registers::beforehand::fill_register_look` meets its contract: the twenty words, the ledger behind them, and its charge (Looking.antt).
use mathlib.Core.Path.{sym, subst, ◌∙◌}
use Prim.Native.Nat.{ℕ, ◌<◌}
use native.Mathlib.Omega.{arith}
use Rattle.lists.proofs.Laws.{word-row_at}
use Rattle.field.specs.Field.{p}
use Rattle.segment_counts.specs.Segment.{list_charged}
use Rattle.segment_counts.proofs.Looking.{sums-charged}
use Rattle.registers.proofs.Looking.{copied-long, copied-word, look-put}
use Rattle.registers.proofs.beforehand.fill_register_look.Goals as goal

pub put_part-requires : goal.put_part-requires
put_part-requires c = (omega arith, omega arith)

pub charge_ledger-requires : goal.charge_ledger-requires
charge_ledger-requires c =
    let x = c.args in
    let f = list_charged x.nr x.floor x.shipped x.ops.now in (
      copied-long x.register x.counters.now x.ledgers.now f x.out.now c.requires.6 _ c.fill_look.ensures.words _ c.put_part.ensures,
      λ k b.
          subst (λ (n : ℕ). n < p)
          (word-row_at 10 x.ledgers.now x.register k b
          ∙ sym (copied-word x.register x.counters.now x.ledgers.now f x.out.now c.requires.6 _ c.fill_look.ensures.words _ c.put_part.ensures k b))
          (c.requires.8.below k b),
    )

pub returns : goal.returns
returns c =
    let x = c.args in
    let f = list_charged x.nr x.floor x.shipped x.ops.now in
    record {
      copied = c.fill_look.ensures.copied;
      words = look-put x.register x.counters.now x.ledgers.now f x.out.now c.requires.6 _ c.fill_look.ensures.words _ c.put_part.ensures c.kind_sums-sums.result
          (sums-charged x.nr x.floor c.requires.0 x.shipped x.ops.now (λ n. (c.type_inv.ops n).fits) c.kind_sums-sums.result c.kind_sums-sums.ensures) _
          c.charge_ledger.ensures;
    }
