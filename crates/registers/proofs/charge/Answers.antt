-- `registers::charge` meets its contract: the checks, then both tables to the counters and their sums to the ledger.
use mathlib.Core.Path.{sym, subst, ◌∙◌}
use Prim.Native.Nat.{ℕ, ◌<◌}
use native.Mathlib.Omega.{arith}
use lib.ListN.{length}
use Rattle.lists.proofs.Laws.{word-row_at}
use Rattle.field.specs.Field.{p}
use Rattle.answer.proofs.Laws.{answers, kept, accepts, written, handed-on, is-refused, is-done}
use Rattle.segment_counts.specs.Segment.{list_charged}
use Rattle.segment_counts.proofs.Looking.{sums-charged}
use Rattle.registers.proofs.Accepted.{through-used, charge-known}
use Rattle.registers.proofs.Ledgers.{in-use-is, ledgers-put}
use Rattle.registers.proofs.charge.Goals as goal

pub returns-in_err-check_register : goal.returns-in_err-check_register
returns-in_err-check_register c =
    let found = is-refused _ (sym c.in_err-check_register.was ∙ c.check_register.ensures) in
    record { answer = handed-on _ c.from_residual.ensures.1 ∙ answers found; counted = kept _ _ found; added = kept _ _ found }

pub charge_segment-requires : goal.charge_segment-requires
charge_segment-requires c =
    (charge-known _ _ _ _ _ _ (is-done _ (sym c.in_ok-check_register.was ∙ c.check_register.ensures))).0

pub kind_sums-sums-requires : goal.kind_sums-sums-requires
kind_sums-sums-requires c =
    let x = c.args in
    let passed = is-done _ (sym c.in_ok-check_register.was ∙ c.check_register.ensures) in
    let k = (charge-known x.nr x.floor x.register x.ops.now x.counters.now x.ledgers.now passed).0 in
    (k.0, k.1, k.2)

pub overflow_mul-register : goal.overflow_mul-register
overflow_mul-register c =
    let x = c.args in
    let passed = is-done _ (sym c.in_ok-check_register.was ∙ c.check_register.ensures) in
    let used = through-used x.nr x.floor x.register x.ops.now x.counters.now x.ledgers.now passed in
    omega (arith, ((in-use-is (length x.ledgers.now) x.register).0 used).1)

pub charge_ledger-requires : goal.charge_ledger-requires
charge_ledger-requires c =
    let x = c.args in
    let passed = is-done _ (sym c.in_ok-check_register.was ∙ c.check_register.ensures) in
    let k = charge-known x.nr x.floor x.register x.ops.now x.counters.now x.ledgers.now passed in (
      omega (arith, k.1),
      λ j l. subst (λ (n : ℕ). n < p) (word-row_at 10 x.ledgers.now x.register j l) (k.2.below j l),
    )

pub returns : goal.returns
returns c =
    let x = c.args in
    let passed = is-done _ (sym c.in_ok-check_register.was ∙ c.check_register.ensures) in
    let few = (charge-known x.nr x.floor x.register x.ops.now x.counters.now x.ledgers.now passed).0.0 in
    record {
      answer = accepts passed;
      counted = written _ passed c.charge_segment.ensures;
      added = written _ passed
          (ledgers-put x.register x.ledgers.now _ c.kind_sums-sums.result (list_charged x.nr x.floor x.shipped x.ops.now) c.charge_ledger.ensures
          (sums-charged x.nr x.floor few x.shipped x.ops.now (λ n. (c.type_inv.ops n).fits) c.kind_sums-sums.result c.kind_sums-sums.ensures));
    }
