-- `is_wh_counts::collect_bitwise_from_is_wh` meets its contract: the checks, then the rows, then the padding (Refusals.antt).
use mathlib.Core.Path.{refl, sym, ◌∙◌}
use Prim.Native.Nat.{◌/◌}
use native.Mathlib.Omega.{arith}
use lib.ListN.{length}
use Rattle.answer.proofs.Laws.{is-refused, is-done, handed-on}
use Rattle.keccak.proofs.Height.{height-ge}
use Rattle.is_wh_counts.proofs.Refusals.{collect-passed, collect-refused, none_done, rows-below, padding-charge, rows-done}
use Rattle.is_wh_counts.proofs.collect_bitwise_from_is_wh.Goals as goal

pub returns-in_err-check_collect : goal.returns-in_err-check_collect
returns-in_err-check_collect c =
    let a = collect-refused _ _ (is-refused _ (sym c.in_err-check_collect.was ∙ c.check_collect.ensures)) in
    record { answer = handed-on _ c.from_residual.ensures.1 ∙ a.0; counters = a.1 }

pub returns-then-n-eq0 : goal.returns-then-n-eq0
returns-then-n-eq0 c =
    let a = none_done _ _ (is-done _ (sym c.in_ok-check_collect.was ∙ c.check_collect.ensures)) c.if-n-eq0.true in
    record { answer = a.0; counters = a.1 }

pub charge_rows-requires : goal.charge_rows-requires
charge_rows-requires c =
    let ok = is-done _ (sym c.in_ok-check_collect.was ∙ c.check_collect.ensures) in
    let a = collect-passed _ _ ok in
    (a.1.long, rows-below _ _ ok c.if-n-eq0.false, a.0, refl)

pub overflow_sub-h : goal.overflow_sub-h
overflow_sub-h c = omega (arith, c.table_height-h.ensures, height-ge 4 (length c.args.rows.now / 3))

pub charge_some-requires : goal.charge_some-requires
charge_some-requires c =
    let a = padding-charge _ _ (is-done _ (sym c.in_ok-check_collect.was ∙ c.check_collect.ensures)) c.if-n-eq0.false c.table_height-h.ensures c.charge_rows.ensures in
    (a.0, λ q. a.1 (omega (arith, q)))

pub returns : goal.returns
returns c =
    let a = rows-done _ _ (is-done _ (sym c.in_ok-check_collect.was ∙ c.check_collect.ensures)) c.if-n-eq0.false c.table_height-h.ensures c.charge_rows.ensures c.charge_some.ensures in
    record { answer = a.0; counters = a.1 }
