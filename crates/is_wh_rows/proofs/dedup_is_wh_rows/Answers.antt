-- `is_wh_rows::dedup_is_wh_rows` meets its contract: the checks, then the rows (Answers.antt).
use mathlib.Core.Path.{sym, ◌∙◌}
use native.Mathlib.Omega.{arith}
use Rattle.answer.proofs.Laws.{is-refused, is-done, handed-on}
use Rattle.is_wh_rows.proofs.Refusals.{dedup-passed}
use Rattle.is_wh_rows.proofs.Answers.{keys-refused, front_fits, front_long, front-asked, rows-done}
use Rattle.is_wh_rows.proofs.dedup_is_wh_rows.Goals as goal

pub returns-in_err-check_keys : goal.returns-in_err-check_keys
returns-in_err-check_keys c =
    let a = keys-refused _ _ _ _ (is-refused _ (sym c.in_err-check_keys.was ∙ c.check_keys.ensures)) in
    record { answer = handed-on _ c.from_residual.ensures.1 ∙ a.0; codes = a.1.0; spare = a.1.1.0; rows = a.1.1.1 }

pub sort_loads-m-requires : goal.sort_loads-m-requires
sort_loads-m-requires c =
    let a = dedup-passed _ _ _ _ (is-done _ (sym c.in_ok-check_keys.was ∙ c.check_keys.ensures)) in
    (a.0.codes-long, a.0.spare-long, a.1)

pub slice_bounds-put_rows-end : goal.slice_bounds-put_rows-end
slice_bounds-put_rows-end c =
    let s = c.sort_loads-m.ensures in
    omega (arith, front_fits c.args.keys.now _ _ c.args.rows.now (is-done _ (sym c.in_ok-check_keys.was ∙ c.check_keys.ensures)) _ _ _ s.number s.loads s.spare, c.sort_loads-m.auto.out)

pub slice_bounds-put_rows-end-2 : goal.slice_bounds-put_rows-end-2
slice_bounds-put_rows-end-2 c =
    let s = c.sort_loads-m.ensures in
    front_long c.args.keys.now _ _ c.args.rows.now (is-done _ (sym c.in_ok-check_keys.was ∙ c.check_keys.ensures)) _ _ _ s.number s.loads s.spare

pub put_rows-count-requires : goal.put_rows-count-requires
put_rows-count-requires c =
    let s = c.sort_loads-m.ensures in
    front-asked c.args.keys.now _ _ _ (is-done _ (sym c.in_ok-check_keys.was ∙ c.check_keys.ensures)) _ _ _ s.number s.loads s.spare

pub returns : goal.returns
returns c =
    let s = c.sort_loads-m.ensures in
    let a = rows-done _ _ _ _ (is-done _ (sym c.in_ok-check_keys.was ∙ c.check_keys.ensures)) _ _ _ s.number s.loads s.spare c.put_rows-count.ensures.number c.put_rows-count.ensures.words in
    record { answer = a.0; codes = a.1.0; spare = a.1.1.0; rows = a.1.1.1 }
