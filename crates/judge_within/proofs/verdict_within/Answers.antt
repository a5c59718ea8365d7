-- `judge_within::verdict_within` meets its contract: the checks, then the stages, then zeros (Within.antt).
use mathlib.Core.Path.{sym, ◌∙◌}
use Prim.Native.Nat.{◌≤◌}
use native.Mathlib.Omega.{arith}
use lib.ListN.{length}
use lib.Seq.{length-take-le}
use Rattle.answer.proofs.Laws.{is-refused, is-done}
use Rattle.judge_within.proofs.Within.{all-passed, within-refused, within-passed, front-room, after-zeros, after-refused}
use Rattle.judge_within.proofs.verdict_within.Goals as goal

pub returns-in-Err : goal.returns-in-Err
returns-in-Err c =
    let a = c.args in
    let e = is-refused _ (sym c.in-Err.is ∙ c.check_within.ensures) in
    record { verdict = within-refused _ _ _ _ _ e; scratch = after-refused a.nr a.core.now a.round.now a.scratch.now _ _ e; spare = after-refused a.nr a.core.now a.round.now a.spare.now _ _ e }

pub slice_bounds-from_core_value-end : goal.slice_bounds-from_core_value-end
slice_bounds-from_core_value-end c =
    let h = all-passed _ _ _ _ _ (is-done _ (sym c.in_default.is ∙ c.check_within.ensures)) in omega (arith, c.place_count-n.ensures, h.room)

pub slice_bounds-from_core_value-end-2 : goal.slice_bounds-from_core_value-end-2
slice_bounds-from_core_value-end-2 c =
    let h = all-passed _ _ _ _ _ (is-done _ (sym c.in_default.is ∙ c.check_within.ensures)) in
    sym (length-take-le _ _ (omega (arith, c.place_count-n.ensures, h.room)))

pub slice_bounds-from_core_value-end-3 : goal.slice_bounds-from_core_value-end-3
slice_bounds-from_core_value-end-3 c =
    let h = all-passed _ _ _ _ _ (is-done _ (sym c.in_default.is ∙ c.check_within.ensures)) in omega (arith, c.place_count-n.ensures, h.spare-room)

pub slice_bounds-from_core_value-end-4 : goal.slice_bounds-from_core_value-end-4
slice_bounds-from_core_value-end-4 c =
    let h = all-passed _ _ _ _ _ (is-done _ (sym c.in_default.is ∙ c.check_within.ensures)) in
    sym (length-take-le _ _ (omega (arith, c.place_count-n.ensures, h.spare-room)))

pub from_core_value-v-requires : goal.from_core_value-v-requires
from_core_value-v-requires c =
    let h = all-passed _ _ _ _ _ (is-done _ (sym c.in_default.is ∙ c.check_within.ensures)) in
    let e = c.place_count-n.ensures in
    let n = c.place_count-n.result in
    let l : n ≤ length c.args.scratch.now = omega (arith, e, h.room) in
    let m : n ≤ length c.args.spare.now = omega (arith, e, h.spare-room) in
    (h.core-elements, h.round-elements, omega (arith, e, length-take-le n c.args.scratch.now l), omega (arith, e, length-take-le n c.args.spare.now m))

pub put_zeros-requires : goal.put_zeros-requires
put_zeros-requires c =
    let h = all-passed _ _ _ _ _ (is-done _ (sym c.in_default.is ∙ c.check_within.ensures)) in
    front-room _ c.from_core_value-v.new.scratch _ (omega (arith, c.place_count-n.ensures, h.room)) c.from_core_value-v.auto.scratch

pub put_zeros-requires-2 : goal.put_zeros-requires-2
put_zeros-requires-2 c =
    let h = all-passed _ _ _ _ _ (is-done _ (sym c.in_default.is ∙ c.check_within.ensures)) in
    front-room _ c.from_core_value-v.new.spare _ (omega (arith, c.place_count-n.ensures, h.spare-room)) c.from_core_value-v.auto.spare

pub returns : goal.returns
returns c =
    let e = is-done _ (sym c.in_default.is ∙ c.check_within.ensures) in
    let h = all-passed _ _ _ _ _ e in
    let q = c.place_count-n.ensures in
    record {
      verdict = c.from_core_value-v.ensures ∙ within-passed _ _ _ _ _ e;
      scratch =
          after-zeros _ _ _ _ c.from_core_value-v.new.scratch _ _ _ _ e q (omega (arith, q, h.room)) c.from_core_value-v.auto.scratch
          c.put_zeros.ensures;
      spare =
          after-zeros _ _ _ _ c.from_core_value-v.new.spare _ _ _ _ e q (omega (arith, q, h.spare-room)) c.from_core_value-v.auto.spare
          c.put_zeros-2.ensures;
    }
