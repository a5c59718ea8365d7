-- `put_line` meets its contract: one case after the other.
use mathlib.Core.Path.{sym, subst, ◌∙◌}
use native.Mathlib.Omega.{arith}
use Rattle.verdict_line.specs.Line.{Judged}
use Rattle.verdict_line.proofs.Most.{lookup-named, unbalanced-named}
use Rattle.verdict_line.proofs.Shows.{value_line, repeated-line, lookup-line, balance-line, holds-line, shows, shows-refused}
use Rattle.verdict_line.proofs.put_line.Goals as goal

pub put_failure-requires : goal.put_failure-requires
put_failure-requires c = let e = c.in-Lookup.is in (lookup-named _ _ _ _ _ _ (sym (c.requires.0 (subst Judged (sym e) tt)) ∙ e), omega arith, c.requires.1)

pub put_failure-requires-in-Unbalanced : goal.put_failure-requires-in-Unbalanced
put_failure-requires-in-Unbalanced c = let e = c.in-Unbalanced.is in (unbalanced-named _ _ _ _ _ _ (sym (c.requires.0 (subst Judged (sym e) tt)) ∙ e), omega arith, c.requires.1)

pub returns-in-Value : goal.returns-in-Value
returns-in-Value c =
    let t = shows _ _ _ _ _ _ _ _ _ c.in-Value.is tt (value_line _ _ _ _ _ _) c.put_place.ensures.0 (omega (arith, c.put_place.ensures.1)) in
    record { answer = t.0; bytes = t.1.0; most = t.1.1 }

pub returns-in-Repeated : goal.returns-in-Repeated
returns-in-Repeated c =
    let t = shows _ _ _ _ _ _ _ _ _ c.in-Repeated.is tt (repeated-line _ _ _ _) c.put_place-in-Repeated.ensures.0 (omega (arith, c.put_place-in-Repeated.ensures.1)) in
    record { answer = t.0; bytes = t.1.0; most = t.1.1 }

pub returns-in-Lookup : goal.returns-in-Lookup
returns-in-Lookup c =
    let t = shows _ _ _ _ _ _ _ _ _ c.in-Lookup.is tt (lookup-line _ _ _ _ _ _) c.put_failure.ensures.0 (omega (arith, c.put_failure.ensures.1)) in
    record { answer = t.0; bytes = t.1.0; most = t.1.1 }

pub returns-in-Unbalanced : goal.returns-in-Unbalanced
returns-in-Unbalanced c =
    let t = shows _ _ _ _ _ _ _ _ _ c.in-Unbalanced.is tt (balance-line _ _ _ _ _ _) c.put_failure-in-Unbalanced.ensures.0 (omega (arith, c.put_failure-in-Unbalanced.ensures.1)) in
    record { answer = t.0; bytes = t.1.0; most = t.1.1 }

pub returns-in-Holds : goal.returns-in-Holds
returns-in-Holds c =
    let t = shows _ _ _ _ _ _ _ _ _ c.in-Holds.is tt (holds-line _ _ _ _) c.put_holds.ensures.0 (omega (arith, c.put_holds.ensures.1)) in
    record { answer = t.0; bytes = t.1.0; most = t.1.1 }

pub returns-in-Refused : goal.returns-in-Refused
returns-in-Refused c =
    let t = shows-refused _ _ _ _ _ _ c.in-Refused.is in
    record { answer = t.0; bytes = t.1.0; most = t.1.1 }
