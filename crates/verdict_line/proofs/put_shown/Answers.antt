-- `put_shown` meets its contract: the tuple is evaluated, then its bus and values are written.
use Prim.Native.Nat.{◌≤◌}
use mathlib.Core.Path.{ap}
use mathlib.Core.List.{◌∷◌, map}
use native.Mathlib.Omega.{arith}
use lib.ListN.{length}
use Rattle.text.specs.Text.{decimal_of, spaced}
use Rattle.text.specs.Names.{bus_name}
use Rattle.text.proofs.Laws.{puts-as, puts-long}
use Rattle.text.proofs.Words.{puts-spaced}
use Rattle.tuple.specs.declared.BusInteraction.{BusInteraction}
use Rattle.verdict_line.specs.Line.{shown_words}
use Rattle.verdict_line.proofs.Most.{named-fits}
use Rattle.verdict_line.proofs.Shows.{taken}
use Rattle.verdict_line.proofs.put_shown.Goals as goal

pub put_values-requires : goal.put_values-requires
put_values-requires c =
    let e = c.tuple_at-tuple in
    let b = c.put_bus-end.ensures in
    let n : e.result.length ≤ 203 = omega (arith, ap (λ (x : BusInteraction). x.length) e.ensures.answer, (named-fits c.args.nr _ _ _ _ _ c.requires.0).few) in
    ((taken _ _ (ap (λ (x : BusInteraction). x.length) e.ensures.answer) e.ensures.words).0, omega (arith, n, b.1, c.requires.1, puts-long b.0))

pub returns : goal.returns
unfolding shown_words
returns c =
    let e = c.tuple_at-tuple in
    let b = c.put_bus-end.ensures in
    let v = c.put_values.ensures in
    let n : e.result.length ≤ 203 = omega (arith, ap (λ (x : BusInteraction). x.length) e.ensures.answer, (named-fits c.args.nr _ _ _ _ _ c.requires.0).few) in
    let q = (taken _ _ (ap (λ (x : BusInteraction). x.length) e.ensures.answer) e.ensures.words).1 in
    (puts-as (puts-spaced _ _ b.0 v.0) (λ t. spaced (bus_name (e.ensures.answer t).bus ∷ map decimal_of (q t))), omega (arith, n, b.1, v.1))
