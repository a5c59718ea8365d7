-- `field::elements::first_not_element` meets its contract: what the OR shows, or else the scan.
use mathlib.Core.Path.{sym, ap}
use Rattle.lists.specs.First.{place_of}
use Rattle.field.proofs.elements.first_not_element.Goals as goal

pub returns-then-joined-lt-P : goal.returns-then-joined-lt-P
returns-then-joined-lt-P c = sym (ap place_of (c.joined.ensures c.if-joined-lt-P.true))
