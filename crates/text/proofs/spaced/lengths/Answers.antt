-- `spaced::lengths` meets its contract: bus by bus, how long its name is.
use mathlib.Core.Path.{refl}
use Rattle.text.proofs.Buses.{every-bus}
use Rattle.text.proofs.spaced.lengths.Goals as goal

pub returns : goal.returns
returns c = (refl, every-bus _ refl refl refl refl refl refl refl refl refl refl refl refl refl)
