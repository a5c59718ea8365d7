-- `spaced::names` meets its contract: each bus's ten bytes begin with its name.
use mathlib.Core.Path.{refl}
use Rattle.text.proofs.Buses.{every-bus}
use Rattle.text.proofs.spaced.names.Goals as goal

pub returns : goal.returns
returns c = (refl, every-bus _ refl refl refl refl refl refl refl refl refl refl refl refl refl)
