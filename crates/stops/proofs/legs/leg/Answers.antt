-- `stops::legs::leg` meets its contract.
use mathlib.Core.Path.{refl}
use Rattle.stops.specs.Legs.{row_leg}
use Rattle.stops.proofs.legs.leg.Goals as goal

pub returns : goal.returns
unfolding row_leg
returns c = refl
