-- `stops::bound::ends_away` meets its contract.
use mathlib.Core.Path.{refl}
use Rattle.stops.specs.Bounds.{ends_away}
use Rattle.stops.proofs.bound.ends_away.Goals as goal

pub returns : goal.returns
unfolding ends_away
returns c = refl
