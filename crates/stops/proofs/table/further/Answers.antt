-- `stops::table::further` meets its contract: what a stop adds is what flying there costs.
use Rattle.stops.specs.Legs.{legs}
use Rattle.stops.specs.Code.{reckoning, reckon_on}
use Rattle.stops.proofs.table.further.Goals as goal

pub returns : goal.returns
unfolding reckon_on reckoning legs
returns c = c.leg.ensures
