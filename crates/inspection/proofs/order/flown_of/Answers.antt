-- `order::flown_of` meets its contract: the stops of at most sixteen places are the record's.
use mathlib.Core.Path.{refl}
use Rattle.inspection.specs.Code.{of_four}
use Rattle.node_answers.specs.Nodes.{flown_stops}
use Rattle.node_answers.specs.Answers.{flown_at}
use Rattle.inspection.proofs.order.flown_of.Goals as goal

pub returns : goal.returns
unfolding flown_at flown_stops of_four
returns c = rw (c.stops_of-stops.ensures, c.places.ensures) refl
