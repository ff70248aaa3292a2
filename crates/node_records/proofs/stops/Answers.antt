-- `stops` meets its contract: the stops of what is read go by its size and its order.
use mathlib.Core.Path.{refl}
use Rattle.inspection.specs.Code.{of_four}
use Rattle.node_answers.specs.Nodes.{flown_stops}
use Rattle.node_answers.specs.Answers.{found, flown_at}
use Rattle.node_records.proofs.stops.Goals as goal

pub returns : goal.returns
unfolding found flown_at of_four flown_stops
returns c = rw (c.flown_of.ensures, c.read-r.ensures) refl
