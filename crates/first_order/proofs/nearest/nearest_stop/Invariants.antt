-- `nearest::nearest_stop` meets its contract. The loop's invariant: the nearest of what it has and of the stops left is the nearest of all
-- (`Found`).
use Rattle.stops.specs.Legs.{legs}
use Rattle.stops.specs.Code.{stops_in}
use Rattle.first_order.specs.Code.{nearest_in}
use Rattle.first_order.proofs.NearestLaws.{Found}
use Rattle.first_order.proofs.nearest.nearest_stop.Given as goal

abbrev pub invariant-loop-s : goal.invariant-loop-s
invariant-loop-s l = Found ((legs l.t).leg l.place) (nearest_in ((legs l.t).leg l.place) (stops_in l.rest)) l.found l.s-iterator.left
