-- `stops::bound::remainder` meets its contract. The loop's invariant: the sum so far and the cheapest legs into the stops left make the
-- remainder, and the stops left are of the set. The remainder is at most the dearest cost for each place, so no sum on the way wraps.
use Rattle.stops.specs.Legs.{legs}
use Rattle.stops.specs.Bounds.{cheapest_into, remainder}
use Rattle.stops.specs.Code.{stops_in}
use Rattle.stops.proofs.SetLoops.{Summed}
use Rattle.stops.proofs.bound.remainder.Given as goal

abbrev pub invariant-loop-s : goal.invariant-loop-s
invariant-loop-s l =
    Summed (cheapest_into (legs l.t) l.place (stops_in l.rest)) l.rest (remainder (legs l.t) l.place (stops_in l.rest)) l.sum l.s-iterator.left
