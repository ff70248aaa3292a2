-- `stops::bound::cheapest` meets its contract. The loop's invariant: the least of what it has and of the legs from the stops left is the
-- cheapest leg.
use Rattle.lists.specs.Lists.{least}
use Rattle.stops.specs.Legs.{row_leg}
use Rattle.stops.specs.Code.{stops_in}
use Rattle.stops.proofs.SetLoops.{Lowered}
use Rattle.stops.proofs.bound.cheapest.Given as goal

abbrev pub invariant-loop-s : goal.invariant-loop-s
invariant-loop-s l = Lowered (λ s. row_leg l.t s l.to) (least (λ s. row_leg l.t s l.to) (stops_in l.stops)) l.least l.s-iterator.left
