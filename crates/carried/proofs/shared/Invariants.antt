-- `carried::shared` meets its contract. The loop's invariant: the total and the legs into the stops left make the family's sum, and the legs home of
-- the stops passed are noted.
use Rattle.lists.specs.Lists.{sum}
use Rattle.stops.specs.Legs.{legs}
use Rattle.stops.specs.Code.{stops_in}
use Rattle.stops.proofs.SetLoops.{Summed}
use Rattle.carried.specs.Carried.{among}
use Rattle.carried.proofs.HomeLaws.{Homed}
use Rattle.carried.proofs.shared.Given as goal

abbrev pub invariant-loop-s : goal.invariant-loop-s
invariant-loop-s l =
    Summed (among (legs l.t) (stops_in l.rest)) l.rest (sum (among (legs l.t) (stops_in l.rest)) (stops_in l.rest)) l.total l.s-iterator.left
    × Homed (legs l.t).home l.rest l.homes l.s-iterator.left
