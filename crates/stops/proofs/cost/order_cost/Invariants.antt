-- `stops::cost::order_cost` meets its contract. The loop's invariant: `Spent`, and that it has got to one of the places. No sum on the way
-- is above the cost, which is at most the dearest for each place, so none wraps.
use Prim.Native.Nat.{◌≤◌}
use Rattle.sizes.specs.Sizes.{most_stops}
use Rattle.stops.specs.Legs.{legs}
use Rattle.stops.proofs.Paths.{Spent}
use Rattle.stops.proofs.cost.order_cost.Given as goal

abbrev pub invariant-loop-s : goal.invariant-loop-s
invariant-loop-s l = (l.place ≤ most_stops) × Spent (legs l.t) l.x l.sum l.place l.s-index
