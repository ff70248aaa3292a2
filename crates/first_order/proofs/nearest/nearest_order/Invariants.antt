-- `nearest_order` meets its contract. The loop's invariant: the first k places of x are the node so far, from which the nearest-stop
-- order goes on (`Underway`).
use lib.ListN.{length, take}
use Rattle.stops.specs.Legs.{legs}
use Rattle.pairs.specs.Code.{pairs_in}
use Rattle.first_order.proofs.NearestLaws.{Underway}
use Rattle.first_order.proofs.nearest.nearest_order.Given as goal

abbrev pub invariant-loop-k : goal.invariant-loop-k
invariant-loop-k l = Underway (length l.initial.x) (legs l.t) (pairs_in l.precedence) (take l.k l.x) l.k l.place l.rest
