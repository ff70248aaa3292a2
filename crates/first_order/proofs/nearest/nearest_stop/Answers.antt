-- The goals of `nearest::nearest_stop` that the search leaves.
use Rattle.first_order.proofs.NearestLaws.{found-ends}
use Rattle.first_order.proofs.nearest.nearest_stop.Goals as goal

pub returns : goal.returns
returns c = found-ends c.loop-s.invariant c.in-None.ensures.steps
