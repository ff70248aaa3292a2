-- The goals of `order::stops_of` that the search leaves.
use mathlib.Core.Path.{refl}
use native.Mathlib.Omega.{arith}
use Rattle.lists.specs.Lists.{padded}
use Rattle.records.proofs.OrderStops.{stops_more}
use Rattle.records.proofs.order.stops_of.Goals as goal

pub loop-k-init : goal.loop-k-init
unfolding padded
loop-k-init c = refl

pub loop-k-preserved : goal.loop-k-preserved
loop-k-preserved c =
    let l = c.loop-k in
    rw (c.stop_at.ensures.0, l.invariant) (stops_more _ _ l.k (omega arith))
