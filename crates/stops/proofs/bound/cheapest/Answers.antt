-- The goals of `bound::cheapest` that the search leaves.
use Rattle.stops.specs.Legs.{row_leg}
use Rattle.stops.proofs.SetLoops.{lowered_starts, lowered_ends}
use Rattle.stops.proofs.bound.cheapest.Goals as goal

pub loop-s-init : goal.loop-s-init
loop-s-init c =
    let a = c.args in
    let o = c.next.ensures in
    rw (c.into_iter-s-iterator.ensures.into_iter_gives, c.stops_of-s-items.ensures, c.leg-least.ensures)
    (lowered_starts (λ s. row_leg a.t.now s a.to) a.stops c.next.result c.later.result c.requires.1.0 o (c.later.ensures _ o))

pub returns : goal.returns
returns c = lowered_ends c.loop-s.invariant c.in-None.ensures.steps
