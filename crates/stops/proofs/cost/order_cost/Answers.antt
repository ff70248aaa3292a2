-- The goals of `cost::order_cost` that the search leaves.
use Prim.Native.Nat.{◌*◌, ◌≤◌}
use native.Mathlib.Omega.{arith}
use Rattle.sizes.specs.Sizes.{most_stops, places, dearest}
use Rattle.lists.proofs.Elements.{get_or_small}
use Rattle.stops.specs.Legs.{legs, cost}
use Rattle.stops.proofs.Paths.{cost_small, spent_none, spent_more, spent_whole}
use Rattle.stops.proofs.cost.order_cost.Goals as goal
use Rattle.stops.proofs.cost.order_cost.Goals.{After-from-s, Start}

-- the next stop is a place
near : (c : After-from-s) → c.from-s.result ≤ most_stops
near c = rw c.from-s.ensures (get_or_small most_stops _ c.requires.near _)

-- the cost is small
most : (c : Start) → cost (legs c.args.t.now) c.args.x.now ≤ places * dearest
most c = omega (arith, cost_small dearest (legs c.args.t.now) c.requires.cheap c.args.x.now, c.requires.few)

pub loop-s-preserved : goal.loop-s-preserved
unfolding legs
loop-s-preserved c =
    (near (goal.at.loop-s-preserved c).After-from-s, rw (c.leg-sum.ensures, c.from-s.ensures) (spent_more c.loop-s.invariant.1 c.loop-s-test.true))

pub returns : goal.returns
unfolding legs
returns c = rw c.leg.ensures (spent_whole c.loop-s.invariant.1 c.loop-s-test.false)

pub loop-s-init : goal.loop-s-init
loop-s-init c = (omega arith, spent_none)

pub leg-sum-requires : goal.leg-sum-requires
leg-sum-requires c = (c.loop-s.invariant.0, near (goal.at.leg-sum-requires c).After-from-s)

pub overflow_add-sum : goal.overflow_add-sum
overflow_add-sum c = omega (arith, (loop-s-preserved c).1.same, most (goal.at.overflow_add-sum c).Start)

pub overflow_add-result : goal.overflow_add-result
overflow_add-result c = omega (arith, returns c, most (goal.at.overflow_add-result c).Start)
