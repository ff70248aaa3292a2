-- The goals of `nearest_order` that the search leaves.
use Prim.Native.Nat.{◌-◌, ◌*◌, ◌^◌, ◌%◌, ◌≤◌}
use mathlib.Core.Path.{◌≡◌}
use native.Mathlib.Numerals.{add-one}
use native.Mathlib.Omega.{arith}
use lib.ListN.{length}
use lib.Seq.{take-suc-set}
use Rattle.sizes.specs.Sizes.{most_stops}
use Rattle.lists.specs.Lists.{In}
use Rattle.stops.specs.Legs.{legs}
use Rattle.stops.specs.Code.{stops_in}
use Rattle.stops.proofs.SetBits.{all_small}
use Rattle.first_order.proofs.NearestLaws.{underway_starts, underway_some, underway_stop, underway_again}
use Rattle.first_order.proofs.nearest.nearest_order.Goals as goal
use Rattle.first_order.proofs.nearest.nearest_order.Goals.{After-nearest_stop-s}

pub loop-k-init : goal.loop-k-init
loop-k-init c =
    let a = c.args in
    let n = length a.x.now in
    let all : 1 * 2 ^ n % 2 ^ 32 - 1 ≡ 2 ^ n - 1 = omega (arith, all_small n c.requires.0) in
    rw all (underway_starts n (legs a.t.now) _ c.requires.0)

pub loop-k-preserved : goal.loop-k-preserved
loop-k-preserved c =
    let l = c.loop-k in
    rw (add-one, take-suc-set l.x l.k c.nearest_stop-s.result (omega arith))
    (underway_again l.invariant c.requires.1 c.loop-k-test.true c.ready-open.result c.ready-open.ensures.stops _ _ c.nearest_stop-s.ensures c.without-rest.ensures)

pub nearest_stop-s-requires : goal.nearest_stop-s-requires
nearest_stop-s-requires c =
    let u = c.loop-k.invariant in
    (u.inside, (underway_some u c.requires.1 c.loop-k-test.true c.ready-open.result c.ready-open.ensures.stops, c.ready-open.ensures.small))

-- what `nearest_stop` gives is one of the stops left
found :
    (c : After-nearest_stop-s)
    → let s = c.nearest_stop-s.result in In s (stops_in c.loop-k.rest) × (s ≤ most_stops)
found c =
    underway_stop c.loop-k.invariant c.requires.1 c.loop-k-test.true c.ready-open.result c.ready-open.ensures.stops _ c.nearest_stop-s.result
    c.nearest_stop-s.ensures

pub without-rest-requires : goal.without-rest-requires
without-rest-requires c = (c.loop-k.invariant.small, (found c).0)

pub overflow_cast-x : goal.overflow_cast-x
overflow_cast-x c = omega (arith, found (goal.at.overflow_cast-x c).After-nearest_stop-s)
