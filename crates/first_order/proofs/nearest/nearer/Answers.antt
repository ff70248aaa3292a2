-- `nearest::nearer` meets its contract: the test compares the two legs.
use Prim.Native.Nat.{◌≤◌, ◌<◌}
use native.Mathlib.Omega.{arith}
use borrow.Author.Rules.{rules}
use borrow.Author.Tests.{lt-ltb, le-ltb}
use Rattle.stops.specs.Legs.{legs}
use Rattle.stops.specs.Code.{reckoning, reckon_on}
use Rattle.first_order.proofs.nearest.nearer.Goals as goal

pub returns-then-further : goal.returns-then-further
unfolding reckon_on reckoning
returns-then-further c =
    let a = c.args in
    let closer : (legs a.t.now).leg a.place a.b < (legs a.t.now).leg a.place a.a = omega arith in
    (rw (lt-ltb _ _ closer), search rules)

pub returns-else-further : goal.returns-else-further
unfolding reckon_on reckoning
returns-else-further c =
    let a = c.args in
    let as-near : (legs a.t.now).leg a.place a.a ≤ (legs a.t.now).leg a.place a.b = omega arith in
    (rw (le-ltb _ _ as-near), search rules)
