-- The goals of `order::times` that the search leaves.
use mathlib.Core.Path.{refl}
use mathlib.Core.Bool.{Bool, true, false}
use Prim.Native.Nat.{◌≤◌}
use native.Mathlib.Omega.{arith}
use lib.Dec.{eqb}
use mir.Val.{bool_byte}
use Rattle.orders.specs.Orders.{count}
use Rattle.checks.proofs.OrderLaws.{counted_more}
use Rattle.checks.proofs.order.times.Goals as goal

one_at_most : (b : Bool) → bool_byte b ≤ 1
one_at_most true = omega arith
one_at_most false = omega arith

pub loop-r-init : goal.loop-r-init
unfolding count
loop-r-init c = (omega arith, refl)

pub overflow_add-times : goal.overflow_add-times
overflow_add-times c = omega (arith, c.loop-r.invariant.0, c.from-times.ensures, one_at_most (eqb c.from.result c.args.s))

pub loop-r-preserved : goal.loop-r-preserved
loop-r-preserved c =
    let more = counted_more c.args.s c.args.x.now c.loop-r.r-index c.loop-r-test.true in
    (omega (arith, c.loop-r.invariant.0, c.from-times.ensures, one_at_most (eqb c.from.result c.args.s)), rw (c.from-times.ensures, c.from.ensures, c.loop-r.invariant.1) more)
