-- `times` meets its contract. The loop's invariant: how often s stands among the stops that were gone through is counted, and is at
-- most how many they are.
use mathlib.Core.Path.{◌≡◌}
use Prim.Native.Nat.{◌≤◌}
use lib.ListN.{take}
use Rattle.orders.specs.Orders.{count}
use Rattle.checks.proofs.order.times.Given as goal

abbrev pub invariant-loop-r : goal.invariant-loop-r
invariant-loop-r l = (l.times ≤ l.r-index) × (l.times ≡ count l.s (take l.r-index l.x))
