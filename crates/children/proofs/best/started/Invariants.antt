-- `started` meets its contract. The invariant: x is what is built of the first k stops (the loop does not look at the setting, so they are
-- those of an order of any n).
use Prim.Native.Nat.{ℕ, ◌≤◌}
use Rattle.sizes.specs.Sizes.{most_stops}
use Rattle.orders.specs.Orders.{Order}
use Rattle.children.proofs.FlownLaws.{Flown}
use Rattle.children.proofs.best.started.Given as goal

abbrev pub invariant-loop-s : goal.invariant-loop-s
invariant-loop-s l = (n : ℕ) → n ≤ most_stops → Order n l.start → Flown n l.start l.s-index l.x
