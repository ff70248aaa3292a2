-- `is_stop` meets its contract.
use native.Mathlib.Omega.{arith}
use Rattle.checks.proofs.OrderLaws.{stop_flown}
use Rattle.checks.proofs.order.is_stop.Goals as goal

pub returns-then-s-ge1 : goal.returns-then-s-ge1
returns-then-s-ge1 c = grind (arith, stop_flown)

pub returns-else-s-ge1 : goal.returns-else-s-ge1
returns-else-s-ge1 c = grind (arith, stop_flown)
