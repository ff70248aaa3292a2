-- `is_order` meets its contract: a list of another length is no order, and the two tests make up the test for orders.
use native.Mathlib.Omega.{arith}
use Rattle.orders.specs.Orders.{is_order}
use Rattle.checks.proofs.OrderLaws.{other_length}
use Rattle.checks.proofs.order.is_order.Goals as goal

pub returns-then-each_once : goal.returns-then-each_once
unfolding is_order
returns-then-each_once c = grind arith

pub returns-else-each_once : goal.returns-else-each_once
unfolding is_order
returns-else-each_once c = grind (arith, other_length)
