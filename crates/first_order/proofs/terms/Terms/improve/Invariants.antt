-- `improve` meets its contract. The loop's invariant: the order settles to what it settles to at entry, and its cost and its best exchange
-- are those that are held (`Improving`). The measure is the cost.
use Rattle.first_order.proofs.ExchangeLaws.{Improving}
use Rattle.first_order.proofs.terms.Terms.improve.Given as goal

abbrev pub invariant-loop-found : goal.invariant-loop-found
invariant-loop-found l = Improving l.self l.initial.x l.x l.cost l.found

abbrev pub decreases-loop-found : goal.decreases-loop-found
decreases-loop-found l = l.cost
