-- `node::is_record` meets its contract. The loop's invariant is `Retraced`: what is built from the first k stops is the record of the node
-- that they are.
use Rattle.inspection.specs.Code.{of_four}
use Rattle.inspection.proofs.Retrace.{Retraced}
use Rattle.inspection.proofs.node.is_record.Given as goal

abbrev pub invariant-loop-k : goal.invariant-loop-k
invariant-loop-k l = Retraced l.n (of_four l.size l.set l.first l.second) l.x l.k
