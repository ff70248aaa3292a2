-- `cost::along` meets its contract. The loop's invariant is `Along`: the path cost and the last place are those of the first k stops.
use Rattle.inspection.specs.Code.{of_four}
use Rattle.inspection.proofs.PathLaws.{Along}
use Rattle.inspection.proofs.cost.along.Given as goal

abbrev pub invariant-loop-k : goal.invariant-loop-k
invariant-loop-k l = Along l.t (of_four l.size 0 l.first l.second) l.size l.path l.place l.k
