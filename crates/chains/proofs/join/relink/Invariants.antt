-- `relink` meets its contract. The loop's invariant: the lane's first k records are chained, the index differs in the lane's heads alone,
-- and the pool in the size words of the lane's records (`Relinking`).
use Rattle.records.specs.Code.{records}
use Rattle.chains.proofs.RelinkLaws.{Relinking}
use Rattle.chains.proofs.join.relink.Given as goal

abbrev pub invariant-loop-k : goal.invariant-loop-k
invariant-loop-k l = Relinking (records l.initial.w) l.p l.initial.index (records l.w) l.index l.k
