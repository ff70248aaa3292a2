-- `learn` meets its contract. The invariant: what stands for U and its order after what is known and the children by the stops left stands
-- for them after all children (`Learning`).
use Rattle.records.specs.Code.{records}
use Rattle.children.proofs.BestLaws.{Learning}
use Rattle.children.proofs.best.learn.Given as goal

abbrev pub invariant-loop-s : goal.invariant-loop-s
invariant-loop-s l = Learning l.size (records l.kids) l.born l.initial.known l.known l.s-iterator.left
