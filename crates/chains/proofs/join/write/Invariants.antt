-- `write` meets its contract. The loop's invariant: the part's first k records are the children by the stops passed, each with its link
-- (`Joining`).
use Rattle.records.specs.Code.{records}
use Rattle.chains.proofs.JoinLaws.{Joining}
use Rattle.chains.proofs.join.write.Given as goal

abbrev pub invariant-loop-s : goal.invariant-loop-s
invariant-loop-s l = Joining l.p (records l.initial.part) (records l.kids) l.alive l.initial.index (records l.part) l.index l.s-iterator.left l.k
