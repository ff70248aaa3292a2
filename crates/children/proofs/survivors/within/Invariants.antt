-- `within` meets its contract. The loop's invariant: `kept` has those of the stops passed whose children have a bound up to the limit
-- (`Thinning`).
use Rattle.records.specs.Code.{records}
use Rattle.records.proofs.SlotLaws.{Thinning}
use Rattle.lanes.specs.Code.{is_within}
use Rattle.children.proofs.survivors.within.Given as goal

abbrev pub invariant-loop-s : goal.invariant-loop-s
invariant-loop-s l = Thinning (is_within l.limit) (records l.kids) l.alive l.kept l.s-iterator.left
