-- `family::family` meets its contract. The loop's invariant: the children by the stops passed stand in their slots (`Placing`),
-- each with its leg and with what its bound adds as `child_costs` found them.
use lib.ListN.{get_or}
use Rattle.carried.specs.Code.{ahead_of}
use Rattle.records.specs.Code.{records}
use Rattle.children.specs.Code.{born_of}
use Rattle.children.proofs.FamilyLaws.{Placing}
use Rattle.children.proofs.family.family.Given as goal

abbrev pub invariant-loop-s : goal.invariant-loop-s
invariant-loop-s l =
    Placing (λ s. born_of l.b s (get_or l.costs.legs s 0) (ahead_of l.costs.family (get_or l.into s 0) s)) l.born (records l.kids) l.s-iterator.left
