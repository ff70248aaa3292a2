-- `stops::table::small` meets its contract. The loop's invariant: whether some number is above the dearest leg lies with the numbers that are left.
use lib.Dec.{ltb}
use Rattle.sizes.specs.Sizes.{dearest_leg}
use Rattle.lists.proofs.Elements.{Rest}
use Rattle.stops.proofs.table.small.Given as goal

abbrev pub invariant-loop-w : goal.invariant-loop-w
invariant-loop-w l = Rest (ltb dearest_leg) l.table l.w-index
