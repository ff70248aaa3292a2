-- `stops::table::small_charges` meets its contract. The loop's invariant: whether some charge is above the dearest lies with those from j on.
use Rattle.stops.proofs.RowLaws.{Clear}
use Rattle.stops.proofs.table.small_charges.Given as goal

abbrev pub invariant-loop-j : goal.invariant-loop-j
invariant-loop-j l = Clear l.n l.table l.j
