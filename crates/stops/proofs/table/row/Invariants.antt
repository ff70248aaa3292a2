-- `stops::table::row` meets its contract. The loop's invariant: the array is filled with what flying costs to the places before j, with zeros
-- behind.
use mathlib.Core.Path.{◌≡◌}
use Rattle.stops.specs.Tables.{flying}
use Rattle.stops.proofs.RowLaws.{filled}
use Rattle.stops.proofs.table.row.Given as goal

abbrev pub invariant-loop-j : goal.invariant-loop-j
invariant-loop-j l = l.r ≡ filled l.j (flying l.n l.table l.i) (λ k. 0)
