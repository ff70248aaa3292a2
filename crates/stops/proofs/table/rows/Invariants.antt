-- `stops::table::rows` meets its contract. The first loop's invariant: the rows before i are those of the table, with rows of zeros behind. The
-- second's: the rows before s have lost their legs home.
use mathlib.Core.Path.{◌≡◌}
use Rattle.stops.specs.Code.{row_of}
use Rattle.stops.proofs.RowLaws.{zeros, filled, uncounted}
use Rattle.stops.proofs.table.rows.Given as goal

abbrev pub invariant-loop-i : goal.invariant-loop-i
invariant-loop-i l = l.t ≡ filled l.i (row_of l.n l.table) (λ k. zeros)

abbrev pub invariant-loop-s : goal.invariant-loop-s
invariant-loop-s l = l.t ≡ uncounted l.n l.table l.s
