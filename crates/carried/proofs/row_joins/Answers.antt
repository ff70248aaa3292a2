-- `carried::row_joins` meets its contract: where the stops left reach no further, the cells behind are nobody's.
use native.Mathlib.Omega.{arith}
use Rattle.carried.proofs.RowLaws.{row_ends, row_on}
use Rattle.carried.proofs.row_joins.Goals as goal

pub returns-then-rest-lt-REACHES_SECOND : goal.returns-then-rest-lt-REACHES_SECOND
returns-then-rest-lt-REACHES_SECOND c = row_ends _ _ 4 c.cells_join.ensures c.requires.0 (omega arith)

pub returns-then-rest-lt-REACHES_THIRD : goal.returns-then-rest-lt-REACHES_THIRD
returns-then-rest-lt-REACHES_THIRD c =
    let to_8 = row_on _ _ 4 c.cells_join.ensures 8 (omega arith) c.cells_join-2.ensures in
    row_ends _ _ 8 to_8 c.requires.0 (omega arith)

pub returns-then-rest-lt-REACHES_FOURTH : goal.returns-then-rest-lt-REACHES_FOURTH
returns-then-rest-lt-REACHES_FOURTH c =
    let to_8 = row_on _ _ 4 c.cells_join.ensures 8 (omega arith) c.cells_join-2.ensures in
    let to_12 = row_on _ _ 8 to_8 12 (omega arith) c.cells_join-3.ensures in
    row_ends _ _ 12 to_12 c.requires.0 (omega arith)

pub returns : goal.returns
returns c =
    let to_8 = row_on _ _ 4 c.cells_join.ensures 8 (omega arith) c.cells_join-2.ensures in
    let to_12 = row_on _ _ 8 to_8 12 (omega arith) c.cells_join-3.ensures in
    let to_16 = row_on _ _ 12 to_12 16 (omega arith) c.cells_join-4.ensures in
    row_ends _ _ 16 to_16 c.requires.0 c.requires.0
