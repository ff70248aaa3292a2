-- `stops::table::entry` meets its contract: the place is within the table.
use native.Mathlib.Omega.{arith}
use Rattle.stops.proofs.RowLaws.{Inside, entry_at, place_inside}
use Rattle.stops.proofs.table.entry.Goals as goal
use Rattle.stops.proofs.table.entry.Goals.{Start}

inside : (c : Start) → Inside c.args.n c.args.table.now c.args.i c.args.j
inside c =
    let p = c.requires in
    place_inside c.args.n c.args.table.now c.args.i c.args.j (p.0, p.1.0) p.1.1.0 p.1.1.1

pub returns : goal.returns
returns c = entry_at _ _ _ _

pub overflow_add-result : goal.overflow_add-result
overflow_add-result c = omega (arith, inside c)

pub overflow_mul-result : goal.overflow_mul-result
overflow_mul-result c = omega (arith, inside c)

pub overflow_add-result-2 : goal.overflow_add-result-2
overflow_add-result-2 c = omega (arith, inside c)

pub offset_bounds-table-i : goal.offset_bounds-table-i
offset_bounds-table-i c = omega (arith, inside c)

pub bounds-table-i : goal.bounds-table-i
bounds-table-i c = omega (arith, inside (goal.at.bounds-table-i c).Start)
