-- The goals of `table::row` that the search leaves.
use mathlib.Core.Path.{◌∙◌}
use native.Mathlib.Omega.{arith}
use Rattle.stops.proofs.RowLaws.{filled_none, filled_more, filled_row}
use Rattle.stops.proofs.table.row.Goals as goal

pub loop-j-preserved : goal.loop-j-preserved
loop-j-preserved c = rw (c.loop-j.invariant, c.flying.ensures) (filled_more _ _ _ (omega arith))

pub returns : goal.returns
returns c = c.loop-j.invariant ∙ filled_row c.args.n _ c.loop-j.j (omega arith) (omega arith) _

pub loop-j-init : goal.loop-j-init
loop-j-init c = filled_none _ (λ k. 0)
