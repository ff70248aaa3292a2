-- The goals of `cells_join` that the search leaves.
use native.Mathlib.Omega.{arith}
use Rattle.carried.specs.Code.{lessened}
use Rattle.carried.proofs.RowLaws.{entered_more}
use Rattle.carried.proofs.cells_join.Goals as goal

pub loop-s-preserved : goal.loop-s-preserved
unfolding lessened
loop-s-preserved c =
    let l = c.loop-s in
    entered_more l.invariant (omega arith) (omega arith)
    (rw (c.min.ensures, c.from_another.ensures, l.invariant.late l.s (omega arith)))
