-- The goals of `table::rows` that the search leaves.
use mathlib.Core.Path.{◌≡◌, sym, ap, ◌∙◌}
use mathlib.Core.Bool.{Bool, false}
use native.Mathlib.Omega.{arith}
use Rattle.stops.specs.Tables.{rows}
use Rattle.stops.proofs.RowLaws.{zeros, filled_none, filled_more, filled-rows, uncounted-none, uncounted_more, uncounted-all}
use Rattle.stops.proofs.table.rows.Goals as goal
use Rattle.stops.proofs.table.rows.Goals.{After-ends_away}

pub loop-i-preserved : goal.loop-i-preserved
loop-i-preserved c = rw (c.loop-i.invariant, c.row.ensures) (filled_more _ _ _ (omega arith))

-- the rows once they are loaded, seen from where it is known how the day ends
loaded : (c : After-ends_away) → let a = c.args in
    c.loop-i.t ≡ rows a.n false a.table.now
loaded c =
    c.loop-i.invariant ∙ filled-rows c.args.n _ c.loop-i.i (omega arith) (omega arith)

pub loop-s-init : goal.loop-s-init
loop-s-init c = loaded (goal.at.loop-s-init c).After-ends_away ∙ uncounted-none _ _

pub loop-s-preserved : goal.loop-s-preserved
loop-s-preserved c = rw c.loop-s.invariant (uncounted_more _ _ _ (omega arith))

pub returns-after-loop-s : goal.returns-after-loop-s
returns-after-loop-s c =
    let a = c.args in
    c.loop-s.invariant ∙ uncounted-all a.n _ c.loop-s.s (omega arith) (omega arith)
    ∙ ap (λ (b : Bool). rows a.n b a.table.now) (sym c.if-ends_away.true ∙ c.ends_away.ensures)

pub returns-else-ends_away : goal.returns-else-ends_away
returns-else-ends_away c =
    let a = c.args in
    loaded (goal.at.returns-else-ends_away c).After-ends_away ∙ ap (λ (b : Bool). rows a.n b a.table.now) (sym c.if-ends_away.false ∙ c.ends_away.ensures)

pub loop-i-init : goal.loop-i-init
loop-i-init c = filled_none _ (λ k. zeros)
