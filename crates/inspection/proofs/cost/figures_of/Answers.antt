-- `cost::figures_of` meets its contract: each `return` is the case of `figures` that its tests name (`FigureLaws`). The refusal by a number is
-- found by `figures_refused`.
use mathlib.Core.Path.{sym, ◌∙◌}
use Rattle.stops.specs.declared.node_record.Record.{Record}
use Rattle.inspection.specs.Code.{of_four}
use Rattle.inspection.proofs.FigureLaws.{figures_outside, figures-other}
use Rattle.inspection.proofs.cost.figures_of.Goals as goal
use Rattle.inspection.proofs.cost.figures_of.Goals.{Start}

-- the record
abbrev x : Start → Record
x c = of_four c.args.size c.args.set c.args.first c.args.second

pub returns-then-not-inside : goal.returns-then-not-inside
returns-then-not-inside c =
    rw c.if-not-inside.true
    (c.no_figures.ensures ∙ figures_outside (x (goal.at.returns-then-not-inside c).Start) c.args.job c.args.table.now)

pub returns-then-not-is_record : goal.returns-then-not-is_record
returns-then-not-is_record c =
    rw c.if-not-inside.false
    (c.no_figures-then-not-is_record.ensures
    ∙ figures-other (x (goal.at.returns-then-not-is_record c).Start) c.args.job c.args.table.now
    (sym c.in_default.ensures)
    (sym c.is_record.ensures ∙ c.if-not-is_record.true))
