-- `costs` meets its contract: the figures of what is read are those of record i (`figures-found`).
use mathlib.Core.Path.{◌∙◌}
use Rattle.inspection.proofs.FigureLaws.{figures-found}
use Rattle.node_records.proofs.costs.Goals as goal

pub returns : goal.returns
returns c =
    let a = c.args in
    c.figures_of.ensures ∙ figures-found a.pool.now a.i c.read-r.result c.read-r.ensures a.job a.table.now
