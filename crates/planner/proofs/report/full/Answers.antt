-- `full` meets its contract: number 7, and zeros beside the counts.
use Rattle.planner.specs.Code.{full_by}
use Rattle.planner.proofs.report.full.Goals as goal

pub returns : goal.returns
unfolding full_by
returns c = c.ended.ensures
