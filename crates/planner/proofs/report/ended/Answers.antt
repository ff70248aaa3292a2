-- `ended` meets its contract: each field is what was passed.
use mathlib.Core.Path.{refl}
use Rattle.planner.specs.Code.{reported}
use Rattle.planner.proofs.report.ended.Goals as goal

pub returns : goal.returns
unfolding reported
returns c = refl
