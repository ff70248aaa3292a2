-- `layout_of` meets its contract: each field is the one that `layout_of` names.
use native.Mathlib.Omega.{arith}
use Rattle.planner.specs.Code.{layout_of}
use Rattle.planner.proofs.run.layout_of.Goals as goal

pub returns : goal.returns
unfolding layout_of
returns c = grind arith
