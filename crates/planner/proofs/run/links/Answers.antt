-- `links` meets its contract: by whether a rule looks along the chains.
use native.Mathlib.Omega.{arith}
use Rattle.planner.specs.Code.{links}
use Rattle.planner.proofs.run.links.Goals as goal

pub returns-then-rule : goal.returns-then-rule
unfolding links
returns-then-rule c = grind arith

pub returns-else-rule : goal.returns-else-rule
unfolding links
returns-else-rule c = grind arith
