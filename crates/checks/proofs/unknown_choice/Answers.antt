-- `unknown_choice` meets its contract: the tests are those of cause 4.
use native.Mathlib.Omega.{arith}
use Rattle.answer.specs.Checks.{cause₄}
use Rattle.checks.proofs.unknown_choice.Goals as goal

pub returns-then-job-gt15 : goal.returns-then-job-gt15
unfolding cause₄
returns-then-job-gt15 c = grind arith

pub returns-else-job-gt15 : goal.returns-else-job-gt15
unfolding cause₄
returns-else-job-gt15 c = grind arith
