-- `wrong_start` meets its contract: the tests are those of cause 5.
use native.Mathlib.Omega.{arith}
use Rattle.answer.specs.Checks.{cause₅}
use Rattle.checks.proofs.CauseLaws.{empty-length}
use Rattle.checks.proofs.wrong_start.Goals as goal

pub returns : goal.returns
unfolding cause₅
returns c = grind (arith, empty-length)
