-- `wrong_n` meets its contract.
use native.Mathlib.Omega.{arith}
use Rattle.answer.specs.Checks.{cause₁}
use Rattle.checks.proofs.wrong_n.Goals as goal

pub returns-then-n-eq0 : goal.returns-then-n-eq0
unfolding cause₁
returns-then-n-eq0 c = grind arith

pub returns-else-n-eq0 : goal.returns-else-n-eq0
unfolding cause₁
returns-else-n-eq0 c = grind arith
