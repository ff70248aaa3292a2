-- `wrong_pairs` meets its contract: the tests are those of cause 11, one after another.
use native.Mathlib.Omega.{arith}
use Rattle.answer.specs.Checks.{cause₁₁}
use Rattle.checks.proofs.pair_file.wrong_pairs.Goals as goal

pub returns-then-not-only_stops : goal.returns-then-not-only_stops
unfolding cause₁₁
returns-then-not-only_stops c = grind arith

pub returns-else-not-only_stops : goal.returns-else-not-only_stops
unfolding cause₁₁
returns-else-not-only_stops c = grind arith
