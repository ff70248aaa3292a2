-- `pair_cause` meets its contract: pairs that do not pass have cause 11; of those that do, a starting order against them has cause 5.
use native.Mathlib.Omega.{arith}
use Rattle.answer.specs.Checks.{against_pairs, pair_cause}
use Rattle.checks.proofs.pair_cause.Goals as goal

pub returns-then-wrong_pairs : goal.returns-then-wrong_pairs
unfolding pair_cause against_pairs
returns-then-wrong_pairs c = grind arith

pub returns-then-against : goal.returns-then-against
unfolding pair_cause against_pairs
returns-then-against c = grind arith

pub returns : goal.returns
unfolding pair_cause against_pairs
returns c = grind arith
