-- `unknown_bound` meets its contract.
use mathlib.Core.Path.{refl}
use Rattle.answer.specs.Checks.{no_such_bound}
use Rattle.checks.proofs.unknown_bound.Goals as goal

pub returns : goal.returns
unfolding no_such_bound
returns c = refl
