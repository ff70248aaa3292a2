-- `cost::no_figures` meets its contract: the five fields are those of `no_figures`.
use mathlib.Core.Path.{refl}
use Rattle.node_answers.specs.Answers.{no_figures}
use Rattle.inspection.proofs.cost.no_figures.Goals as goal

pub returns : goal.returns
unfolding no_figures
returns c = refl
