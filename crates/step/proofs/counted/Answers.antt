-- `counted` meets its contract: it makes the run field by field.
use Rattle.step.specs.Code.{run_after}
use Rattle.step.proofs.counted.Goals as goal

pub returns : goal.returns
unfolding run_after
returns c = rw c.max.ensures
