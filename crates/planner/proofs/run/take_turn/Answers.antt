-- `take_turn` meets its contract: the turn of the node that the selection picks, or the refusal of a selection that there is not.
use mathlib.Core.Path.{refl}
use Rattle.planner.proofs.TurnLaws.{turn_chooses}
use Rattle.planner.proofs.run.take_turn.Goals as goal

pub choose-requires : goal.choose-requires
choose-requires c = turn_chooses c.requires.0.2

-- what `choose` refuses is handed on
pub returns-in-Err : goal.returns-in-Err
returns-in-Err c first s running = (c.in-Err.ensures.0, (c.in-Err.ensures.1, refl))
