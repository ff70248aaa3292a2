-- `is_node` meets its contract: the verdict on what is read goes by its size, its set and its order.
use mathlib.Core.Path.{refl}
use Rattle.inspection.specs.Code.{of_four}
use Rattle.node_answers.specs.Nodes.{flown_stops, is_record_of, is_node}
use Rattle.node_answers.specs.Answers.{found, verdict}
use Rattle.node_records.proofs.is_node.Goals as goal

pub returns : goal.returns
unfolding found verdict of_four is_node is_record_of flown_stops
returns c = rw (c.verdict_of.ensures, c.read-r.ensures) refl
