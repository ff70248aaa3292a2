-- `floor` meets its contract: the least bound of the places, one of which has a node, is that of the nodes.
use Rattle.records.specs.Code.{records}
use Rattle.selection.proofs.ChooseLaws.{floor-least}
use Rattle.selection.proofs.floor.Goals as goal

pub returns : goal.returns
returns c =
    floor-least (records c.args.w.now) c.args.used c.requires.0 c.least_in.result c.least_in.ensures c.requires.1
