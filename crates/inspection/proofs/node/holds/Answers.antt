-- `node::holds` meets its contract: the bit is the stop's (`SetLaws`).
use Rattle.inspection.proofs.SetLaws.{set-flown}
use Rattle.inspection.proofs.node.holds.Goals as goal

pub returns : goal.returns
returns c = set-flown c.args.set c.args.s c.requires.0 c.requires.1
