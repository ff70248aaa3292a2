-- `sized_at` meets its contract: the record is loaded, and the stops of its set are counted.
use Rattle.lanes.specs.Code.{sized}
use Rattle.lanes.proofs.sized_at.Goals as goal

pub returns : goal.returns
unfolding sized
returns c = rw c.load-x.ensures
